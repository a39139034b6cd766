-- Where clap takes words, one of the commands is named, and the matches are what is asked.
use Rattle.std.proofs.Common.{◌≡◌, ◌∙◌, ap, ap₂, Bool, true, false, List, [], ◌∷◌, Option, Some, None, refl, sym, is_some, option_map}
use Rattle.std.specs.Prelude.{find, IfSome}
use Rattle.fsmd_words.proofs.Named.{Each, second_none, found_has, name_is}
use Rattle.clap.specs.Matches.{subcommand_name_of}
use Rattle.clap.specs.Words.{Row, Shape, Text, fault_of, subcommand_of, subcommand_rows_of}
use Rattle.clap.specs.Simple.{built, entered, rows_at, label_of, argument_words}
use Rattle.clap.specs.Walk.{answers_to, finished, nothing_held, stop_after, walk}
use Rattle.clap.specs.Simple.{names_of}
use Rattle.clap.specs.Kinds.{Kinds}
use Rattle.clap.specs.Faults.{check_fault, entered_fault}
use Rattle.clap.specs.declared.parser.matches.ArgMatches.{ArgMatches}
use Rattle.clap.specs.declared.parser.matches.ArgMatches.TheViews.{out-ArgMatches}
use Rattle.show_words.specs.ViewCommandLine.{view_command_line}
use Rattle.show_words.specs.ViewWords.{AreTakenAsView, ShownView, shown_by, shown_in, shown_of, matched_view_of, where_taken}

abbrev IsCommand : Shape → Type 0
IsCommand s = (rows : List Row) → is_some (shown_by s.name rows) ≡ true

are_commands : Each IsCommand (built view_command_line).subs
are_commands = ((λ rows. refl), ((λ rows. refl), ((λ rows. refl), ((λ rows. refl), ((λ rows. refl), ((λ rows. refl), tt))))))

found_asks :
    (o : Option Shape) (words : List Text) → IfSome o IsCommand → is_some (option_map (λ s. rows_at s words) o) ≡ true
    → is_some (shown_in (option_map (λ s. rows_at s words) o)) ≡ true
found_asks None words h some = some
found_asks (Some s) words h some = h (rows_at s words).1

entered_asks : (stop : Option (Text × List Text)) → is_some (entered (built view_command_line) stop) ≡ true
    → is_some (shown_in (entered (built view_command_line) stop)) ≡ true
entered_asks None some = some
entered_asks (Some p) some =
    found_asks (find (λ s. answers_to p.0 (label_of s)) (built view_command_line).subs) p.1
    (found_has (λ s. answers_to p.0 (label_of s)) IsCommand (built view_command_line).subs are_commands) some

needs_command : (rows : List Row) (has : Bool) → check_fault (built view_command_line).top rows has ≡ [] → has ≡ true
needs_command rows true e = refl
needs_command rows false e = cc

-- where no step fails, what the matches ask is known
is_matched : (words : List Text) → AreTakenAsView words → is_some (matched_view_of words) ≡ true
is_matched words e =
    let stop = stop_after (built view_command_line).top.rules (names_of (built view_command_line)) (argument_words view_command_line words) in
    entered_asks stop
    (needs_command
    (finished (built view_command_line).top.rules
    (walk (built view_command_line).top.rules (names_of (built view_command_line)) nothing_held (argument_words view_command_line words)).held)
    (is_some (entered (built view_command_line) stop))
    (second_none _ _ (second_none _ _ (second_none (entered_fault (built view_command_line) stop) _ (second_none _ _ e)))))

pair_is :
    (o : Option (Text × List Row)) (name : Text) (rows : List Row) → Some name ≡ option_map (λ p. p.0) o → Some rows ≡ option_map (λ p. p.1) o
    → shown_by name rows ≡ shown_in o
pair_is None name rows e f = cc
pair_is (Some p) name rows e f =
    let first : name ≡ p.0 = cc in
    let second : rows ≡ p.1 = cc in
    ap₂ shown_by first second

-- what a command of the matches' name asks by its rows
pub sub_asks :
    (m : ArgMatches) (words : List Text) (name : Text) (rows : List Row) → Some name ≡ subcommand_name_of m
    → Some rows ≡ option_map (λ p. p.1) (subcommand_rows_of m) → subcommand_rows_of m ≡ subcommand_of view_command_line words
    → shown_by name rows ≡ matched_view_of words
sub_asks m words name rows e f same =
    pair_is (subcommand_rows_of m) name rows (e ∙ name_is (out-ArgMatches m).subcommand) f ∙ ap shown_in same

-- words whose command asks nothing are not taken
pub not_taken : (words : List Text) (o : Option ShownView) → o ≡ matched_view_of words → o ≡ None → AreTakenAsView words → ⊥
not_taken words o e none taken =
    let bad : false ≡ true = ap is_some (sym none ∙ e) ∙ is_matched words taken in
    cc

pub asked_is : (words : List Text) → shown_of words ≡ where_taken (fault_of view_command_line words) (matched_view_of words)
unfolding shown_of
asked_is words = refl

-- words that are taken ask what their matches ask
pub taken_asks : (words : List Text) → AreTakenAsView words → shown_of words ≡ matched_view_of words
taken_asks words taken = asked_is words ∙ ap (λ (kinds : Kinds). where_taken kinds (matched_view_of words)) taken

pub is_asked : (words : List Text) → AreTakenAsView words → is_some (shown_of words) ≡ true
is_asked words taken = ap is_some (taken_asks words taken) ∙ is_matched words taken

-- words that are not taken ask nothing
pub refused_asks : (words : List Text) → (AreTakenAsView words → ⊥) → shown_of words ≡ None
refused_asks words refused = asked_is words ∙ go (fault_of view_command_line words) refused
  where
    go : (kinds : Kinds) → (kinds ≡ [] → ⊥) → where_taken kinds (matched_view_of words) ≡ None
    go [] r = absurd (r refl)
    go (k ∷ ks) r = refl

-- words that ask something are taken
pub is_taken : (words : List Text) → is_some (shown_of words) ≡ true → AreTakenAsView words
is_taken words some = go (fault_of view_command_line words) (ap is_some (sym (asked_is words)) ∙ some)
  where
    go : (kinds : Kinds) → is_some (where_taken kinds (matched_view_of words)) ≡ true → kinds ≡ []
    go [] e = refl
    go (k ∷ ks) e = cc
