-- Where clap takes words, one of the commands is named, and the matches are what is asked.
use Rattle.std.proofs.Common.{◌≡◌, ◌∙◌, ap, ap₂, Bool, true, false, List, [], ◌∷◌, Option, Some, None, refl, subst, sym, is_some, option_map, cond}
use Rattle.std.specs.Prelude.{find, IfSome, Box}
use Rattle.std.specs.Box.{box_value}
use Rattle.clap.specs.Matches.{subcommand_name_of}
use Rattle.clap.specs.Words.{Row, Shape, Text, fault_of, subcommand_of, subcommand_rows, subcommand_rows_of}
use Rattle.clap.specs.Simple.{built, entered, rows_at, label_of, argument_words}
use Rattle.clap.specs.Walk.{answers_to, finished, nothing_held, stop_after, walk}
use Rattle.clap.specs.Simple.{names_of}
use Rattle.clap.specs.Kinds.{Kinds, or_else}
use Rattle.clap.specs.Faults.{check_fault, entered_fault}
use Rattle.clap.specs.declared.parser.matches.ArgMatches.{ArgMatches}
use Rattle.clap.specs.declared.parser.matches.ArgMatches.TheViews.{out-ArgMatches, out-SubCommand}
use Rattle.clap.specs.declared.parser.matches.SubCommand.{SubCommand}
use Rattle.fsmd_command_line.specs.CommandLine.{command_line}
use Rattle.fsmd_words.specs.AskedWords.{AreParsed, AreTaken, Asked, IsByTurns, asked_by, asked_in, asked_of, is_by_turns, matched_of, where_by_turns}
use Rattle.fsmd_words.specs.AskedWords.{where_parsed}
use Rattle.fsmd_words.specs.Examples.{Asks}

-- what each shape in a list has, the one that is found has
abbrev pub Each : (Shape → Type 0) → List Shape → Type 0
Each P [] = Unit {0}
Each P (x ∷ xs) = P x × Each P xs

pub found_here : (P : Shape → Type 0) (x : Shape) (rest : Option Shape) (b : Bool) → P x → IfSome rest P → IfSome (cond b (Some x) rest) P
found_here P x rest true here there = here
found_here P x rest false here there = there

pub found_has : (f : Shape → Bool) (P : Shape → Type 0) (xs : List Shape) → Each P xs → IfSome (find f xs) P
found_has f P [] h = tt
found_has f P (x ∷ xs) h = found_here P x (find f xs) (f x) h.0 (found_has f P xs h.1)

abbrev IsCommand : Shape → Type 0
IsCommand s = (rows : List Row) → is_some (asked_by s.name rows) ≡ true

are_commands : Each IsCommand (built command_line).subs
are_commands = (
  (λ rows. refl),
  (
    (λ rows. refl),
    (
      (λ rows. refl),
      (
        (λ rows. refl),
        (
          (λ rows. refl),
          (
            (λ rows. refl),
            (
              (λ rows. refl),
              ((λ rows. refl), ((λ rows. refl), ((λ rows. refl), ((λ rows. refl), ((λ rows. refl), tt))))),
            ),
          ),
        ),
      ),
    ),
  ),
)

found_asks : (o : Option Shape) (words : List Text) → IfSome o IsCommand → is_some (option_map (λ s. rows_at s words) o) ≡ true
    → is_some (asked_in (option_map (λ s. rows_at s words) o)) ≡ true
found_asks None words h some = some
found_asks (Some s) words h some = h (rows_at s words).1

entered_asks : (stop : Option (Text × List Text)) → is_some (entered (built command_line) stop) ≡ true
    → is_some (asked_in (entered (built command_line) stop)) ≡ true
entered_asks None some = some
entered_asks (Some p) some =
    found_asks (find (λ s. answers_to p.0 (label_of s)) (built command_line).subs) p.1
    (found_has (λ s. answers_to p.0 (label_of s)) IsCommand (built command_line).subs are_commands) some

-- of two lists of kinds one after the other, the first is empty where the whole is, and so is the second
pub first_none : (a b : Kinds) → or_else a b ≡ [] → a ≡ []
first_none [] b e = refl
first_none (k ∷ ks) b e = cc

pub second_none : (a b : Kinds) → or_else a b ≡ [] → b ≡ []
second_none [] b e = e
second_none (k ∷ ks) b e = cc

needs_command : (rows : List Row) (has : Bool) → check_fault (built command_line).top rows has ≡ [] → has ≡ true
needs_command rows true e = refl
needs_command rows false e = cc

-- where no step fails, what the matches ask is known
pub is_matched : (words : List Text) → AreParsed words → is_some (matched_of words) ≡ true
is_matched words e =
    let stop = stop_after (built command_line).top.rules (names_of (built command_line)) (argument_words command_line words) in
    entered_asks stop
    (needs_command
    (finished (built command_line).top.rules
    (walk (built command_line).top.rules (names_of (built command_line)) nothing_held (argument_words command_line words)).held)
    (is_some (entered (built command_line) stop))
    (second_none _ _ (second_none _ _ (second_none (entered_fault (built command_line) stop) _ (second_none _ _ e)))))

pub name_is : {Z : Type 0} (o : Option (Box SubCommand Z))
    → option_map (λ b. (out-SubCommand (box_value b)).name.now) o ≡ option_map (λ p. p.0) (subcommand_rows o)
name_is None = refl
name_is (Some b) = refl

pair_is : (o : Option (Text × List Row)) (name : Text) (rows : List Row) → Some name ≡ option_map (λ p. p.0) o → Some rows ≡ option_map (λ p. p.1) o
    → asked_by name rows ≡ asked_in o
pair_is None name rows e f = cc
pair_is (Some p) name rows e f =
    let first : name ≡ p.0 = cc in
    let second : rows ≡ p.1 = cc in
    ap₂ asked_by first second

-- what a command of the matches' name asks by its rows
pub sub_asks : (m : ArgMatches) (words : List Text) (name : Text) (rows : List Row) → Some name ≡ subcommand_name_of m
    → Some rows ≡ option_map (λ p. p.1) (subcommand_rows_of m) → subcommand_rows_of m ≡ subcommand_of command_line words
    → asked_by name rows ≡ matched_of words
sub_asks m words name rows e f same =
    pair_is (subcommand_rows_of m) name rows (e ∙ name_is (out-ArgMatches m).subcommand) f ∙ ap asked_in same

-- words whose command asks nothing, or whose files are not by turns, are not taken
pub not_taken : (words : List Text) (o : Option Asked) → o ≡ matched_of words → IfSome o (λ what. is_by_turns what ≡ false) → AreTaken words → ⊥
not_taken words o e other taken =
    go (matched_of words) (is_matched words taken.0) taken.1 (subst (λ (x : Option Asked). IfSome x (λ what. is_by_turns what ≡ false)) e other)
  where
    go : (x : Option Asked) → is_some x ≡ true → IfSome x IsByTurns → IfSome x (λ what. is_by_turns what ≡ false) → ⊥
    go None some by_turns other = cc
    go (Some what) some by_turns other =
        let bad : true ≡ false = sym by_turns ∙ other in
        cc

pub asked_is : (words : List Text) → asked_of words ≡ where_parsed (fault_of command_line words) (where_by_turns (matched_of words))
unfolding asked_of
asked_is words = refl

kept : (o : Option Asked) → IfSome o IsByTurns → where_by_turns o ≡ o
kept None h = refl
kept (Some what) h = rw h refl

-- words that are taken ask what their matches ask
pub taken_asks : (words : List Text) → AreTaken words → asked_of words ≡ matched_of words
taken_asks words taken =
    asked_is words ∙ ap (λ (kinds : Kinds). where_parsed kinds (where_by_turns (matched_of words))) taken.0 ∙ kept (matched_of words) taken.1

pub is_asked : (words : List Text) → AreTaken words → is_some (asked_of words) ≡ true
is_asked words taken = ap is_some (taken_asks words taken) ∙ is_matched words taken.0

-- words that clap takes, whose matches ask this by turns, are taken
pub are_taken : (words : List Text) (what : Asked) → AreParsed words → matched_of words ≡ Some what → IsByTurns what → AreTaken words
are_taken words what parsed e by_turns = (parsed, subst (λ (o : Option Asked). IfSome o IsByTurns) (sym e) by_turns)

-- words that clap takes ask what their matches ask, by turns
pub parsed_asks : (words : List Text) (what : Asked) → AreParsed words → matched_of words ≡ Some what → IsByTurns what → Asks words what
parsed_asks words what parsed e by_turns =
    let taken = are_taken words what parsed e by_turns in
    (taken, taken_asks words taken ∙ e)

-- words that are not taken ask nothing
pub refused_asks : (words : List Text) → (AreTaken words → ⊥) → asked_of words ≡ None
refused_asks words refused = asked_is words ∙ go (fault_of command_line words) (matched_of words) (λ parsed by_turns. refused (parsed, by_turns))
  where
    tested : (what : Asked) (b : Bool) → is_by_turns what ≡ b → (IsByTurns what → ⊥) → where_by_turns (Some what) ≡ None
    tested what true e r = absurd (r e)
    tested what false e r = rw e refl

    go : (kinds : Kinds) (o : Option Asked) → (kinds ≡ [] → IfSome o IsByTurns → ⊥) → where_parsed kinds (where_by_turns o) ≡ None
    go [] None r = refl
    go [] (Some what) r = tested what (is_by_turns what) refl (r refl)
    go (k ∷ ks) o r = refl

-- words that ask something are taken
pub is_taken : (words : List Text) → is_some (asked_of words) ≡ true → AreTaken words
is_taken words some = go (fault_of command_line words) (matched_of words) (ap is_some (sym (asked_is words)) ∙ some)
  where
    tested : (what : Asked) (b : Bool) → is_by_turns what ≡ b → is_some (where_by_turns (Some what)) ≡ true → IsByTurns what
    tested what true e some = e
    tested what false e some =
        let bad : false ≡ true = rw e at some in
        cc

    go : (kinds : Kinds) (o : Option Asked) → is_some (where_parsed kinds (where_by_turns o)) ≡ true → (kinds ≡ []) × IfSome o IsByTurns
    go [] None e = (refl, tt)
    go [] (Some what) e = (refl, tested what (is_by_turns what) refl e)
    go (k ∷ ks) o e = cc
