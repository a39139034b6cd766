-- A parse of a chain's words fails, or it holds from 3 to 129 files.
use Rattle.std.proofs.Common.{◌≡◌, ◌≤◌, ◌||◌, subst, sym, refl, cond, ℕ, Bool, true, false, List, [], ◌∷◌, ◌++◌, length, Option, Some, None, nat_lt, codes}
use Rattle.std.proofs.Common.{drop, encode_utf8, fold}
use Rattle.std.specs.Prelude.{◌==◌, slice_get}
use Rattle.std.specs.Option.{option_map_or}
use Rattle.std.specs.Str.{bytes_eq, chars}
use Rattle.std.proofs.lemmas.Bool.{ltb-false}
use Rattle.clap.specs.Lexer.{long_of, short_of}
use Rattle.clap.specs.Kinds.{Kinds, or_else, range_kinds}
use Rattle.clap.specs.Simple.{Shape, built_leaf, filled, help_rule, inherited, with_index}
use Rattle.clap.specs.Walk.{Held, Outcome, Rule, Step, Text, Waiting, Walk, after_flag, after_step, arg_by_index, bundle_met, bundle_step, finished, idle}
use Rattle.clap.specs.Walk.{long_or_other, nothing_held}
use Rattle.clap.specs.Walk.{plain, plain_word, positional, reacted, short_or_plain, short_word, to_positional, trailing, value, walk, walk_from, walked}
use Rattle.clap.specs.Faults.{bundle_fault, bundle_step_fault, check_fault, flag_word_fault, flags_fault, level_fault, long_fault, settle_fault, short_fault}
use Rattle.clap.specs.Faults.{turn_fault, walk_fault}
use Rattle.clap.specs.Words.{Row}
use Rattle.clap.specs.declared.error.kind.ErrorKind.TheVariants as kinds
use Rattle.fsmd_words.proofs.Named.{first_none, second_none}
use Rattle.fsmd_command_line.specs.CommandLine.{chain_command, program_alone}
use Rattle.fsmd_words.specs.AskedWords.{words_of}

-- the command of a chain as it is built, its arguments, and its flag for help
abbrev pub chain_built : Shape
chain_built = built_leaf (inherited program_alone chain_command)

abbrev pub chain_rules : List Rule
chain_rules = chain_built.rules

abbrev help_flag : Rule
help_flag = with_index 2 (filled help_rule)

-- ---- between two words

-- there is no row, and what is pending are these files
abbrev pub pending_files : List Text → Option (Text × List Text)
pending_files [] = None
pending_files (v ∷ vs) = Some (codes "files", v ∷ vs)

abbrev pub held_files : List Text → Held
held_files files = record { rows = []; pending = pending_files files; skip = 0 }

-- no option waits for a value; a positional may
abbrev pub waiting_for : Bool → Waiting
waiting_for false = idle
waiting_for true = positional

abbrev pub between : List Text → (waits is_trailing : Bool) → Walk
between files waits is_trailing =
    record { held = held_files files; waiting = waiting_for waits; position = 1; is_trailing = is_trailing; stopped = None }

record IsBetween (w : Walk) : Type 0 where
  files : List Text
  waits : Bool
  is_trailing : Bool
  is : w ≡ between files waits is_trailing

-- ---- one word

plain_stays : (waits : Bool) (word : Text) (h : Held) → plain_word chain_rules (waiting_for waits) word h ≡ (h, value)
plain_stays false word h = refl
plain_stays true word h = refl

-- a word that goes to the positional is one more file
pub positional_adds_file : (files : List Text) (waits is_trailing : Bool) (word : Text)
    → to_positional chain_rules (arg_by_index chain_rules 1) word (between files waits is_trailing) (held_files files)
    ≡ between (files ++ word ∷ []) true is_trailing
positional_adds_file [] waits false word = refl
positional_adds_file [] waits true word = refl
positional_adds_file (v ∷ vs) waits false word = refl
positional_adds_file (v ∷ vs) waits true word = refl

-- the flag for help fails, and so does each other flag
short_fails : (b : Bool) (h : Held) (rest : Text) (next : Held → Kinds)
    → short_fault chain_rules false (cond (b || false) (Some help_flag) None) rest h next ≡ [] → ⊥
short_fails true h rest next e =
    let used = first_none (or_else (settle_fault chain_rules false h) (kinds.DisplayHelp ∷ [])) (next (reacted chain_rules help_flag [] h)) e in
    let help = second_none (settle_fault chain_rules false h) (kinds.DisplayHelp ∷ []) used in
    cc
short_fails false h rest next e = cc

long_fails : (b : Bool) (h : Held) (v : Option Text) → long_fault chain_rules false (cond (b || false) (Some help_flag) None) v h ≡ [] → ⊥
long_fails true h (Some v) e = cc
long_fails true h None e =
    let help = second_none (settle_fault chain_rules false h) (kinds.DisplayHelp ∷ []) e in
    cc
long_fails false h v e = cc

first_flag : (o : Option ℕ) (files : List Text) (waits : Bool) (word flags : Text) (faults : Text → ℕ → Held → Kinds)
    (met : Text → ℕ → Outcome → Held → Held × Outcome)
    → bundle_step_fault chain_rules false o flags 0 (held_files files) faults ≡ []
    → after_flag chain_rules (waiting_for waits) word (bundle_step chain_rules o flags 0 plain (held_files files) met).0
    (bundle_step chain_rules o flags 0 plain (held_files files) met).1
    ≡ (held_files files, value)
first_flag None files waits word flags faults met e = plain_stays waits word (held_files files)
first_flag (Some x) files waits word flags faults met e =
    let rest = drop (length (encode_utf8 x)) flags in
    absurd (short_fails (104 == x) (held_files files) rest (faults rest 0) e)

flags_stay : (flags : Text) (files : List Text) (waits : Bool) (word : Text) → bundle_fault chain_rules false flags (held_files files) ≡ []
    → short_word chain_rules (waiting_for waits) word flags (held_files files) ≡ (held_files files, value)
unfolding bundle_met flags_fault
flags_stay [] files waits word e = plain_stays waits word (held_files files)
flags_stay (x ∷ xs) files waits word e =
    first_flag (slice_get (chars (x ∷ xs)) 0) files waits word (x ∷ xs) (flags_fault chain_rules false (length xs)) (bundle_met chain_rules (length xs)) e

short_stays : (o : Option Text) (files : List Text) (waits : Bool) (word : Text)
    → option_map_or (λ flags. bundle_fault chain_rules false flags (held_files files)) o [] ≡ []
    → short_or_plain chain_rules (waiting_for waits) word o (held_files files) ≡ (held_files files, value)
short_stays (Some flags) files waits word e = flags_stay flags files waits word e
short_stays None files waits word e = plain_stays waits word (held_files files)

long_stays : (o : Option (Text × Option Text)) (files : List Text) (waits : Bool) (word : Text)
    → flag_word_fault chain_rules false o word (held_files files) ≡ []
    → long_or_other chain_rules (waiting_for waits) word o (held_files files) ≡ (held_files files, value)
long_stays (Some p) files waits word e = absurd (long_fails (bytes_eq (codes "help") p.0) (held_files files) p.1 e)
long_stays None files waits word e = short_stays (short_of word) files waits word e

-- `--`, or a word that is a file
abbrev met_as : Bool → List Text → Bool → Text → Held × Step
met_as is_dashes files waits word =
    cond {A = Held × Step} is_dashes (held_files files, trailing 1) (long_or_other chain_rules (waiting_for waits) word (long_of word) (held_files files))

after_word : (is_dashes : Bool) (files : List Text) (waits : Bool) (word : Text)
    → cond is_dashes [] (flag_word_fault chain_rules false (long_of word) word (held_files files)) ≡ []
    → IsBetween (after_step chain_rules word (between files waits false) (met_as is_dashes files waits word).0 (met_as is_dashes files waits word).1)
after_word true files waits word e = record { files = files; waits = waits; is_trailing = true; is = refl }
after_word false files waits word e =
    subst (λ (m : Held × Step). IsBetween (after_step chain_rules word (between files waits false) m.0 m.1))
    (sym (long_stays (long_of word) files waits word e))
    (record { files = files ++ word ∷ []; waits = true; is_trailing = false; is = positional_adds_file files waits false word })

turn : (word : Text) (files : List Text) (waits is_trailing : Bool) → turn_fault chain_built [] (between files waits is_trailing) word ≡ []
    → IsBetween (walked chain_rules [] (between files waits is_trailing) word)
unfolding walked
turn word files waits true e = record { files = files ++ word ∷ []; waits = true; is_trailing = true; is = positional_adds_file files waits true word }
turn word files false false e = after_word (bytes_eq word (45 ∷ 45 ∷ [])) files false word (first_none _ _ e)
turn word files true false e = after_word (bytes_eq word (45 ∷ 45 ∷ [])) files true word (first_none _ _ e)

-- ---- all words

walks : (ws : List Text) (w : Walk) → IsBetween w → walk_fault chain_built [] w ws ≡ [] → IsBetween (fold (walked chain_rules []) w ws)
unfolding walk_fault
walks [] w b e = b
walks (word ∷ ws) w b e =
    let now = first_none (turn_fault chain_built [] w word) (walk_fault chain_built [] (walked chain_rules [] w word) ws) e in
    let later = second_none (turn_fault chain_built [] w word) (walk_fault chain_built [] (walked chain_rules [] w word) ws) e in
    walks ws (walked chain_rules [] w word)
    (subst (λ (v : Walk). turn_fault chain_built [] v word ≡ [] → IsBetween (walked chain_rules [] v word)) (sym b.is)
    (turn word b.files b.waits b.is_trailing) now) later

counted : (n : ℕ) → range_kinds 3 129 n ≡ [] → (3 ≤ n) × (n ≤ 129)
counted n e = tested (n == 0) (nat_lt n 3) refl (nat_lt 129 n) refl e
  where
    tested : (none low : Bool) → nat_lt n 3 ≡ low → (high : Bool) → nat_lt 129 n ≡ high
        → ◌≡◌ {A = Kinds} (cond none (kinds.InvalidValue ∷ []) (cond low (kinds.TooFewValues ∷ []) (cond high (kinds.TooManyValues ∷ []) []))) []
        → (3 ≤ n) × (n ≤ 129)
    tested false false few false many e = (ltb-false n 3 few, ltb-false 129 n many)
    tested false false few true many e = cc
    tested false true few high many e = cc
    tested true low few high many e = cc

-- from 3 to 129 files are in the rows
abbrev pub HasFewFiles : List Row → Type 0
HasFewFiles rows = (3 ≤ length (words_of (codes "files") rows)) × (length (words_of (codes "files") rows) ≤ 129)

ended : (files : List Text) → settle_fault chain_rules false (held_files files) ≡ []
    → check_fault chain_built (finished chain_rules (held_files files)) false ≡ []
    → HasFewFiles (finished chain_rules (held_files files))
ended [] s e = cc
ended (v ∷ vs) s e = counted (length (v ∷ vs)) (first_none (range_kinds 3 129 (length (v ∷ vs))) _ s)

-- where no step of a parse of a chain's words fails, there are from 3 to 129 files
pub has_few_files : (ws : List Text) → level_fault chain_built [] nothing_held ws false [] ≡ []
    → HasFewFiles (finished chain_rules (walk chain_rules [] nothing_held ws).held)
has_few_files ws e =
    let begin : IsBetween (walk_from nothing_held) = record { files = []; waits = false; is_trailing = false; is = refl } in
    let end = walks ws (walk_from nothing_held) begin (first_none (walk_fault chain_built [] (walk_from nothing_held) ws) _ e) in
    let after = second_none (walk_fault chain_built [] (walk_from nothing_held) ws) _ e in
    subst (λ (w : Walk). settle_fault chain_rules false w.held ≡ [] → check_fault chain_built (finished chain_rules w.held) false ≡ []
    → HasFewFiles (finished chain_rules w.held))
    (sym end.is) (ended end.files) (first_none _ _ after) (second_none _ _ (second_none _ _ after))
