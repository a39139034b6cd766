-- Words that spell no number of steps, behind `--steps`.
use Rattle.std.proofs.Common.{◌≡◌, ◌∙◌, ◌++◌, ap, ℕ, ◌<◌, ◌≤◌, ◌+◌, true, false, refl, arith, List, [], ◌∷◌, Some, codes}
use Rattle.std.specs.Str.Parse.{digits_value, without_leading_plus}
use Rattle.std.proofs.lemmas.Bool.{leb-true, false_from_ne_true}
use Rattle.clap.specs.Words.{Shape, Text}
use Rattle.clap.specs.Simple.{built_leaf, inherited}
use Rattle.clap.specs.ValueTests.{accepts, is_unsigned_in}
use Rattle.clap.specs.Values.{refused_kind}
use Rattle.clap.specs.Kinds.{Kinds, or_else, values_kinds}
use Rattle.clap.specs.Walk.{Held, Walk, after_step, arg_by_index, nothing_held, option, plain_word, pushed, settled, to_positional, value, walked}
use Rattle.clap.specs.Faults.{step_fault, turn_fault}
use Rattle.clap.specs.declared.builder.value_parser.ValueParser.{ValueParser}
use Rattle.clap.specs.declared.builder.value_parser.ValueParser.TheVariants as parsers
use Rattle.clap.specs.declared.error.kind.ErrorKind.TheVariants as kinds
use Rattle.clap.proofs.OnLiterals.{clap_on_literals}
use Rattle.clap.proofs.WalkLemmas.{both}
use Rattle.fsmd_words.proofs.CommandWalks.{Passes, idle_at, level_fails, level_fails_at, line_fails, option_at, passes_none, passes_one, plain_step, plain_turn}
use Rattle.fsmd_words.proofs.CommandWalks.{plain_value_step, plain_value_turn}
use Rattle.fsmd_command_line.specs.CommandLine.{check_command, program_alone, replay_command, run_command, shrink_command}
use Rattle.fsmd_words.specs.Examples.{FailBy, IsPlainWord, SpellsNoSteps}

-- ---- which words

-- what a word that spells a number of steps has
record IsWithin (n : ℕ) : Type 0 where
  low : 1 ≤ n
  high : n ≤ 100000

within : (word : Text) → is_unsigned_in 1 100000 word ≡ true → IsWithin (digits_value 10 (without_leading_plus word))
within word e =
    let range = both _ _ (both _ _ (both _ _ e).1).1 in
    record { low = leb-true _ _ range.0; high = leb-true _ _ range.1 }

pub too_few : (word : Text) → digits_value 10 (without_leading_plus word) < 1 → is_unsigned_in 1 100000 word ≡ false
too_few word h = false_from_ne_true (is_unsigned_in 1 100000 word) (λ e. (let low = (within word e).low in omega (arith, low, h)))

pub too_many : (word : Text) → 100000 < digits_value 10 (without_leading_plus word) → is_unsigned_in 1 100000 word ≡ false
too_many word h = false_from_ne_true (is_unsigned_in 1 100000 word) (λ e. (let high = (within word e).high in omega (arith, high, h)))

-- ---- a command with its files before `--steps`

refused_value : (parser : ValueParser) (word : Text) → accepts false parser word ≡ false → values_kinds false parser (word ∷ []) ≡ refused_kind parser ∷ []
refused_value parser word e = rw e refl

-- what is held behind a file, behind `--steps`, and behind its value
abbrev file_held : Shape → Text → Text → Held → Held
file_held s id word h = pushed id word (settled s.rules h)

abbrev option_held : Shape → Held → Held
option_held s h = record (settled s.rules h) { pending = Some (codes "steps", []) }

abbrev value_held : Shape → Text → Held → Held
value_held s word h = pushed (codes "steps") word (option_held s h)

one_file : (s : Shape) (id : Text) (h : Held) (p : ℕ) (word : Text) (rest : List Text) (end : Walk) → IsPlainWord word
    → step_fault s p h value ≡ []
    → to_positional s.rules (arg_by_index s.rules p) word (idle_at h p) h ≡ idle_at (file_held s id word h) (p + 1)
    → Passes s (idle_at (file_held s id word h) (p + 1)) rest end → Passes s (idle_at h p) (word ∷ rest) end
one_file s id h p word rest end q fault step next =
    passes_one s (idle_at h p) word rest (idle_at (file_held s id word h) (p + 1)) end (plain_turn s h p word q ∙ fault) (plain_step s h p word q ∙ step) next

steps_pass : (s : Shape) (h : Held) (p : ℕ) (word : Text) → IsPlainWord word → turn_fault s [] (idle_at h p) (codes "--steps") ≡ []
    → walked s.rules [] (idle_at h p) (codes "--steps") ≡ option_at (codes "steps") (option_held s h) p
    → after_step s.rules word (option_at (codes "steps") (option_held s h) p) (plain_word s.rules (option (codes "steps")) word (option_held s h)).0
    (plain_word s.rules (option (codes "steps")) word (option_held s h)).1
    ≡ idle_at (value_held s word h) p
    → Passes s (idle_at h p) (codes "--steps" ∷ word ∷ []) (idle_at (value_held s word h) p)
steps_pass s h p word q turn step taken =
    let at = option_at (codes "steps") (option_held s h) p in
    let end = idle_at (value_held s word h) p in
    passes_one s (idle_at h p) (codes "--steps") (word ∷ []) at end turn step
    (passes_one s at word [] end end (plain_value_turn s (codes "steps") (option_held s h) p word q)
    (plain_value_step s (codes "steps") (option_held s h) p word q ∙ taken) (passes_none s end))

-- ---- each command

abbrev check_built : Shape
check_built = built_leaf (inherited program_alone check_command)

pub check_fails : (a b word : Text) → IsPlainWord a → IsPlainWord b → IsPlainWord word → SpellsNoSteps word
    → FailBy (codes "check" ∷ a ∷ b ∷ codes "--steps" ∷ word ∷ []) kinds.ValueValidation
unfolding clap_on_literals
check_fails a b word p q t e =
    let h1 = file_held check_built (codes "left") a nothing_held in
    let h2 = file_held check_built (codes "right") b h1 in
    let end = idle_at (value_held check_built word h2) 3 in
    line_fails (codes "check") (record { walks = refl; passes = refl }) (a ∷ b ∷ codes "--steps" ∷ word ∷ []) kinds.ValueValidation
    (level_fails check_built (a ∷ b ∷ codes "--steps" ∷ word ∷ []) end kinds.ValueValidation
    (one_file check_built (codes "left") nothing_held 1 a (b ∷ codes "--steps" ∷ word ∷ []) end p refl refl
    (one_file check_built (codes "right") h1 2 b (codes "--steps" ∷ word ∷ []) end q refl refl
    (steps_pass check_built h2 3 word t refl refl refl)))
    (refused_value (parsers.Unsigned 1 100000) word e))

pub check_fails_attached : (a b word : Text) → IsPlainWord a → IsPlainWord b → SpellsNoSteps word
    → FailBy (codes "check" ∷ a ∷ b ∷ (codes "--steps=" ++ word) ∷ []) kinds.ValueValidation
unfolding clap_on_literals
check_fails_attached a b word p q e =
    let h1 = file_held check_built (codes "left") a nothing_held in
    let h2 = file_held check_built (codes "right") b h1 in
    let end = idle_at h2 3 in
    line_fails (codes "check") (record { walks = refl; passes = refl }) (a ∷ b ∷ (codes "--steps=" ++ word) ∷ []) kinds.ValueValidation
    (level_fails_at check_built (a ∷ b ∷ []) end (codes "--steps=" ++ word) kinds.ValueValidation
    (one_file check_built (codes "left") nothing_held 1 a (b ∷ []) end p refl refl
    (one_file check_built (codes "right") h1 2 b ([]) end q refl refl
    (passes_none check_built end)))
    (ap (λ (f : Kinds). or_else (or_else [] f) []) (refused_value (parsers.Unsigned 1 100000) word e)))

abbrev run_built : Shape
run_built = built_leaf (inherited program_alone run_command)

pub run_fails : (a b word : Text) → IsPlainWord a → IsPlainWord b → IsPlainWord word → SpellsNoSteps word
    → FailBy (codes "run" ∷ a ∷ b ∷ codes "--steps" ∷ word ∷ []) kinds.ValueValidation
unfolding clap_on_literals
run_fails a b word p q t e =
    let h1 = file_held run_built (codes "machine") a nothing_held in
    let h2 = file_held run_built (codes "inputs") b h1 in
    let end = idle_at (value_held run_built word h2) 3 in
    line_fails (codes "run") (record { walks = refl; passes = refl }) (a ∷ b ∷ codes "--steps" ∷ word ∷ []) kinds.ValueValidation
    (level_fails run_built (a ∷ b ∷ codes "--steps" ∷ word ∷ []) end kinds.ValueValidation
    (one_file run_built (codes "machine") nothing_held 1 a (b ∷ codes "--steps" ∷ word ∷ []) end p refl refl
    (one_file run_built (codes "inputs") h1 2 b (codes "--steps" ∷ word ∷ []) end q refl refl
    (steps_pass run_built h2 3 word t refl refl refl)))
    (refused_value (parsers.Unsigned 1 100000) word e))

pub run_fails_attached : (a b word : Text) → IsPlainWord a → IsPlainWord b → SpellsNoSteps word
    → FailBy (codes "run" ∷ a ∷ b ∷ (codes "--steps=" ++ word) ∷ []) kinds.ValueValidation
unfolding clap_on_literals
run_fails_attached a b word p q e =
    let h1 = file_held run_built (codes "machine") a nothing_held in
    let h2 = file_held run_built (codes "inputs") b h1 in
    let end = idle_at h2 3 in
    line_fails (codes "run") (record { walks = refl; passes = refl }) (a ∷ b ∷ (codes "--steps=" ++ word) ∷ []) kinds.ValueValidation
    (level_fails_at run_built (a ∷ b ∷ []) end (codes "--steps=" ++ word) kinds.ValueValidation
    (one_file run_built (codes "machine") nothing_held 1 a (b ∷ []) end p refl refl
    (one_file run_built (codes "inputs") h1 2 b ([]) end q refl refl
    (passes_none run_built end)))
    (ap (λ (f : Kinds). or_else (or_else [] f) []) (refused_value (parsers.Unsigned 1 100000) word e)))

abbrev replay_built : Shape
replay_built = built_leaf (inherited program_alone replay_command)

pub replay_fails : (a b d word : Text) → IsPlainWord a → IsPlainWord b → IsPlainWord d → IsPlainWord word → SpellsNoSteps word
    → FailBy (codes "replay" ∷ a ∷ b ∷ d ∷ codes "--steps" ∷ word ∷ []) kinds.ValueValidation
unfolding clap_on_literals
replay_fails a b d word p q r t e =
    let h1 = file_held replay_built (codes "left") a nothing_held in
    let h2 = file_held replay_built (codes "right") b h1 in
    let h3 = file_held replay_built (codes "inputs") d h2 in
    let end = idle_at (value_held replay_built word h3) 4 in
    line_fails (codes "replay") (record { walks = refl; passes = refl }) (a ∷ b ∷ d ∷ codes "--steps" ∷ word ∷ []) kinds.ValueValidation
    (level_fails replay_built (a ∷ b ∷ d ∷ codes "--steps" ∷ word ∷ []) end kinds.ValueValidation
    (one_file replay_built (codes "left") nothing_held 1 a (b ∷ d ∷ codes "--steps" ∷ word ∷ []) end p refl refl
    (one_file replay_built (codes "right") h1 2 b (d ∷ codes "--steps" ∷ word ∷ []) end q refl refl
    (one_file replay_built (codes "inputs") h2 3 d (codes "--steps" ∷ word ∷ []) end r refl refl
    (steps_pass replay_built h3 4 word t refl refl refl))))
    (refused_value (parsers.Unsigned 1 100000) word e))

pub replay_fails_attached : (a b d word : Text) → IsPlainWord a → IsPlainWord b → IsPlainWord d → SpellsNoSteps word
    → FailBy (codes "replay" ∷ a ∷ b ∷ d ∷ (codes "--steps=" ++ word) ∷ []) kinds.ValueValidation
unfolding clap_on_literals
replay_fails_attached a b d word p q r e =
    let h1 = file_held replay_built (codes "left") a nothing_held in
    let h2 = file_held replay_built (codes "right") b h1 in
    let h3 = file_held replay_built (codes "inputs") d h2 in
    let end = idle_at h3 4 in
    line_fails (codes "replay") (record { walks = refl; passes = refl }) (a ∷ b ∷ d ∷ (codes "--steps=" ++ word) ∷ []) kinds.ValueValidation
    (level_fails_at replay_built (a ∷ b ∷ d ∷ []) end (codes "--steps=" ++ word) kinds.ValueValidation
    (one_file replay_built (codes "left") nothing_held 1 a (b ∷ d ∷ []) end p refl refl
    (one_file replay_built (codes "right") h1 2 b (d ∷ []) end q refl refl
    (one_file replay_built (codes "inputs") h2 3 d ([]) end r refl refl
    (passes_none replay_built end))))
    (ap (λ (f : Kinds). or_else (or_else [] f) []) (refused_value (parsers.Unsigned 1 100000) word e)))

abbrev shrink_built : Shape
shrink_built = built_leaf (inherited program_alone shrink_command)

pub shrink_fails : (a b d word : Text) → IsPlainWord a → IsPlainWord b → IsPlainWord d → IsPlainWord word → SpellsNoSteps word
    → FailBy (codes "shrink" ∷ a ∷ b ∷ d ∷ codes "--steps" ∷ word ∷ []) kinds.ValueValidation
unfolding clap_on_literals
shrink_fails a b d word p q r t e =
    let h1 = file_held shrink_built (codes "left") a nothing_held in
    let h2 = file_held shrink_built (codes "right") b h1 in
    let h3 = file_held shrink_built (codes "inputs") d h2 in
    let end = idle_at (value_held shrink_built word h3) 4 in
    line_fails (codes "shrink") (record { walks = refl; passes = refl }) (a ∷ b ∷ d ∷ codes "--steps" ∷ word ∷ []) kinds.ValueValidation
    (level_fails shrink_built (a ∷ b ∷ d ∷ codes "--steps" ∷ word ∷ []) end kinds.ValueValidation
    (one_file shrink_built (codes "left") nothing_held 1 a (b ∷ d ∷ codes "--steps" ∷ word ∷ []) end p refl refl
    (one_file shrink_built (codes "right") h1 2 b (d ∷ codes "--steps" ∷ word ∷ []) end q refl refl
    (one_file shrink_built (codes "inputs") h2 3 d (codes "--steps" ∷ word ∷ []) end r refl refl
    (steps_pass shrink_built h3 4 word t refl refl refl))))
    (refused_value (parsers.Unsigned 1 100000) word e))

pub shrink_fails_attached : (a b d word : Text) → IsPlainWord a → IsPlainWord b → IsPlainWord d → SpellsNoSteps word
    → FailBy (codes "shrink" ∷ a ∷ b ∷ d ∷ (codes "--steps=" ++ word) ∷ []) kinds.ValueValidation
unfolding clap_on_literals
shrink_fails_attached a b d word p q r e =
    let h1 = file_held shrink_built (codes "left") a nothing_held in
    let h2 = file_held shrink_built (codes "right") b h1 in
    let h3 = file_held shrink_built (codes "inputs") d h2 in
    let end = idle_at h3 4 in
    line_fails (codes "shrink") (record { walks = refl; passes = refl }) (a ∷ b ∷ d ∷ (codes "--steps=" ++ word) ∷ []) kinds.ValueValidation
    (level_fails_at shrink_built (a ∷ b ∷ d ∷ []) end (codes "--steps=" ++ word) kinds.ValueValidation
    (one_file shrink_built (codes "left") nothing_held 1 a (b ∷ d ∷ []) end p refl refl
    (one_file shrink_built (codes "right") h1 2 b (d ∷ []) end q refl refl
    (one_file shrink_built (codes "inputs") h2 3 d ([]) end r refl refl
    (passes_none shrink_built end))))
    (ap (λ (f : Kinds). or_else (or_else [] f) []) (refused_value (parsers.Unsigned 1 100000) word e)))
