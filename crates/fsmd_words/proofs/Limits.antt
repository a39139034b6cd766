-- What is asked keeps the limits of steps.
use Rattle.std.proofs.Common.{◌≡◌, ◌∙◌, ℕ, ◌≤◌, ◌%◌, Bool, true, false, List, Option, Some, None, ap, is_some, length, option_map, refl, subst, sym, [], arith}
use Rattle.std.proofs.Common.{codes}
use Rattle.std.specs.Prelude.{IfSome, cond, find}
use Rattle.std.specs.Option.{option_map_or}
use Rattle.std.proofs.lemmas.Bool.{leb-true, eqb-true}
use Rattle.std.specs.Str.Parse.{digits_value, without_leading_plus}
use Rattle.std.specs.Str.{bytes_eq}
use Rattle.clap.specs.Words.{Row, Shape, Text}
use Rattle.clap.specs.Simple.{argument_words, built, entered, label_of, names_of, rows_at}
use Rattle.clap.specs.ValueTests.{is_unsigned_in}
use Rattle.clap.specs.Walk.{answers_to, nothing_held, one_of, rows_after, stop_after}
use Rattle.clap.specs.Faults.{entered_fault, level_fault}
use Rattle.clap.proofs.WalkLemmas.{both}
use Rattle.fsmd_words.proofs.Chained.{HasFewFiles, chain_built, has_few_files}
use Rattle.fsmd_words.proofs.Named.{Each, first_none, found_has, is_taken, second_none, taken_asks}
use Rattle.fsmd_command_line.specs.CommandLine.{command_line}
use Rattle.fsmd_words.specs.AskedWords.{AreParsed, Asked, Chain, IsByTurns, IsWithinLimits, asked_by, asked_in, asked_of, matched_of, number_option}

-- a number in a range lies in it, where the other one does
number_within : (low high other : ℕ) → low ≤ other → other ≤ high → (o : Option Text)
    → (low ≤ number_option low high other o) × (number_option low high other o ≤ high)
number_within low high other above below None = (above, below)
number_within low high other above below (Some t) = go (is_unsigned_in low high t) refl
  where
    go : (b : Bool) → is_unsigned_in low high t ≡ b
        → (low ≤ cond b (digits_value 10 (without_leading_plus t)) other) × (cond b (digits_value 10 (without_leading_plus t)) other ≤ high)
    go false e = (above, below)
    go true e =
        let range = both _ _ (both _ _ (both _ _ e).1).1 in
        (leb-true _ _ range.0, leb-true _ _ range.1)

-- steps and loops are within their limits, and so are the files of a chain but for their being odd in number
abbrev IsInRange : Asked → Type 0
IsInRange (Chain files) = (3 ≤ length files) × (length files ≤ 129)
IsInRange what = IsWithinLimits what

either : (P : Asked → Type 0) (b : Bool) (x : Asked) (rest : Option Asked) → (b ≡ true → P x) → IfSome rest P → IfSome (cond b (Some x) rest) P
either P true x rest here there = here refl
either P false x rest here there = there

within_by : (name : Text) (rows : List Row) → (bytes_eq name (codes "chain") ≡ true → HasFewFiles rows) → IfSome (asked_by name rows) IsInRange
within_by name rows few =
    let steps = number_within 1 100000 10000 (omega arith) (omega arith) (one_of (codes "steps") rows) in
    let loops = number_within 1 300 1 (omega arith) (omega arith) (one_of (codes "loops") rows) in
    either IsInRange (bytes_eq name (codes "check")) _ _ (λ _. steps)
    (either IsInRange (bytes_eq name (codes "verify")) _ _ (λ _. tt)
    (either IsInRange (bytes_eq name (codes "run")) _ _ (λ _. steps)
    (either IsInRange (bytes_eq name (codes "replay")) _ _ (λ _. steps)
    (either IsInRange (bytes_eq name (codes "fmt")) _ _ (λ _. tt)
    (either IsInRange (bytes_eq name (codes "cuts")) _ _ (λ _. tt)
    (either IsInRange (bytes_eq name (codes "generate")) _ _ (λ _. loops)
    (either IsInRange (bytes_eq name (codes "compile")) _ _ (λ _. tt)
    (either IsInRange (bytes_eq name (codes "schedule")) _ _ (λ _. tt)
    (either IsInRange (bytes_eq name (codes "bind")) _ _ (λ _. tt)
    (either IsInRange (bytes_eq name (codes "shrink")) _ _ (λ _. steps)
    (either IsInRange (bytes_eq name (codes "chain")) _ _ few tt)))))))))))

-- of all commands, only that of a chain has its name
abbrev OnlyChain : Shape → Type 0
OnlyChain s = bytes_eq s.name (codes "chain") ≡ true → s ≡ chain_built

other : {X : Type 0} → false ≡ true → X
other e = cc

only_chain : Each OnlyChain (built command_line).subs
only_chain = (
  (λ e. other e),
  (
    (λ e. other e),
    (
      (λ e. other e),
      (
        (λ e. other e),
        (
          (λ e. other e),
          (
            (λ e. other e),
            (
              (λ e. other e),
              ((λ e. other e), ((λ e. other e), ((λ e. other e), ((λ e. other e), ((λ e. refl), tt))))),
            ),
          ),
        ),
      ),
    ),
  ),
)

found_within : (o : Option Shape) (ws : List Text) → IfSome o OnlyChain → option_map_or (λ s. level_fault s [] nothing_held ws false []) o [] ≡ []
    → IfSome (asked_in (option_map (λ s. rows_at s ws) o)) IsInRange
found_within None ws only e = tt
found_within (Some s) ws only e =
    within_by s.name (rows_after s.rules [] ws)
    (λ is. subst (λ (x : Shape). level_fault x [] nothing_held ws false [] ≡ [] → HasFewFiles (rows_after x.rules [] ws)) (sym (only is)) (has_few_files ws) e)

entered_within : (stop : Option (Text × List Text)) → entered_fault (built command_line) stop ≡ []
    → IfSome (asked_in (entered (built command_line) stop)) IsInRange
entered_within None e = tt
entered_within (Some p) e =
    found_within (find (λ s. answers_to p.0 (label_of s)) (built command_line).subs) p.1
    (found_has (λ s. answers_to p.0 (label_of s)) OnlyChain (built command_line).subs only_chain) e

within_parsed : (words : List Text) → AreParsed words → IfSome (matched_of words) IsInRange
within_parsed words e =
    let stop = stop_after (built command_line).top.rules (names_of (built command_line)) (argument_words command_line words) in
    entered_within stop (first_none (entered_fault (built command_line) stop) _ (second_none _ _ e))

joined : (what : Asked) → IsInRange what → IsByTurns what → IsWithinLimits what
joined (Chain files) h by_turns = (h.0, h.1, eqb-true (length files % 2) 1 by_turns)
joined what h by_turns = h

-- what words ask keeps the limits
pub is_within : (words : List Text) (a : Asked) → asked_of words ≡ Some a → IsWithinLimits a
is_within words a e =
    let taken = is_taken words (ap is_some e) in
    let asks = sym (taken_asks words taken) ∙ e in
    joined a (subst (λ (o : Option Asked). IfSome o IsInRange) asks (within_parsed words taken.0))
    (subst (λ (o : Option Asked). IfSome o IsByTurns) asks taken.1)
