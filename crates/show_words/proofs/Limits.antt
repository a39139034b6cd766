-- What words ask to see keeps the limits of steps.
use Rattle.std.proofs.Common.{◌≡◌, ◌≤◌, Bool, true, false, List, Option, Some, None, refl, subst, arith, codes}
use Rattle.std.specs.Prelude.{IfSome, cond}
use Rattle.std.proofs.lemmas.Bool.{leb-true}
use Rattle.std.specs.Str.Parse.{digits_value, without_leading_plus}
use Rattle.std.specs.Str.{bytes_eq}
use Rattle.clap.specs.Words.{Row, Text}
use Rattle.clap.specs.ValueTests.{is_unsigned_in}
use Rattle.clap.specs.Walk.{one_of}
use Rattle.clap.proofs.WalkLemmas.{both}
use Rattle.fsmd_words.specs.AskedWords.{number_option}
use Rattle.show_words.specs.ViewWords.{IsViewWithinLimits, ShownView, shown_by}

-- a number of steps that was matched lies in its range
steps_within : (o : Option Text) → (1 ≤ number_option 1 100000 10000 o) × (number_option 1 100000 10000 o ≤ 100000)
steps_within None = (omega arith, omega arith)
steps_within (Some t) = go (is_unsigned_in 1 100000 t) refl
  where
    go : (b : Bool) → is_unsigned_in 1 100000 t ≡ b
        → (1 ≤ cond b (digits_value 10 (without_leading_plus t)) 10000) × (cond b (digits_value 10 (without_leading_plus t)) 10000 ≤ 100000)
    go false e = (omega arith, omega arith)
    go true e =
        let range = both _ _ (both _ _ (both _ _ e).1).1 in
        (leb-true _ _ range.0, leb-true _ _ range.1)

abbrev KeepsLimits : ShownView → Type 0
KeepsLimits s = IsViewWithinLimits s.view

either : (b : Bool) (s : ShownView) (rest : Option ShownView) → KeepsLimits s → IfSome rest KeepsLimits → IfSome (cond b (Some s) rest) KeepsLimits
either true s rest here there = here
either false s rest here there = there

within_by : (name : Text) (rows : List Row) → IfSome (shown_by name rows) KeepsLimits
within_by name rows =
    either (bytes_eq name (codes "machine")) _ _ tt
    (either (bytes_eq name (codes "pair")) _ _ tt
    (either (bytes_eq name (codes "why")) _ _ tt
    (either (bytes_eq name (codes "certificate")) _ _ tt
    (either (bytes_eq name (codes "inputs")) _ _ tt
    (either (bytes_eq name (codes "trace")) _ _ (steps_within (one_of (codes "steps") rows)) tt)))))

-- what a command and its matches ask to see keeps them
pub view_within : (name : Text) (rows : List Row) (s : ShownView) → shown_by name rows ≡ Some s → IsViewWithinLimits s.view
view_within name rows s e = subst (λ (o : Option ShownView). IfSome o KeepsLimits) e (within_by name rows)
