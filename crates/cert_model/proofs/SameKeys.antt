-- Points by their numbers.
use Rattle.std.proofs.Common.{◌≡◌, ℕ, ◌+◌, ◌==◌, Bool, true, false, refl, sym, ◌∙◌, arith}
use Rattle.std.proofs.lemmas.Bool.{eqb-true, eq-eqb}
use Rattle.fs_cut.specs.Paths.{Point, Start, At, Done}
use Rattle.fs_cut.specs.Covers.{same_point}
use Rattle.cert_model.specs.PointKeys.{point_number}

decided : (a b : ℕ) (t : Bool) → (a ≡ b → t ≡ true) → (t ≡ true → a ≡ b) → (a == b) ≡ t
decided a b t to from = by_values (a == b) t refl refl
  where
    by_values : (u w : Bool) → (a == b) ≡ u → t ≡ w → u ≡ w
    by_values true true e f = refl
    by_values true false e f = sym (to (eqb-true a b e)) ∙ f
    by_values false true e f = sym e ∙ eq-eqb a b (from f)
    by_values false false e f = refl

-- points are the same as their numbers are
pub same_numbers : (P Q : Point) → (point_number P == point_number Q) ≡ same_point Q P
same_numbers Start Start = refl
same_numbers Start (At r) = decided 0 (r + 2) false (λ e. absurd (omega (arith, e))) (λ e. absurd (cc e))
same_numbers Start Done = refl
same_numbers (At q) Start = decided (q + 2) 0 false (λ e. absurd (omega (arith, e))) (λ e. absurd (cc e))
same_numbers (At q) (At r) = decided (q + 2) (r + 2) (r == q) (λ e. eq-eqb r q (omega (arith, e))) (λ e. let f : r ≡ q = eqb-true r q e in omega (arith, f))
same_numbers (At q) Done = decided (q + 2) 1 false (λ e. absurd (omega (arith, e))) (λ e. absurd (cc e))
same_numbers Done Start = refl
same_numbers Done (At r) = decided 1 (r + 2) false (λ e. absurd (omega (arith, e))) (λ e. absurd (cc e))
same_numbers Done Done = refl

flipped : (a b : ℕ) → (a == b) ≡ (b == a)
flipped a b = decided a b (b == a) (λ e. eq-eqb b a (sym e)) (λ e. sym (eqb-true b a e))

pub numbers_are : (P Q : Point) → (point_number P == point_number Q) ≡ same_point P Q
numbers_are P Q = flipped (point_number P) (point_number Q) ∙ same_numbers Q P
