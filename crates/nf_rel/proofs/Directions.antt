-- A direction is normal, and its bound is in range.
use Rattle.std.proofs.Common.{◌≡◌, ℕ, zero, suc, ◌+◌, ◌/◌, ◌%◌, ◌≤◌, ℤ, pos, negsuc, ◌*ℤ◌, Bool, true, false, arith, refl, ap, sym, subst, ◌∙◌}
use Rattle.std.specs.Prelude.{◌≢◌, int_div, unsigned_abs}
use Rattle.std.proofs.lemmas.Int.{ints}
use Rattle.std.proofs.lemmas.Nat.Gcd.{le_of_dvd}
use Rattle.std.proofs.Math.Nat.{div-le_self}
use Rattle.std.specs.Int.{int_div_euclid}
use Rattle.std.specs.Ordering.{int_eq}
use Rattle.std.specs.Cmp.{signed_Decides}
use Rattle.fs_model.proofs.Integers.{unsigned_abs-add, unsigned_abs-neg}
use Rattle.nf_trees.specs.NormalTerms.{Polynomial, One, Times, Zero, Plus}
use Rattle.nf_trees.specs.Measures.{weight_of}
use Rattle.nf_terms.specs.Normal.{IsNormal, ordered, part_with_atoms}
use Rattle.nf_terms.specs.Reduced.{Reduces, Ended, Kept}
use Rattle.nf_terms.proofs.Simple.{light}
use Rattle.nf_sums.proofs.Partings.{ordered_term}
use Rattle.nf_sums.proofs.Reducing.{reduced_normal, part_normal}
use Rattle.nf_terms.specs.Normal.{constant_sum}
use Rattle.nf_terms.specs.TermLimits.{weight_limit}
use Rattle.nf_rel.specs.Gcd.{gcd}
use Rattle.nf_rel.specs.Literals.{common_divisor, divide_coefficients, signed_number, begins_positive, Form, form_holds, truth, bounded_literal, bounded_by}
use Rattle.nf_rel.specs.Literals.{NormalLiteral, literal_form}
use Rattle.nf_rel.proofs.CommonDivisors.{gcd_is, AllMultiples, all_multiples, exact}

-- the weight is shared
pub weights_shared : (p : Polynomial) → weight_of (part_with_atoms p) + unsigned_abs (constant_sum p) ≤ weight_of p
weights_shared Zero = omega arith
weights_shared (Plus One c p) = omega (arith, weights_shared p, unsigned_abs-add c (constant_sum p))
weights_shared (Plus (Times a m) c p) = omega (arith, weights_shared p)

-- ---- division

small_quotient : (b : Bool) (n : ℕ) (c : ℤ) → unsigned_abs (int_div c (signed_number b (pos (suc n)))) ≤ unsigned_abs c
small_quotient true n (pos a) = div-le_self a (suc n)
small_quotient true n (negsuc a) = omega (arith, unsigned_abs-neg (pos (suc a / suc n)), div-le_self (suc a) (suc n))
small_quotient false n (pos a) = omega (arith, unsigned_abs-neg (pos (a / suc n)), div-le_self a (suc n))
small_quotient false n (negsuc a) = div-le_self (suc a) (suc n)

pub still_nonzero : (b : Bool) (n : ℕ) (c : ℤ) → unsigned_abs c % suc n ≡ 0 → int_eq c (pos 0) ≡ false
    → int_eq (int_div c (signed_number b (pos (suc n)))) (pos 0) ≡ false
still_nonzero b n c d h = by_test (int_eq (int_div c (signed_number b (pos (suc n)))) (pos 0)) refl
  where
    by_test : (t : Bool) → int_eq (int_div c (signed_number b (pos (suc n)))) (pos 0) ≡ t → t ≡ false
    by_test true e =
        let s = signed_number b (pos (suc n)) in
        let z : int_div c s ≡ pos 0 = (signed_Decides (int_div c s) (pos 0)).0 e in
        let c0 : c ≡ pos 0 = sym (exact b n c d) ∙ ap (λ x. s *ℤ x) z ∙ times_zero s in
        sym ((signed_Decides c (pos 0)).1 c0) ∙ h
      where
        times_zero : (x : ℤ) → x *ℤ pos 0 ≡ pos 0
        times_zero x = omega (arith, ints)
    by_test false e = refl

divided_reduces : (b : Bool) (n : ℕ) (q : Polynomial) → AllMultiples (suc n) q → ordered q ≡ true
    → Reduces q (divide_coefficients q (signed_number b (pos (suc n))))
divided_reduces b n Zero d o = Ended
divided_reduces b n (Plus m c q) d o =
    let k = int_div c (signed_number b (pos (suc n))) in
    let t = ordered_term m c q o in
    let nonzero : k ≢ pos 0 = λ z. let f : true ≡ false = sym ((signed_Decides k (pos 0)).1 z) ∙ still_nonzero b n c d.0 t.nonzero in cc f in
    Kept nonzero (small_quotient b n c) (divided_reduces b n q d.1 t.rest)

pub direction_normal : (p : Polynomial) (b : Bool) (n : ℕ) → IsNormal p → common_divisor (part_with_atoms p) ≡ suc n
    → IsNormal (divide_coefficients (part_with_atoms p) (signed_number b (pos (suc n))))
direction_normal p b n h e =
    let q = part_with_atoms p in
    let d : AllMultiples (suc n) q = subst (λ g. AllMultiples g q) e (all_multiples q) in
    reduced_normal q (divide_coefficients q (signed_number b (pos (suc n)))) (part_normal p h) (divided_reduces b n q d (part_normal p h).ordered)

-- ---- numbers in range
gcd_small : (a b : ℕ) → gcd a b ≤ a + b
gcd_small zero zero = omega arith
gcd_small zero (suc b) = let h = le_of_dvd (omega arith) (gcd_is zero (suc b)).1 in omega (arith, h)
gcd_small (suc a) b = let h = le_of_dvd (omega arith) (gcd_is (suc a) b).0 in omega (arith, h)

pub divisor_small : (q : Polynomial) → common_divisor q ≤ weight_of q
divisor_small Zero = omega arith
divisor_small (Plus m c q) = omega (arith, gcd_small (unsigned_abs c) (common_divisor q), divisor_small q)

pub floor_small : (c : ℤ) (n : ℕ) → unsigned_abs (int_div_euclid c (pos (suc n))) ≤ unsigned_abs c
floor_small (pos a) n = div-le_self a (suc n)
floor_small (negsuc a) n = omega (arith, div-le_self a (suc n))

-- the constant part is below the limit where there is a divisor
pub constant_small : (p : Polynomial) → IsNormal p → common_divisor (part_with_atoms p) ≢ 0 → unsigned_abs (constant_sum p) + 1 ≤ weight_limit
constant_small p h g =
    omega (arith, light p h, weights_shared p, divisor_small (part_with_atoms p), g)

-- ---- for the code
pub divisor_fits : (p : Polynomial) (g : ℕ) → IsNormal p → g ≡ common_divisor (part_with_atoms p) → g ≤ weight_limit
divisor_fits p g h e =
    omega (arith, light p h, weights_shared p, divisor_small (part_with_atoms p), e)

pub by_normal : (p : Polynomial) (b : Bool) (g : ℕ) (d : ℤ) → IsNormal p → g ≡ common_divisor (part_with_atoms p) → g ≢ 0 → d ≡ signed_number b (pos g)
    → IsNormal (divide_coefficients (part_with_atoms p) d)
by_normal p b zero d h e z s = absurd (z refl)
by_normal p b (suc n) d h e z s = subst (λ x. IsNormal (divide_coefficients (part_with_atoms p) x)) (sym s) (direction_normal p b n h (sym e))

-- the literal of a form, by the divisor
pub none_by : (f : Form) (p : Polynomial) → common_divisor (part_with_atoms p) ≡ 0 → literal_form f p ≡ truth (form_holds f (constant_sum p))
none_by f p e = ap (λ g. bounded_by f (part_with_atoms p) g (constant_sum p)) e

by_divisor : (f : Form) (q : Polynomial) (g : ℕ) (c : ℤ) → g ≢ 0
    → bounded_by f q g c ≡ bounded_literal f (begins_positive q) (divide_coefficients q (signed_number (begins_positive q) (pos g))) g c
by_divisor f q zero c h = absurd (h refl)
by_divisor f q (suc n) c h = refl

some_by : (f : Form) (p : Polynomial) → common_divisor (part_with_atoms p) ≢ 0
    → literal_form f p ≡ bounded_literal f (begins_positive (part_with_atoms p))
    (divide_coefficients (part_with_atoms p) (signed_number (begins_positive (part_with_atoms p)) (pos (common_divisor (part_with_atoms p)))))
    (common_divisor (part_with_atoms p)) (constant_sum p)
some_by f p h = by_divisor f (part_with_atoms p) (common_divisor (part_with_atoms p)) (constant_sum p) h

-- the same of what calls answer: the test b of the terms t, the direction d, the divisor g and the constant c
pub by_parts : (f : Form) (p t d : Polynomial) (b : Bool) (g c : ℤ) (l : NormalLiteral) → t ≡ p → common_divisor (part_with_atoms p) ≢ 0
    → b ≡ begins_positive (part_with_atoms t)
    → d ≡ divide_coefficients (part_with_atoms p) (signed_number b (pos (common_divisor (part_with_atoms p)))) → g ≡ pos (common_divisor (part_with_atoms p))
    → c ≡ constant_sum p → l ≡ bounded_literal f b d (unsigned_abs g) c → l ≡ literal_form f p
by_parts f p t d b g c l same some test direction divisor constant is =
    let positive : b ≡ begins_positive (part_with_atoms p) = test ∙ ap (λ x. begins_positive (part_with_atoms x)) same in
    let n = common_divisor (part_with_atoms p) in
    is ∙ ap (λ x. bounded_literal f b x (unsigned_abs g) c) direction
    ∙ ap (λ x. bounded_literal f x (divide_coefficients (part_with_atoms p) (signed_number x (pos n))) (unsigned_abs g) c) positive
    ∙ ap (λ x. bounded_literal f (begins_positive (part_with_atoms p)) (divide_coefficients (part_with_atoms p) (signed_number
    (begins_positive (part_with_atoms p)) (pos n))) (unsigned_abs x) c) divisor
    ∙ ap (bounded_literal f (begins_positive (part_with_atoms p)) (divide_coefficients (part_with_atoms p) (signed_number (begins_positive (part_with_atoms p))
    (pos n))) n) constant
    ∙ sym (some_by f p some)

-- the same of what a call answers, for the polynomial t of its terms
pub terms_normal : (p t r : Polynomial) (b : Bool) (g : ℤ) (by : ℤ) → IsNormal p → t ≡ p → g ≡ pos (common_divisor (part_with_atoms p))
    → common_divisor (part_with_atoms p) ≢ 0 → by ≡ signed_number b g → r ≡ divide_coefficients (part_with_atoms t) by → IsNormal r
terms_normal p t r b g by h e d z s k =
    subst IsNormal (sym (k ∙ ap (λ x. divide_coefficients (part_with_atoms x) by) e))
    (by_normal p b (common_divisor (part_with_atoms p)) by h refl z (s ∙ ap (signed_number b) d))
