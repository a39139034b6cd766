-- What `literal` gives is in normal form.
use Rattle.std.proofs.Common.{◌≡◌, ℕ, zero, suc, ◌+◌, ◌*◌, ◌/◌, ◌%◌, ◌-◌, ◌^◌, ◌==◌, ◌≤◌, ℤ, pos, negsuc, neg_ℤ, cond, Bool, true, false, ◌&&◌, not, arith}
use Rattle.std.proofs.Common.{refl, ap, sym, subst, ◌∙◌}
use Rattle.std.specs.Prelude.{◌≢◌, int_div, int_lt, unsigned_abs, nat_le}
use Rattle.std.specs.Int.{◌∣◌, int_div_euclid, int_rem_euclid}
use Rattle.std.specs.Ordering.{int_eq}
use Rattle.std.specs.Cmp.{signed_Decides}
use Rattle.std.proofs.lemmas.Int.{ints}
use Rattle.std.proofs.lemmas.Bool.{le-leb, eq-eqb, and_from}
use Rattle.std.proofs.lemmas.Nat.Gcd.{dvd_refl, dvd-zero, dvd_trans}
use Rattle.std.proofs.Math.Nat.{mul-dvd-mul_left, dvd_of_mul-dvd-mul_left, eq-one_of_dvd-one}
use Rattle.fs_model.proofs.Integers.{unsigned_abs-neg}
use Rattle.nf_trees.specs.NormalTerms.{Polynomial, One, Times, Zero, Plus}
use Rattle.nf_trees.specs.Measures.{size_of, depth_of}
use Rattle.nf_terms.specs.TermLimits.{weight_limit, size_limit, depth_limit}
use Rattle.nf_terms.specs.Normal.{IsNormal, has_atoms, ordered, narrow, part_with_atoms, constant_sum}
use Rattle.nf_rel.specs.declared.kind.Kind.{Kind}
use Rattle.nf_rel.specs.declared.kind.Kind.TheVariants.{Ge, Le, Eq, Ne}
use Rattle.nf_sums.proofs.Partings.{ordered_term}
use Rattle.nf_sums.proofs.Reducing.{part_normal}
use Rattle.nf_rel.specs.Literals.{NormalLiteral, True, False, Is, truth, common_divisor, divide_coefficients, begins_positive, signed_number, Form, AtLeastZero}
use Rattle.nf_rel.specs.Literals.{IsZero, IsNotZero, form_holds, bounded_literal, bounded_by, literal_form}
use Rattle.nf_rel.specs.NormalLiterals.{is_normal, lacks_constant, is_primitive, is_inner_number, is_normal_literal, IsNormalLiteral}
use Rattle.nf_rel.specs.Bounds.{in_range}
use Rattle.nf_rel.proofs.Floors.{lt_true, is_lt, not_lt}
use Rattle.nf_rel.proofs.CommonDivisors.{gcd_is, AllMultiples, all_multiples}
use Rattle.nf_rel.proofs.Directions.{still_nonzero, direction_normal, floor_small, constant_small}

pub normal_is : (p : Polynomial) → IsNormal p → is_normal p ≡ true
normal_is p n =
    and_from (ordered p && nat_le (size_of p) size_limit && nat_le (depth_of p) depth_limit) (narrow p)
    (and_from (ordered p && nat_le (size_of p) size_limit) (nat_le (depth_of p) depth_limit)
    (and_from (ordered p) (nat_le (size_of p) size_limit) n.ordered (le-leb (size_of p) size_limit n.small)) (le-leb (depth_of p) depth_limit n.shallow))
    n.narrow

-- whether a literal is in normal form, where its direction is normal and it is told whether its bound is within
all_three : (n p i : Bool) → n ≡ true → i ≡ true → p ≡ n && p && i
all_three true true true e f = refl
all_three true false true e f = refl
all_three true p false e f = absurd (cc f)
all_three false p i e f = absurd (cc e)

not_the_last : (n p i : Bool) → i ≡ false → false ≡ n && p && i
not_the_last true true false e = refl
not_the_last true false false e = refl
not_the_last false p false e = refl
not_the_last n p true e = absurd (cc e)

pub normal_with : (l : NormalLiteral) (d : Polynomial) (k : Kind) (b : ℤ) → l ≡ Is d k b → is_normal d ≡ true → is_inner_number b ≡ true
    → is_primitive d ≡ is_normal_literal l
normal_with l d k b e n i = all_three (is_normal d) (is_primitive d) (is_inner_number b) n i ∙ ap is_normal_literal (sym e)

pub not_normal_with : (l : NormalLiteral) (d : Polynomial) (k : Kind) (b : ℤ) → l ≡ Is d k b → is_inner_number b ≡ false → false ≡ is_normal_literal l
not_normal_with l d k b e i = not_the_last (is_normal d) (is_primitive d) (is_inner_number b) i ∙ ap is_normal_literal (sym e)

-- ---- directions
part_lacks : (p : Polynomial) → lacks_constant (part_with_atoms p) ≡ true
part_lacks Zero = refl
part_lacks (Plus One c p) = part_lacks p
part_lacks (Plus (Times a m) c p) = part_lacks p

lacks_divided : (q : Polynomial) (d : ℤ) → lacks_constant (divide_coefficients q d) ≡ lacks_constant q
lacks_divided Zero d = refl
lacks_divided (Plus m c q) d = ap (λ b. has_atoms m && b) (lacks_divided q d)

pub part_again : (p : Polynomial) → lacks_constant p ≡ true → part_with_atoms p ≡ p
part_again Zero e = refl
part_again (Plus One c p) e = absurd (cc e)
part_again (Plus (Times a m) c p) e = ap (Plus (Times a m) c) (part_again p e)

abs_exact : (b : Bool) (n : ℕ) (c : ℤ) → unsigned_abs c % suc n ≡ 0 → suc n * unsigned_abs (int_div c (signed_number b (pos (suc n)))) ≡ unsigned_abs c
abs_exact true n (pos a) e = omega (arith, ints)
abs_exact true n (negsuc a) e = ap (λ x. suc n * x) (unsigned_abs-neg (pos (suc a / suc n))) ∙ omega (arith, e)
abs_exact false n (pos a) e = ap (λ x. suc n * x) (unsigned_abs-neg (pos (a / suc n))) ∙ omega (arith, e)
abs_exact false n (negsuc a) e = omega (arith, ints)

-- what divides the quotients, times the divisor, divides the coefficients
scaled : (b : Bool) (n e : ℕ) (q : Polynomial) → AllMultiples (suc n) q → e ∣ common_divisor (divide_coefficients q (signed_number b (pos (suc n))))
    → suc n * e ∣ common_divisor q
scaled b n e Zero m d = dvd-zero (suc n * e)
scaled b n e (Plus k c q) m d =
    let s = signed_number b (pos (suc n)) in
    let g = gcd_is (unsigned_abs (int_div c s)) (common_divisor (divide_coefficients q s)) in
    let first : suc n * e ∣ unsigned_abs c = subst (λ x. suc n * e ∣ x) (abs_exact b n c m.0) (mul-dvd-mul_left e (suc n) (dvd_trans e d g.0)) in
    (gcd_is (unsigned_abs c) (common_divisor q)).2 (suc n * e) first (scaled b n e q m.1 (dvd_trans e d g.1))

no_divisor_left : (b : Bool) (n : ℕ) (q : Polynomial) → AllMultiples (suc n) q → common_divisor q ≡ suc n
    → common_divisor (divide_coefficients q (signed_number b (pos (suc n)))) ≡ 1
no_divisor_left b n q m e =
    let g = common_divisor (divide_coefficients q (signed_number b (pos (suc n)))) in
    let d : suc n * g ∣ suc n * 1 = subst (λ x. suc n * g ∣ x) (omega (arith, e)) (scaled b n g q m (dvd_refl g)) in
    eq-one_of_dvd-one (dvd_of_mul-dvd-mul_left g (omega arith) d)

positive : (k : ℕ) → int_eq (pos k) (pos 0) ≡ false → int_lt (pos 0) (pos k) ≡ true
positive zero h = absurd (cc h)
positive (suc k) h = is_lt (pos 0) (pos (suc k)) (omega (arith, ints))

by_sign : (n : ℕ) (c : ℤ) (b : Bool) → int_lt (pos 0) c ≡ b → int_eq (int_div c (signed_number b (pos (suc n)))) (pos 0) ≡ false
    → int_lt (pos 0) (int_div c (signed_number b (pos (suc n)))) ≡ true
by_sign n (pos a) true h e = positive (a / suc n) e
by_sign n (pos zero) false h e =
    let z : 0 / suc n ≡ 0 = omega arith in
    let k : true ≡ false = sym ((signed_Decides (neg_ℤ (pos (0 / suc n))) (pos 0)).1 (ap (λ x. neg_ℤ (pos x)) z)) ∙ e in
    absurd (cc k)
by_sign n (pos (suc a)) false h e = let k : true ≡ false = sym (is_lt (pos 0) (pos (suc a)) (omega (arith, ints))) ∙ h in absurd (cc k)
by_sign n (negsuc a) true h e = absurd (let k = lt_true (pos 0) (negsuc a) h in omega (arith, ints))
by_sign n (negsuc a) false h e = positive (suc a / suc n) e

divided_begins : (n : ℕ) (q : Polynomial) → AllMultiples (suc n) q → ordered q ≡ true
    → begins_positive (divide_coefficients q (signed_number (begins_positive q) (pos (suc n)))) ≡ true
divided_begins n Zero m o = refl
divided_begins n (Plus k c q) m o = by_sign n c (int_lt (pos 0) c) refl (still_nonzero (int_lt (pos 0) c) n c m.0 (ordered_term k c q o).nonzero)

direction_primitive : (p : Polynomial) (n : ℕ) → IsNormal p → common_divisor (part_with_atoms p) ≡ suc n
    → is_primitive (divide_coefficients (part_with_atoms p) (signed_number (begins_positive (part_with_atoms p)) (pos (suc n)))) ≡ true
direction_primitive p n h e =
    let q = part_with_atoms p in
    let b = begins_positive q in
    let d = divide_coefficients q (signed_number b (pos (suc n))) in
    let m : AllMultiples (suc n) q = subst (λ g. AllMultiples g q) e (all_multiples q) in
    and_from (lacks_constant d && (common_divisor d == 1)) (begins_positive d)
    (and_from (lacks_constant d) (common_divisor d == 1) (lacks_divided q (signed_number b (pos (suc n))) ∙ part_lacks p)
    (eq-eqb (common_divisor d) 1 (no_divisor_left b n q m e)))
    (divided_begins n q m (part_normal p h).ordered)

-- ---- bounds
inner_is : (z : ℤ) → unsigned_abs z + 1 ≤ weight_limit → is_inner_number z ≡ true
inner_is z h =
    and_from _ _ (ap not (not_lt z (negsuc (2 ^ 127 - 3)) (omega (arith, ints)))) (ap not (not_lt (pos (2 ^ 127 - 2)) z (omega (arith, ints))))

-- a number with one to spare below the limit is in range for each kind
in_range_of : (k : Kind) (z : ℤ) → unsigned_abs z + 1 ≤ weight_limit → in_range k z ≡ true
in_range_of Ge z h =
    and_from _ _ (ap not (not_lt z (negsuc (2 ^ 127 - 3)) (omega (arith, ints)))) (ap not (not_lt (pos (2 ^ 127 - 1)) z (omega (arith, ints))))
in_range_of Le z h =
    and_from _ _ (ap not (not_lt z (negsuc (2 ^ 127 - 2)) (omega (arith, ints)))) (ap not (not_lt (pos (2 ^ 127 - 2)) z (omega (arith, ints))))
in_range_of Eq z h = inner_is z h
in_range_of Ne z h = inner_is z h

-- the bound of a direction is so
bound_small : (b : Bool) (g : ℕ) (c r : ℤ) → g ≢ 0 → unsigned_abs c + 1 ≤ weight_limit → r ≡ signed_number b (neg_ℤ (int_div_euclid c (pos g)))
    → unsigned_abs r + 1 ≤ weight_limit
bound_small b zero c r some h e = absurd (some refl)
bound_small true (suc n) c r some h e =
    let f = int_div_euclid c (pos (suc n)) in
    subst (λ z. unsigned_abs z + 1 ≤ weight_limit) (sym e) (omega (arith, unsigned_abs-neg f, floor_small c n, h))
bound_small false (suc n) c r some h e =
    let f = int_div_euclid c (pos (suc n)) in
    subst (λ z. unsigned_abs z + 1 ≤ weight_limit) (sym e) (omega (arith, unsigned_abs-neg f, unsigned_abs-neg (neg_ℤ f), floor_small c n, h))

pub bound_in_range : (k : Kind) (b : Bool) (g : ℕ) (c s r : ℤ) → s ≡ r → g ≢ 0 → unsigned_abs c + 1 ≤ weight_limit
    → r ≡ signed_number b (neg_ℤ (int_div_euclid c (pos g))) → in_range k s ≡ true
bound_in_range k b g c s r same some small e = in_range_of k s (bound_small b g c s some small (same ∙ e))

-- minus the negation of a floor is the floor
twice_negated : (z : ℤ) → neg_ℤ (neg_ℤ z) ≡ z
twice_negated z = omega (arith, ints)

pub at_least : (form : Form) (b : Bool) (d : Polynomial) (g : ℕ) (c r : ℤ) → form ≡ AtLeastZero → b ≡ true
    → r ≡ signed_number b (neg_ℤ (int_div_euclid c (pos g))) → Is d Ge r ≡ bounded_literal form b d g c
at_least AtLeastZero true d g c r f t e = ap (Is d Ge) e
at_least AtLeastZero false d g c r f t e = absurd (cc t)
at_least IsZero b d g c r f t e = absurd (cc f)
at_least IsNotZero b d g c r f t e = absurd (cc f)

pub at_most : (form : Form) (b : Bool) (d : Polynomial) (g : ℕ) (c r : ℤ) → form ≡ AtLeastZero → b ≡ false
    → r ≡ signed_number b (neg_ℤ (int_div_euclid c (pos g))) → Is d Le r ≡ bounded_literal form b d g c
at_most AtLeastZero true d g c r f t e = absurd (cc t)
at_most AtLeastZero false d g c r f t e = ap (Is d Le) (e ∙ twice_negated (int_div_euclid c (pos g)))
at_most IsZero b d g c r f t e = absurd (cc f)
at_most IsNotZero b d g c r f t e = absurd (cc f)

signed_small : (b : Bool) (z : ℤ) → unsigned_abs z + 1 ≤ weight_limit → is_inner_number (signed_number b (neg_ℤ z)) ≡ true
signed_small true z h = inner_is (neg_ℤ z) (omega (arith, unsigned_abs-neg z))
signed_small false z h = inner_is (neg_ℤ (neg_ℤ z)) (omega (arith, unsigned_abs-neg z, unsigned_abs-neg (neg_ℤ z)))

-- ---- the literal
module _ (d : Polynomial) (n : ℕ) (c : ℤ) (normal : is_normal d ≡ true) (primitive : is_primitive d ≡ true) (small : unsigned_abs c + 1 ≤ weight_limit) where
  abbrev f : ℤ
  f = int_div_euclid c (pos (suc n))

  floor : unsigned_abs (int_div_euclid c (pos (suc n))) + 1 ≤ weight_limit
  floor = omega (arith, floor_small c n, small)

  with_bound : (k : Kind) (z : ℤ) → is_inner_number z ≡ true → IsNormalLiteral (Is d k z)
  with_bound k z i = and_from (is_normal d && is_primitive d) (is_inner_number z) (and_from (is_normal d) (is_primitive d) normal primitive) i

  by_rest : (t : Bool) (l m : NormalLiteral) → IsNormalLiteral l → IsNormalLiteral m → IsNormalLiteral (cond t l m)
  by_rest true l m x y = x
  by_rest false l m x y = y

  bounded_normal : (form : Form) (b : Bool) → IsNormalLiteral (bounded_literal form b d (suc n) c)
  bounded_normal AtLeastZero true = with_bound Ge (neg_ℤ f) (signed_small true f floor)
  bounded_normal AtLeastZero false = with_bound Le f (inner_is f floor)
  bounded_normal IsZero b = by_rest (int_eq (int_rem_euclid c (pos (suc n))) (pos 0))
      (Is d Eq (signed_number b (neg_ℤ f))) False (with_bound Eq (signed_number b (neg_ℤ f)) (signed_small b f floor)) refl
  bounded_normal IsNotZero b = by_rest (int_eq (int_rem_euclid c (pos (suc n))) (pos 0))
      (Is d Ne (signed_number b (neg_ℤ f))) True (with_bound Ne (signed_number b (neg_ℤ f)) (signed_small b f floor)) refl

truth_normal : (b : Bool) → IsNormalLiteral (truth b)
truth_normal true = refl
truth_normal false = refl

by_divisor : (form : Form) (p : Polynomial) → IsNormal p → (g : ℕ) → common_divisor (part_with_atoms p) ≡ g
    → IsNormalLiteral (bounded_by form (part_with_atoms p) g (constant_sum p))
by_divisor form p h zero e = truth_normal (form_holds form (constant_sum p))
by_divisor form p h (suc n) e =
    let q = part_with_atoms p in
    let b = begins_positive q in
    let d = divide_coefficients q (signed_number b (pos (suc n))) in
    bounded_normal d n (constant_sum p) (normal_is d (direction_normal p b n h e)) (direction_primitive p n h e)
    (constant_small p h (λ z. let k : suc n ≡ 0 = sym e ∙ z in absurd (cc k))) form b

pub form_normal : (form : Form) (p : Polynomial) → IsNormal p → IsNormalLiteral (literal_form form p)
form_normal form p h = by_divisor form p h (common_divisor (part_with_atoms p)) refl
