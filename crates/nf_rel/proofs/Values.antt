-- A literal is true exactly where its relation holds.
use Rattle.std.proofs.Common.{◌≡◌, ℕ, zero, suc, ℤ, pos, ◌+ℤ◌, ◌-ℤ◌, ◌*ℤ◌, neg_ℤ, cond, Bool, true, false, arith, refl, ap, sym, subst, ◌∙◌}
use Rattle.std.specs.Prelude.{not, int_lt}
use Rattle.std.proofs.lemmas.Int.{ints}
use Rattle.std.specs.Ordering.{int_eq}
use Rattle.std.specs.Cmp.{signed_Decides}
use Rattle.std.specs.Int.{int_div_euclid, int_rem_euclid}
use Rattle.fs_model.specs.declared.parts.Rel.{Rel}
use Rattle.fs_model.specs.declared.parts.Rel.TheVariants as rel
use Rattle.fs_model.specs.Meaning.{relates}
use Rattle.nf_trees.specs.NormalTerms.{Polynomial}
use Rattle.nf_terms.specs.Normal.{part_with_atoms, constant_sum}
use Rattle.nf_terms.specs.TermMeaning.{Valuation, value_of}
use Rattle.nf_terms.specs.RawSums.{raw_negation}
use Rattle.fs_model.proofs.Ring.{neg-mul_z, mul-neg_z}
use Rattle.nf_sums.proofs.Forms.{negation_value}
use Rattle.nf_terms.specs.Computed.{Done, after}
use Rattle.nf_sums.specs.Operations.{normal_difference}
use Rattle.nf_sums.proofs.Values.{subtracted_value, value_parts, goes_done}
use Rattle.nf_rel.specs.declared.kind.Kind.TheVariants.{Eq, Ne}
use Rattle.nf_rel.specs.Literals.{NormalLiteral, True, False, Is, is_true_in, truth, common_divisor, divide_coefficients, begins_positive, signed_number, Form}
use Rattle.nf_rel.specs.Literals.{AtLeastZero, IsZero, IsNotZero, form_holds, bounded_literal, bounded_by, literal_form, one, against_zero, literal}
use Rattle.nf_rel.proofs.Floors.{lt_true, lt_false, is_lt, not_lt, Floor, floor_of, at_least, equal_where, never_equal}
use Rattle.nf_rel.proofs.CommonDivisors.{AllMultiples, all_multiples, no_divisor, value_divided}

-- tests that are equal as their sides are
same_lt : (a b c d : ℤ) → a -ℤ b ≡ c -ℤ d → int_lt a b ≡ int_lt c d
same_lt a b c d e = by_test (int_lt c d) refl
  where
    by_test : (t : Bool) → int_lt c d ≡ t → int_lt a b ≡ t
    by_test true h = is_lt a b (let x = lt_true c d h in omega (arith, ints))
    by_test false h = not_lt a b (let x = lt_false c d h in omega (arith, ints))

same_eq : (a b c d : ℤ) → (a ≡ b → c ≡ d) → (c ≡ d → a ≡ b) → int_eq a b ≡ int_eq c d
same_eq a b c d f g = by_tests (int_eq a b) refl (int_eq c d) refl
  where
    by_tests : (t : Bool) → int_eq a b ≡ t → (u : Bool) → int_eq c d ≡ u → t ≡ u
    by_tests true h u k = sym ((signed_Decides c d).1 (f ((signed_Decides a b).0 h))) ∙ k
    by_tests false h true k = sym h ∙ (signed_Decides a b).1 (g ((signed_Decides c d).0 k))
    by_tests false h false k = refl

truth_is : (w : Valuation) (b : Bool) → is_true_in w (truth b) ≡ b
truth_is w true = refl
truth_is w false = refl

-- the direction as it is, or negated
bounded_holds : (w : Valuation) (f : Form) (b : Bool) (d : Polynomial) (n : ℕ) (c : ℤ)
    → is_true_in w (bounded_literal f b d (suc n) c) ≡ form_holds f (pos (suc n) *ℤ signed_number b (value_of w d) +ℤ c)
bounded_holds w AtLeastZero true d n c =
    let k = floor_of (suc n) c (omega arith) in
    sym (at_least (suc n) (value_of w d) (int_div_euclid c (pos (suc n))) c (int_rem_euclid c (pos (suc n))) k.parts k.low k.high)
bounded_holds w AtLeastZero false d n c =
    let k = floor_of (suc n) c (omega arith) in
    let v = value_of w d in
    let q = int_div_euclid c (pos (suc n)) in
    ap not (same_lt q v (neg_ℤ v) (neg_ℤ q) (omega (arith, ints)))
    ∙ sym (at_least (suc n) (neg_ℤ v) q c (int_rem_euclid c (pos (suc n))) k.parts k.low k.high)
bounded_holds w IsZero b d n c = by_rest b (int_eq (int_rem_euclid c (pos (suc n))) (pos 0)) refl
  where
    q : ℤ
    q = int_div_euclid c (pos (suc n))

    r : ℤ
    r = int_rem_euclid c (pos (suc n))

    v : ℤ
    v = value_of w d

    k : Floor (suc n) c
    k = floor_of (suc n) c (omega arith)

    by_rest : (b t : Bool) → int_eq r (pos 0) ≡ t → is_true_in w (cond t (Is d Eq (signed_number b (neg_ℤ q))) False)
        ≡ int_eq (pos (suc n) *ℤ signed_number b v +ℤ c) (pos 0)
    by_rest true true e = sym (equal_where (suc n) v q c r k.parts k.low k.high (omega arith) ((signed_Decides r (pos 0)).0 e))
    by_rest false true e =
        same_eq v (neg_ℤ (neg_ℤ q)) (neg_ℤ v) (neg_ℤ q) (λ h. omega (arith, ints)) (λ h. omega (arith, ints))
        ∙ sym (equal_where (suc n) (neg_ℤ v) q c r k.parts k.low k.high (omega arith) ((signed_Decides r (pos 0)).0 e))
    by_rest b false e = sym (never_equal (suc n) (signed_number b v) q c r k.parts k.low k.high e)
bounded_holds w IsNotZero b d n c = by_rest b (int_eq (int_rem_euclid c (pos (suc n))) (pos 0)) refl
  where
    q : ℤ
    q = int_div_euclid c (pos (suc n))

    r : ℤ
    r = int_rem_euclid c (pos (suc n))

    v : ℤ
    v = value_of w d

    k : Floor (suc n) c
    k = floor_of (suc n) c (omega arith)

    by_rest : (b t : Bool) → int_eq r (pos 0) ≡ t → is_true_in w (cond t (Is d Ne (signed_number b (neg_ℤ q))) True)
        ≡ not (int_eq (pos (suc n) *ℤ signed_number b v +ℤ c) (pos 0))
    by_rest true true e = ap not (sym (equal_where (suc n) v q c r k.parts k.low k.high (omega arith) ((signed_Decides r (pos 0)).0 e)))
    by_rest false true e =
        ap not (same_eq v (neg_ℤ (neg_ℤ q)) (neg_ℤ v) (neg_ℤ q) (λ h. omega (arith, ints)) (λ h. omega (arith, ints)))
        ∙ ap not (sym (equal_where (suc n) (neg_ℤ v) q c r k.parts k.low k.high (omega arith) ((signed_Decides r (pos 0)).0 e)))
    by_rest b false e = ap not (sym (never_equal (suc n) (signed_number b v) q c r k.parts k.low k.high e))

turned : (b : Bool) (n : ℕ) (v : ℤ) → signed_number b (pos (suc n)) *ℤ v ≡ pos (suc n) *ℤ signed_number b v
turned true n v = refl
turned false n v = neg-mul_z (pos (suc n)) v ∙ sym (mul-neg_z (pos (suc n)) v)

by_divisor : (w : Valuation) (f : Form) (q : Polynomial) (c : ℤ) (g : ℕ) → common_divisor q ≡ g
    → is_true_in w (bounded_by f q g c) ≡ form_holds f (value_of w q +ℤ c)
by_divisor w f q c zero e = truth_is w (form_holds f c) ∙ ap (form_holds f) (let z = no_divisor w q e in omega (arith, ints))
by_divisor w f q c (suc n) e =
    let b = begins_positive q in
    let d = divide_coefficients q (signed_number b (pos (suc n))) in
    let m : AllMultiples (suc n) q = subst (λ g. AllMultiples g q) e (all_multiples q) in
    bounded_holds w f b d n c ∙ ap (λ z. form_holds f (z +ℤ c)) (sym (value_divided w b n q m ∙ turned b n (value_of w d)))

pub literal_form_holds : (w : Valuation) (f : Form) (p : Polynomial) → is_true_in w (literal_form f p) ≡ form_holds f (value_of w p)
literal_form_holds w f p = by_divisor w f (part_with_atoms p) (constant_sum p) (common_divisor (part_with_atoms p)) refl
    ∙ ap (form_holds f) (sym (value_parts w p))

-- what is computed is the literal of a form
done_form : (w : Valuation) (f : Form) (p : Polynomial) (n : NormalLiteral) → Done (literal_form f p) ≡ Done n → is_true_in w n ≡ form_holds f (value_of w p)
done_form w f p n e = let s : literal_form f p ≡ n = cc e in ap (is_true_in w) (sym s) ∙ literal_form_holds w f p

-- the same after 1 is taken away
done_less : (w : Valuation) (p : Polynomial) (n : NormalLiteral) → after (normal_difference p one) (λ q. Done (literal_form AtLeastZero q)) ≡ Done n
    → is_true_in w n ≡ not (int_lt (value_of w p -ℤ pos 1) (pos 0))
done_less w p n e =
    let s = goes_done (normal_difference p one) (λ q. Done (literal_form AtLeastZero q)) n e in
    done_form w AtLeastZero s.middle n s.next ∙ ap (λ z. not (int_lt z (pos 0))) (subtracted_value w p one s.middle s.first)

by_relation : (w : Valuation) (relation : Rel) (p : Polynomial) (n : NormalLiteral) (a b : ℤ) → value_of w p ≡ a -ℤ b → against_zero relation p ≡ Done n
    → is_true_in w n ≡ relates relation a b
by_relation w rel.Eq p n a b v e = done_form w IsZero p n e ∙ same_eq (value_of w p) (pos 0) a b (λ h. omega (arith, ints)) (λ h. omega (arith, ints))
by_relation w rel.Ne p n a b v e = done_form w IsNotZero p n e
    ∙ ap not (same_eq (value_of w p) (pos 0) a b (λ h. omega (arith, ints)) (λ h. omega (arith, ints)))
by_relation w rel.Ge p n a b v e = done_form w AtLeastZero p n e ∙ ap not (same_lt (value_of w p) (pos 0) a b (omega (arith, ints)))
by_relation w rel.Le p n a b v e =
    done_form w AtLeastZero (raw_negation p) n e
    ∙ ap not (same_lt (value_of w (raw_negation p)) (pos 0) b a (let k = negation_value w p in omega (arith, ints)))
by_relation w rel.Gt p n a b v e = done_less w p n e ∙ by_test (int_lt b a) refl
  where
    by_test : (t : Bool) → int_lt b a ≡ t → not (int_lt (value_of w p -ℤ pos 1) (pos 0)) ≡ t
    by_test true h = ap not (not_lt (value_of w p -ℤ pos 1) (pos 0) (let x = lt_true b a h in omega (arith, ints)))
    by_test false h = ap not (is_lt (value_of w p -ℤ pos 1) (pos 0) (let x = lt_false b a h in omega (arith, ints)))
by_relation w rel.Lt p n a b v e = done_less w (raw_negation p) n e ∙ by_test (int_lt a b) refl
  where
    by_test : (t : Bool) → int_lt a b ≡ t → not (int_lt (value_of w (raw_negation p) -ℤ pos 1) (pos 0)) ≡ t
    by_test true h = ap not (not_lt (value_of w (raw_negation p) -ℤ pos 1) (pos 0) (let x = lt_true a b h in let k = negation_value w p in omega (arith, ints)))
    by_test false h =
        ap not (is_lt (value_of w (raw_negation p) -ℤ pos 1) (pos 0) (let x = lt_false a b h in let k = negation_value w p in omega (arith, ints)))

pub literal_means : (relation : Rel) (l r : Polynomial) (n : NormalLiteral) (w : Valuation) → literal relation l r ≡ Done n
    → is_true_in w n ≡ relates relation (value_of w l) (value_of w r)
literal_means relation l r n w e =
    let s = goes_done (normal_difference l r) (against_zero relation) n e in
    by_relation w relation s.middle n (value_of w l) (value_of w r) (subtracted_value w l r s.middle s.first) s.next
