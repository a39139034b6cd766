-- The literals of a relation and of its opposite clash.
use Rattle.std.proofs.Common.{◌≡◌, ℕ, zero, suc, ℤ, pos, negsuc, ◌+ℤ◌, ◌-ℤ◌, ◌*ℤ◌, ◌≤ℤ◌, neg_ℤ, cond, Bool, true, false, ◌&&◌, not, arith, refl, ap, ap₂, sym}
use Rattle.std.proofs.Common.{subst, ◌∙◌}
use Rattle.std.specs.Prelude.{int_lt, int_div}
use Rattle.std.proofs.lemmas.Int.{ints}
use Rattle.std.specs.Int.{int_div_euclid, int_rem_euclid}
use Rattle.std.specs.Ordering.{int_eq}
use Rattle.std.specs.Cmp.{signed_Decides}
use Rattle.std.proofs.lemmas.Bool.{and_from}
use Rattle.fs_model.proofs.Integers.{times_natural}
use Rattle.fs_model.proofs.Ring.{mul-add_z}
use Rattle.fs_model.specs.declared.parts.Rel.{Rel}
use Rattle.fs_model.specs.declared.parts.Rel.TheVariants as rel
use Rattle.fs_model.specs.Trees.{opposite}
use Rattle.nf_trees.specs.NormalTerms.{Polynomial, Zero, Plus}
use Rattle.nf_trees.specs.Order.{same_polynomial}
use Rattle.nf_terms.specs.Computed.{Done}
use Rattle.nf_terms.specs.Normal.{part_with_atoms, constant_sum}
use Rattle.nf_terms.specs.RawSums.{raw_negation, raw_difference}
use Rattle.nf_terms.proofs.Computed.{same_Done}
use Rattle.nf_sums.specs.Operations.{normal_difference}
use Rattle.nf_sums.proofs.Values.{goes_done}
use Rattle.nf_rel.specs.Gcd.{gcd}
use Rattle.nf_rel.specs.declared.kind.Kind.TheVariants.{Eq, Ne}
use Rattle.nf_rel.specs.Literals.{NormalLiteral, True, False, Is, truth, common_divisor, divide_coefficients, begins_positive, signed_number, AtLeastZero}
use Rattle.nf_rel.specs.Literals.{IsZero, IsNotZero, bounded_literal, bounded_by, literal_form, one, against_zero, literal, clash}
use Rattle.nf_rel.proofs.Floors.{floor_of, lt_false}
use Rattle.nf_rel.proofs.Exact.{same_self}
use Rattle.alike_searches.specs.Risen.{is_risen}
use Rattle.alike_searches.proofs.RisenForms.{risen_term, form_risen, negation_risen}
use Rattle.alike_searches.proofs.ConstantParts.{part_risen, less_one, part_of_less, constant_of_less}
use Rattle.alike_searches.proofs.Computing.{difference_is}

-- in either order
record Clash (m n : NormalLiteral) : Type 0 where
  forth : clash m n ≡ true
  back : clash n m ≡ true

-- ---- equal or not

eq_self : (x : ℤ) → int_eq x x ≡ true
eq_self x = (signed_Decides x x).1 refl

one_direction : (d : Polynomial) (b : Bool) → b ≡ true → same_polynomial d d && b ≡ true
one_direction d b h = and_from (same_polynomial d d) b (same_self d) h

equal_or_not : (q : Polynomial) (g : ℕ) (c : ℤ) → Clash (bounded_by IsZero q g c) (bounded_by IsNotZero q g c)
equal_or_not q zero c = by_test (int_eq c (pos 0))
  where
    by_test : (b : Bool) → Clash (truth b) (truth (not b))
    by_test true = record { forth = refl; back = refl }
    by_test false = record { forth = refl; back = refl }
equal_or_not q (suc n) c =
    by_divides (divide_coefficients q (signed_number (begins_positive q) (pos (suc n))))
    (signed_number (begins_positive q) (neg_ℤ (int_div_euclid c (pos (suc n))))) (int_eq (int_rem_euclid c (pos (suc n))) (pos 0))
  where
    by_divides : (d : Polynomial) (k : ℤ) (b : Bool) → Clash (cond b (Is d Eq k) False) (cond b (Is d Ne k) True)
    by_divides d k true = record { forth = one_direction d (int_eq k k) (eq_self k); back = one_direction d (int_eq k k) (eq_self k) }
    by_divides d k false = record { forth = refl; back = refl }

-- ---- at least, or less

floors_apart : (g : ℕ) (c : ℤ) → int_lt (int_div_euclid (neg_ℤ c -ℤ pos 1) (pos (suc g))) (neg_ℤ (int_div_euclid c (pos (suc g)))) ≡ true
floors_apart g c = by_test (int_lt (int_div_euclid (neg_ℤ c -ℤ pos 1) (pos (suc g))) (neg_ℤ (int_div_euclid c (pos (suc g))))) refl
  where
    wrong : (f k r s : ℤ) → pos (suc g) *ℤ f +ℤ r ≡ c → pos (suc g) *ℤ k +ℤ s ≡ neg_ℤ c -ℤ pos 1 → pos 0 ≤ℤ r → pos 0 ≤ℤ s → neg_ℤ f ≤ℤ k → ⊥
    wrong f k r s a b x y h = omega (arith, ints, times_natural (suc g) (f +ℤ k) (omega (arith, ints, h)), mul-add_z (pos (suc g)) f k)

    by_test : (b : Bool) → int_lt (int_div_euclid (neg_ℤ c -ℤ pos 1) (pos (suc g))) (neg_ℤ (int_div_euclid c (pos (suc g)))) ≡ b → b ≡ true
    by_test true e = refl
    by_test false e =
        let x = floor_of (suc g) c (omega arith) in
        let y = floor_of (suc g) (neg_ℤ c -ℤ pos 1) (omega arith) in
        absurd
        (wrong (int_div_euclid c (pos (suc g))) (int_div_euclid (neg_ℤ c -ℤ pos 1) (pos (suc g))) (int_rem_euclid c (pos (suc g)))
        (int_rem_euclid (neg_ℤ c -ℤ pos 1) (pos (suc g))) x.parts y.parts x.low y.low
        (lt_false (int_div_euclid (neg_ℤ c -ℤ pos 1) (pos (suc g))) (neg_ℤ (int_div_euclid c (pos (suc g)))) e))

both_negated : (c : ℤ) (n : ℕ) → int_div (neg_ℤ c) (neg_ℤ (pos (suc n))) ≡ int_div c (pos (suc n))
both_negated (pos zero) n = omega (arith, ints)
both_negated (pos (suc k)) n = refl
both_negated (negsuc k) n = refl

one_negated : (c : ℤ) (n : ℕ) → int_div (neg_ℤ c) (pos (suc n)) ≡ int_div c (neg_ℤ (pos (suc n)))
one_negated (pos zero) n = omega (arith, ints)
one_negated (pos (suc k)) n = refl
one_negated (negsuc k) n = refl

divided_both : (x : Polynomial) (n : ℕ) → divide_coefficients (raw_negation x) (neg_ℤ (pos (suc n))) ≡ divide_coefficients x (pos (suc n))
divided_both Zero n = refl
divided_both (Plus m c p) n = ap₂ (Plus m) (both_negated c n) (divided_both p n)

divided_one : (x : Polynomial) (n : ℕ) → divide_coefficients (raw_negation x) (pos (suc n)) ≡ divide_coefficients x (neg_ℤ (pos (suc n)))
divided_one Zero n = refl
divided_one (Plus m c p) n = ap₂ (Plus m) (one_negated c n) (divided_one p n)

divisor_negated : (x : Polynomial) → common_divisor (raw_negation x) ≡ common_divisor x
divisor_negated Zero = refl
divisor_negated (Plus m c p) = ap₂ gcd (omega (arith, ints)) (divisor_negated p)

turns : (c : ℤ) (b : Bool) → not (int_eq c (pos 0)) ≡ true → int_lt (pos 0) c ≡ b → int_lt (pos 0) (neg_ℤ c) ≡ not b
turns c true h e = grind (arith, ints)
turns c false h e = grind (arith, ints)

least_or_less : (x : Polynomial) (g : ℕ) (c : ℤ) → is_risen x ≡ true → common_divisor x ≡ g
    → Clash (bounded_by AtLeastZero x g c) (bounded_by AtLeastZero (raw_negation x) g (neg_ℤ c -ℤ pos 1))
least_or_less x zero c o e = by_test (int_lt c (pos 0)) refl (int_lt (neg_ℤ c -ℤ pos 1) (pos 0)) refl
  where
    by_test : (a : Bool) → int_lt c (pos 0) ≡ a → (b : Bool) → int_lt (neg_ℤ c -ℤ pos 1) (pos 0) ≡ b → Clash (truth (not a)) (truth (not b))
    by_test true h true g = absurd (grind (arith, ints))
    by_test true h false g = record { forth = refl; back = refl }
    by_test false h true g = record { forth = refl; back = refl }
    by_test false h false g = absurd (grind (arith, ints))
least_or_less Zero (suc n) c o e = absurd (omega (arith, e))
least_or_less (Plus m z p) (suc n) c o e = by_sign (int_lt (pos 0) z) refl
  where
    apart : int_lt (int_div_euclid (neg_ℤ c -ℤ pos 1) (pos (suc n))) (neg_ℤ (int_div_euclid c (pos (suc n)))) ≡ true
    apart = floors_apart n c

    apart' : int_lt (int_div_euclid c (pos (suc n))) (neg_ℤ (int_div_euclid (neg_ℤ c -ℤ pos 1) (pos (suc n)))) ≡ true
    apart' = swapped (int_div_euclid (neg_ℤ c -ℤ pos 1) (pos (suc n))) (int_div_euclid c (pos (suc n))) apart
      where
        swapped : (a b : ℤ) → int_lt a (neg_ℤ b) ≡ true → int_lt b (neg_ℤ a) ≡ true
        swapped a b h = grind (arith, ints)

    positive : Clash (bounded_literal AtLeastZero true (divide_coefficients (Plus m z p) (pos (suc n))) (suc n) c)
        (bounded_literal AtLeastZero false (divide_coefficients (raw_negation (Plus m z p)) (neg_ℤ (pos (suc n)))) (suc n) (neg_ℤ c -ℤ pos 1))
    positive =
        subst
        (λ d. Clash (bounded_literal AtLeastZero true (divide_coefficients (Plus m z p) (pos (suc n))) (suc n) c)
        (bounded_literal AtLeastZero false d (suc n) (neg_ℤ c -ℤ pos 1))) (sym (divided_both (Plus m z p) n))
        (record {
          forth = one_direction (divide_coefficients (Plus m z p) (pos (suc n))) _ apart;
          back = one_direction (divide_coefficients (Plus m z p) (pos (suc n))) _ apart;
        })

    negative : Clash (bounded_literal AtLeastZero false (divide_coefficients (Plus m z p) (neg_ℤ (pos (suc n)))) (suc n) c)
        (bounded_literal AtLeastZero true (divide_coefficients (raw_negation (Plus m z p)) (pos (suc n))) (suc n) (neg_ℤ c -ℤ pos 1))
    negative =
        subst
        (λ d. Clash (bounded_literal AtLeastZero false (divide_coefficients (Plus m z p) (neg_ℤ (pos (suc n)))) (suc n) c)
        (bounded_literal AtLeastZero true d (suc n) (neg_ℤ c -ℤ pos 1))) (sym (divided_one (Plus m z p) n))
        (record {
          forth = one_direction (divide_coefficients (Plus m z p) (neg_ℤ (pos (suc n)))) _ apart';
          back = one_direction (divide_coefficients (Plus m z p) (neg_ℤ (pos (suc n)))) _ apart';
        })

    by_sign : (b : Bool) → int_lt (pos 0) z ≡ b → Clash (bounded_by AtLeastZero (Plus m z p) (suc n) c)
        (bounded_by AtLeastZero (raw_negation (Plus m z p)) (suc n) (neg_ℤ c -ℤ pos 1))
    by_sign true h =
        subst
        (λ b. Clash (bounded_literal AtLeastZero b (divide_coefficients (Plus m z p) (signed_number b (pos (suc n)))) (suc n) c)
        (bounded_by AtLeastZero (raw_negation (Plus m z p)) (suc n) (neg_ℤ c -ℤ pos 1))) (sym h)
        (subst
        (λ b. Clash (bounded_literal AtLeastZero true (divide_coefficients (Plus m z p) (pos (suc n))) (suc n) c)
        (bounded_literal AtLeastZero b (divide_coefficients (raw_negation (Plus m z p)) (signed_number b (pos (suc n)))) (suc n) (neg_ℤ c -ℤ pos 1)))
        (sym (turns z true (risen_term m z p o).nonzero h)) positive)
    by_sign false h =
        subst
        (λ b. Clash (bounded_literal AtLeastZero b (divide_coefficients (Plus m z p) (signed_number b (pos (suc n)))) (suc n) c)
        (bounded_by AtLeastZero (raw_negation (Plus m z p)) (suc n) (neg_ℤ c -ℤ pos 1))) (sym h)
        (subst
        (λ b. Clash (bounded_literal AtLeastZero false (divide_coefficients (Plus m z p) (neg_ℤ (pos (suc n)))) (suc n) c)
        (bounded_literal AtLeastZero b (divide_coefficients (raw_negation (Plus m z p)) (signed_number b (pos (suc n)))) (suc n) (neg_ℤ c -ℤ pos 1)))
        (sym (turns z false (risen_term m z p o).nonzero h)) negative)

-- a sum that rises at least 0, and minus it and minus 1 at least 0
least_clashes : (e : Polynomial) → is_risen e ≡ true → Clash (literal_form AtLeastZero e) (literal_form AtLeastZero (less_one e))
least_clashes e o =
    subst (λ q. Clash (literal_form AtLeastZero e) (bounded_by AtLeastZero q (common_divisor q) (constant_sum (less_one e)))) (sym (part_of_less e o))
    (subst
    (λ z. Clash (literal_form AtLeastZero e) (bounded_by AtLeastZero (raw_negation (part_with_atoms e)) (common_divisor (raw_negation (part_with_atoms e))) z))
    (sym (constant_of_less e))
    (subst (λ g. Clash (literal_form AtLeastZero e) (bounded_by AtLeastZero (raw_negation (part_with_atoms e)) g (neg_ℤ (constant_sum e) -ℤ pos 1)))
    (sym (divisor_negated (part_with_atoms e)))
    (least_or_less (part_with_atoms e) (common_divisor (part_with_atoms e)) (constant_sum e) (part_risen e o) refl)))

negation_twice : (p : Polynomial) → raw_negation (raw_negation p) ≡ p
negation_twice Zero = refl
negation_twice (Plus m c p) = ap₂ (Plus m) (omega (arith, ints)) (negation_twice p)

clash_of : (m n k l : NormalLiteral) → k ≡ m → l ≡ n → Clash k l → Clash m n
clash_of m n k l e g b = subst (λ z. Clash m z) g (subst (λ z. Clash z l) e b)

turned : (m n : NormalLiteral) → Clash m n → Clash n m
turned m n b = record { forth = b.back; back = b.forth }

-- the literals of a sum that rises and of minus it and minus 1, which is computed
module _ (e : Polynomial) (o : is_risen e ≡ true) where
  lower : (n : NormalLiteral) (r : Polynomial) → normal_difference (raw_negation e) one ≡ Done r → literal_form AtLeastZero r ≡ n
      → Clash (literal_form AtLeastZero e) n
  lower n r g h =
      subst (Clash (literal_form AtLeastZero e)) h
      (subst (λ z. Clash (literal_form AtLeastZero e) (literal_form AtLeastZero z)) (difference_is (raw_negation e) one r g) (least_clashes e o))

against_clash : (d : Polynomial) → is_risen d ≡ true → (relation : Rel) (m n : NormalLiteral) → against_zero relation d ≡ Done m
    → against_zero (opposite relation) d ≡ Done n → Clash m n
against_clash d o rel.Eq m n e g =
    clash_of m n (literal_form IsZero d) (literal_form IsNotZero d) (same_Done _ _ e) (same_Done _ _ g)
    (equal_or_not (part_with_atoms d) (common_divisor (part_with_atoms d)) (constant_sum d))
against_clash d o rel.Ne m n e g =
    clash_of m n (literal_form IsNotZero d) (literal_form IsZero d) (same_Done _ _ e) (same_Done _ _ g)
    (turned _ _ (equal_or_not (part_with_atoms d) (common_divisor (part_with_atoms d)) (constant_sum d)))
against_clash d o rel.Ge m n e g =
    let s = goes_done (normal_difference (raw_negation d) one) (λ q. Done (literal_form AtLeastZero q)) n g in
    subst (λ z. Clash z n) (same_Done (literal_form AtLeastZero d) m e) (lower d o n s.middle s.first (same_Done _ _ s.next))
against_clash d o rel.Lt m n e g =
    let s = goes_done (normal_difference (raw_negation d) one) (λ q. Done (literal_form AtLeastZero q)) m e in
    turned n m (subst (λ z. Clash z m) (same_Done (literal_form AtLeastZero d) n g) (lower d o m s.middle s.first (same_Done _ _ s.next)))
against_clash d o rel.Le m n e g =
    let s = goes_done (normal_difference d one) (λ q. Done (literal_form AtLeastZero q)) n g in
    subst (λ z. Clash z n) (same_Done (literal_form AtLeastZero (raw_negation d)) m e)
    (lower (raw_negation d) (negation_risen d o) n s.middle (ap (λ z. normal_difference z one) (negation_twice d) ∙ s.first) (same_Done _ _ s.next))
against_clash d o rel.Gt m n e g =
    let s = goes_done (normal_difference d one) (λ q. Done (literal_form AtLeastZero q)) m e in
    turned n m
    (subst (λ z. Clash z m) (same_Done (literal_form AtLeastZero (raw_negation d)) n g)
    (lower (raw_negation d) (negation_risen d o) m s.middle (ap (λ z. normal_difference z one) (negation_twice d) ∙ s.first) (same_Done _ _ s.next)))

pub opposites_clash : (relation : Rel) (p q : Polynomial) (m n : NormalLiteral) → literal relation p q ≡ Done m → literal (opposite relation) p q ≡ Done n
    → clash m n ≡ true
opposites_clash relation p q m n e g =
    let s = goes_done (normal_difference p q) (against_zero relation) m e in
    let t = goes_done (normal_difference p q) (against_zero (opposite relation)) n g in
    let k : s.middle ≡ t.middle = same_Done s.middle t.middle (sym s.first ∙ t.first) in
    let d : is_risen s.middle ≡ true = subst (λ z. is_risen z ≡ true) (difference_is p q s.middle s.first) (form_risen (raw_difference p q)) in
    (against_clash s.middle d relation m n s.next (ap (against_zero (opposite relation)) k ∙ t.next)).forth
