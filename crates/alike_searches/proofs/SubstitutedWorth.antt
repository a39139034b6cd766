-- What a substituted sum is worth, for all that ignores the order of atoms.
use Rattle.std.proofs.Common.{◌≡◌, ℤ, pos, ◌+ℤ◌, ◌-ℤ◌, ◌*ℤ◌, true, arith, ap, sym, ◌∙◌, List}
use Rattle.std.proofs.lemmas.Int.{ints}
use Rattle.std.specs.Ordering.{int_eq}
use Rattle.std.specs.Cmp.{signed_Decides}
use Rattle.fs_model.proofs.Booleans.{by_test}
use Rattle.fs_model.proofs.Ring.{mul-add_z, mul_assoc_z}
use Rattle.nf_trees.specs.NormalTerms.{Monomial, Polynomial, Symbol, One, Times, Zero, Plus, polynomial_of_symbol, polynomial_of_number}
use Rattle.nf_terms.specs.RawSums.{raw_sum, raw_difference, raw_multiple, raw_product}
use Rattle.nf_terms.specs.Computed.{Done, after}
use Rattle.fs_model.specs.declared.sides.Pos.{Pos}
use Rattle.nf_terms.specs.declared.form.Nf.{Nf}
use Rattle.nf_terms.proofs.Computed.{same_Done}
use Rattle.nf_sums.specs.OrderedSums.{worth_of, IgnoresOrder}
use Rattle.nf_sums.specs.Operations.{normal_sum, normal_difference, normal_product, number}
use Rattle.nf_sums.proofs.Collecting.{worth-form}
use Rattle.nf_sums.proofs.Worth.{worth-sum, worth-negation, worth-difference}
use Rattle.nf_sums.proofs.Values.{goes_done}
use Rattle.nf_substitution.specs.Vectors.{number_at}
use Rattle.nf_substitution.specs.Substitution.{atoms_substituted, terms_substituted, polynomial_substituted}
use Rattle.alike_searches.specs.Risen.{is_risen}
use Rattle.alike_searches.proofs.RisenForms.{settled_by_worth}
use Rattle.alike_searches.proofs.Computing.{sum_is, difference_is, product_is, number_is}
use Rattle.alike_searches.proofs.RisenSubstitutions.{substituted_rises}

module _ (f : Monomial → ℤ) (h : IgnoresOrder f) where
  pub sum_worth : (p q r : Polynomial) → normal_sum p q ≡ Done r → worth_of f r ≡ worth_of f p +ℤ worth_of f q
  sum_worth p q r e = sym (ap (worth_of f) (sum_is p q r e)) ∙ worth-form f h (raw_sum p q) ∙ worth-sum f p q

  pub difference_worth : (p q r : Polynomial) → normal_difference p q ≡ Done r → worth_of f r ≡ worth_of f p -ℤ worth_of f q
  difference_worth p q r e = sym (ap (worth_of f) (difference_is p q r e)) ∙ worth-form f h (raw_difference p q)
      ∙ omega (arith, ints, worth-difference f p q, worth-negation f q)

  multiple_worth : (c : ℤ) (q : Polynomial) → worth_of f (raw_multiple One c q) ≡ c *ℤ worth_of f q
  multiple_worth c Zero = omega (arith, ints)
  multiple_worth c (Plus n d q) = omega (arith, ints, multiple_worth c q, mul_assoc_z c d (f n), mul-add_z c (d *ℤ f n) (worth_of f q))

  scaled_worth : (c : ℤ) (q : Polynomial) → worth_of f (raw_product (polynomial_of_number c) q) ≡ c *ℤ worth_of f q
  scaled_worth c q =
      by_test (λ z. worth_of f (raw_product z q) ≡ c *ℤ worth_of f q) Zero (Plus One c Zero) (int_eq c (pos 0))
      (λ e. omega (arith, ints, ap (λ z. z *ℤ worth_of f q) ((signed_Decides c (pos 0)).0 e)))
      (λ e. omega (arith, ints, worth-sum f (raw_multiple One c q) Zero, multiple_worth c q))

  module _ (v : List (Pos × Nf)) where
    -- a number times a symbol that is substituted
    pub unit_worth : (s : Pos) (c : ℤ) (r : Polynomial) → after (number c) (λ n. atoms_substituted v (Times (Symbol s) One) n) ≡ Done r
        → worth_of f r ≡ c *ℤ worth_of f (number_at v s)
    unit_worth s c r e =
        let n = goes_done (number c) (λ n. atoms_substituted v (Times (Symbol s) One) n) r e in
        let t = goes_done (normal_product n.middle (number_at v s)) (λ z. Done z) r n.next in
        sym (ap (worth_of f) (product_is n.middle (number_at v s) t.middle t.first ∙ same_Done t.middle r t.next))
        ∙ worth-form f h (raw_product n.middle (number_at v s))
        ∙ sym (ap (λ z. worth_of f (raw_product z (number_at v s))) (number_is c n.middle n.first)) ∙ scaled_worth c (number_at v s)

    -- what is added does not depend on the sum before
    pub shift : (p z y u w : Polynomial) → terms_substituted v p z ≡ Done u → terms_substituted v p y ≡ Done w
        → worth_of f u +ℤ worth_of f y ≡ worth_of f w +ℤ worth_of f z
    shift Zero z y u w e g = omega (arith, ints, ap (worth_of f) (same_Done z u e), ap (worth_of f) (same_Done y w g))
    shift (Plus m c p) z y u w e g =
        let term = after (number c) (λ n. atoms_substituted v m n) in
        let a = goes_done term (λ q. after (normal_sum z q) (λ r. terms_substituted v p r)) u e in
        let b = goes_done (normal_sum z a.middle) (λ r. terms_substituted v p r) u a.next in
        let i = goes_done term (λ q. after (normal_sum y q) (λ r. terms_substituted v p r)) w g in
        let j = goes_done (normal_sum y i.middle) (λ r. terms_substituted v p r) w i.next in
        let same : i.middle ≡ a.middle = same_Done i.middle a.middle (sym i.first ∙ a.first) in
        omega (
          arith,
          ints,
          shift p b.middle j.middle u w b.next j.next,
          sum_worth z a.middle b.middle b.first,
          sum_worth y i.middle j.middle j.first,
          ap (worth_of f) same,
        )

    symbol_worth : (s : Pos) (r : Polynomial) → polynomial_substituted v (polynomial_of_symbol s) ≡ Done r → worth_of f r ≡ worth_of f (number_at v s)
    symbol_worth s r e =
        let a = goes_done (after (number (pos 1)) (λ n. atoms_substituted v (Times (Symbol s) One) n)) (λ q. after (normal_sum Zero q) (λ z. Done z)) r e in
        let b = goes_done (normal_sum Zero a.middle) (λ z. Done z) r a.next in
        omega (arith, ints, ap (worth_of f) (same_Done b.middle r b.next), sum_worth Zero a.middle b.middle b.first, unit_worth s (pos 1) a.middle a.first)

-- a symbol that is substituted gives the number that the vector has for it
pub symbol_substituted : (v : List (Pos × Nf)) (p : Pos) (r : Polynomial) → is_risen (number_at v p) ≡ true
    → polynomial_substituted v (polynomial_of_symbol p) ≡ Done r
    → r ≡ number_at v p
symbol_substituted v p r o e = settled_by_worth r (number_at v p) (substituted_rises v (polynomial_of_symbol p) r e) o (λ f h. symbol_worth f h v p r e)
