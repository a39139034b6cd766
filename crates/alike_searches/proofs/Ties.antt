-- What a position with the same values as another is tied to.
use Rattle.std.proofs.Common.{◌≡◌, cond, Bool, true, false, refl, ap, ap₂, sym, subst, ◌∙◌, List, [], ◌∷◌, ◌++◌, Option, Some, None}
use Rattle.std.specs.Prelude.{◌&&◌}
use Rattle.std.proofs.lemmas.Bool.{and_from}
use Rattle.fs_model.specs.declared.parts.Sort.{Sort}
use Rattle.fs_model.specs.declared.parts.Sort.TheVariants as sort
use Rattle.nf_trees.specs.NormalTerms.{Polynomial, Zero, polynomial_of_symbol}
use Rattle.nf_trees.specs.Order.{same_polynomial}
use Rattle.nf_terms.specs.Forms.{same_form}
use Rattle.nf_terms.specs.Computed.{Computed, Done, after}
use Rattle.fs_model.specs.declared.sides.Pos.{Pos}
use Rattle.nf_terms.specs.declared.form.Nf.{Nf}
use Rattle.nf_terms.specs.declared.form.Nf.TheVariants.{Num, Arr, Seq}
use Rattle.nf_terms.proofs.Computed.{same_Done}
use Rattle.nf_sums.specs.Operations.{normal_sum, normal_difference}
use Rattle.nf_sums.proofs.Values.{goes_done}
use Rattle.nf_substitution.specs.Vectors.{number_at}
use Rattle.nf_substitution.specs.Substitution.{polynomial_substituted}
use Rattle.sym_facts.specs.Facts.{own_symbol, has_its_sort}
use Rattle.sym_facts.specs.Entailment.{form_like}
use Rattle.search_tables.specs.Rebases.{value_at}
use Rattle.search_tables.specs.Joins.{Freed, symbol_like, number_tied_to, number_tied, is_alike, form_tied, tied_equation}
use Rattle.search_tables.proofs.StartEntailed.{own_form}
use Rattle.alike_searches.proofs.Computing.{sum_is}
use Rattle.alike_searches.proofs.RisenSubstitutions.{self_difference}

-- ---- forms and sorts

pub same_of_equal : (f g : Nf) → f ≡ g → same_form f g ≡ true
same_of_equal f g e = subst (λ z. same_form f z ≡ true) e (own_form f)

-- of the sort of a form, what a vector has at a position is its value
pub value_like : (v : List (Pos × Nf)) (s : Sort) (p : Pos) (f : Nf) → has_its_sort s (Some f) ≡ true → form_like v p f ≡ value_at v s p
value_like v sort.Scalar p (Num t) e = refl
value_like v sort.Scalar p (Arr a) e = absurd (cc e)
value_like v sort.Scalar p (Seq l) e = absurd (cc e)
value_like v sort.Array p (Num t) e = absurd (cc e)
value_like v sort.Array p (Arr a) e = refl
value_like v sort.Array p (Seq l) e = absurd (cc e)
value_like v sort.Port p (Num t) e = absurd (cc e)
value_like v sort.Port p (Arr a) e = absurd (cc e)
value_like v sort.Port p (Seq l) e = refl

pub symbol_of_sort : (s : Sort) (p : Pos) (f : Nf) → has_its_sort s (Some f) ≡ true → symbol_like p f ≡ own_symbol s p
symbol_of_sort sort.Scalar p (Num t) e = refl
symbol_of_sort sort.Scalar p (Arr a) e = absurd (cc e)
symbol_of_sort sort.Scalar p (Seq l) e = absurd (cc e)
symbol_of_sort sort.Array p (Num t) e = absurd (cc e)
symbol_of_sort sort.Array p (Arr a) e = refl
symbol_of_sort sort.Array p (Seq l) e = absurd (cc e)
symbol_of_sort sort.Port p (Num t) e = absurd (cc e)
symbol_of_sort sort.Port p (Arr a) e = absurd (cc e)
symbol_of_sort sort.Port p (Seq l) e = refl

-- ---- a symbol and nothing

pub symbol_more : (p : Pos) (r : Polynomial) → normal_sum (polynomial_of_symbol p) Zero ≡ Done r → r ≡ polynomial_of_symbol p
symbol_more p r e = sym (sum_is (polynomial_of_symbol p) Zero r e)

-- ---- positions with the same values are tied alike

module _ (v : List (Pos × Nf)) where
  number_of_like : (p q : Pos) (t : Polynomial) → form_like v p (Num t) ≡ form_like v q (Num t) → number_at v p ≡ number_at v q
  number_of_like p q t e = cc e

  number_alike : (p q : Pos) (t : Polynomial) → number_at v p ≡ number_at v q → (fs : List Freed) → number_tied v p t fs ≡ number_tied v q t fs
  number_alike p q t e [] = refl
  number_alike p q t e (f ∷ fs) = by_form f.old (number_alike p q t e fs)
    where
      by_form : (o : Nf) {l m : Computed (Option Nf)} → l ≡ m → number_tied_to v p t f.pos o l ≡ number_tied_to v q t f.pos o m
      by_form (Num u) g = λ k. after (normal_difference t u)
          (λ d. after (normal_difference (e k) (number_at v f.pos))
          (λ c. after (polynomial_substituted v d)
          (λ s. cond {A = Computed (Option Nf)} (same_polynomial c s) (after (normal_sum (polynomial_of_symbol f.pos) d) (λ r. Done (Some (Num r)))) (g k))))
      by_form (Arr a) g = g
      by_form (Seq l) g = g

  form_alike : (p q : Pos) (t : Nf) → form_like v p t ≡ form_like v q t → (fs : List Freed) → form_tied v p t fs ≡ form_tied v q t fs
  form_alike p q t e [] = refl
  form_alike p q t e (f ∷ fs) = λ k. cond {A = Option Nf} (same_form t f.old && same_form (e k) (form_like v f.pos f.old)) (Some (symbol_like f.pos t))
      (form_alike p q t e fs k)

  pub tied_alike : (p q : Pos) (t : Nf) (fs : List Freed) → form_like v p t ≡ form_like v q t → tied_equation v p t fs ≡ tied_equation v q t fs
  tied_alike p q (Num t) fs e = number_alike p q t (number_of_like p q t e) fs
  tied_alike p q (Arr a) fs e = ap Done (form_alike p q (Arr a) e fs)
  tied_alike p q (Seq l) fs e = ap Done (form_alike p q (Seq l) e fs)

  -- ---- where there is no tie, more freed positions are looked at

  record PassesOn (p : Pos) (t : Polynomial) (q : Pos) (o : Nf) (l : Computed (Option Nf)) : Type 0 where
    passes : (m : Computed (Option Nf)) → number_tied_to v p t q o m ≡ m
    later : l ≡ Done None

  number_passes : (p : Pos) (t : Polynomial) (q : Pos) (o : Nf) (l : Computed (Option Nf)) → number_tied_to v p t q o l ≡ Done None → PassesOn p t q o l
  number_passes p t q (Num u) l e =
      let a = goes_done (normal_difference t u)
      (λ d. after (normal_difference (number_at v p) (number_at v q))
      (λ c. after (polynomial_substituted v d) (λ s. cond (same_polynomial c s) (after (normal_sum (polynomial_of_symbol q) d) (λ r. Done (Some (Num r)))) l)))
      None e in
      let b = goes_done (normal_difference (number_at v p) (number_at v q))
      (λ c. after (polynomial_substituted v a.middle)
      (λ s. cond (same_polynomial c s) (after (normal_sum (polynomial_of_symbol q) a.middle) (λ r. Done (Some (Num r)))) l))
      None a.next in
      let c = goes_done (polynomial_substituted v a.middle)
      (λ s. cond (same_polynomial b.middle s) (after (normal_sum (polynomial_of_symbol q) a.middle) (λ r. Done (Some (Num r)))) l) None b.next in
      by_test a.middle b.middle c.middle (same_polynomial b.middle c.middle) refl a.first b.first c.first c.next
    where
      by_test : (d g s : Polynomial) (z : Bool) → same_polynomial g s ≡ z → normal_difference t u ≡ Done d
          → normal_difference (number_at v p) (number_at v q) ≡ Done g
          → polynomial_substituted v d ≡ Done s
          → cond {A = Computed (Option Nf)} z (after (normal_sum (polynomial_of_symbol q) d) (λ r. Done (Some (Num r)))) l ≡ Done None
          → PassesOn p t q (Num u) l
      by_test d g s true h i j k w = let r = goes_done (normal_sum (polynomial_of_symbol q) d) (λ r. Done (Some (Num r))) None w in
          absurd (let n : Some (Num r.middle) ≡ None = cc r.next in cc n)
      by_test d g s false h i j k w =
          record {
            passes =
                λ m.
                (λ n. after (i n)
                (λ d. after (normal_difference (number_at v p) (number_at v q))
                (λ c. after (polynomial_substituted v d)
                (λ s. cond {A = Computed (Option Nf)} (same_polynomial c s) (after (normal_sum (polynomial_of_symbol q) d) (λ r. Done (Some (Num r)))) m))))
                ∙ (λ n. after (j n)
                (λ c. after (polynomial_substituted v d)
                (λ s. cond {A = Computed (Option Nf)} (same_polynomial c s) (after (normal_sum (polynomial_of_symbol q) d) (λ r. Done (Some (Num r)))) m)))
                ∙ (λ n. after (k n)
                (λ s. cond {A = Computed (Option Nf)} (same_polynomial g s) (after (normal_sum (polynomial_of_symbol q) d) (λ r. Done (Some (Num r)))) m))
                ∙ ap (λ y. cond {A = Computed (Option Nf)} y (after (normal_sum (polynomial_of_symbol q) d) (λ r. Done (Some (Num r)))) m) h;
            later = w;
          }
  number_passes p t q (Arr a) l e = record { passes = λ m. refl; later = e }
  number_passes p t q (Seq x) l e = record { passes = λ m. refl; later = e }

  number_more : (p : Pos) (t : Polynomial) (fs gs : List Freed) → number_tied v p t fs ≡ Done None → number_tied v p t (fs ++ gs) ≡ number_tied v p t gs
  number_more p t [] gs e = refl
  number_more p t (f ∷ fs) gs e =
      let h = number_passes p t f.pos f.old (number_tied v p t fs) e in
      h.passes (number_tied v p t (fs ++ gs)) ∙ number_more p t fs gs h.later

  form_more : (p : Pos) (t : Nf) (fs gs : List Freed) → form_tied v p t fs ≡ None → form_tied v p t (fs ++ gs) ≡ form_tied v p t gs
  form_more p t [] gs e = refl
  form_more p t (f ∷ fs) gs e = by_test (is_alike v p t f) e (form_more p t fs gs)
    where
      by_test : (b : Bool) → cond b (Some (symbol_like f.pos t)) (form_tied v p t fs) ≡ None
          → (form_tied v p t fs ≡ None → form_tied v p t (fs ++ gs) ≡ form_tied v p t gs)
          → cond b (Some (symbol_like f.pos t)) (form_tied v p t (fs ++ gs)) ≡ form_tied v p t gs
      by_test true h next = absurd (cc h)
      by_test false h next = next h

  -- ---- a position is tied to one with its values

  number_self : (p : Pos) (t : Polynomial) (r : Option Nf) → number_tied v p t (record { pos = p; old = Num t } ∷ []) ≡ Done r
      → r ≡ Some (Num (polynomial_of_symbol p))
  number_self p t r e =
      let a = goes_done (normal_difference t t)
      (λ d. after (normal_difference (number_at v p) (number_at v p))
      (λ c. after (polynomial_substituted v d)
      (λ s. cond (same_polynomial c s) (after (normal_sum (polynomial_of_symbol p) d) (λ r. Done (Some (Num r)))) (Done None)))) r e in
      let b = goes_done (normal_difference (number_at v p) (number_at v p))
      (λ c. after (polynomial_substituted v a.middle)
      (λ s. cond (same_polynomial c s) (after (normal_sum (polynomial_of_symbol p) a.middle) (λ r. Done (Some (Num r)))) (Done None))) r a.next in
      let d : a.middle ≡ Zero = self_difference t a.middle a.first in
      let c : b.middle ≡ Zero = self_difference (number_at v p) b.middle b.first in
      let k : after (normal_sum (polynomial_of_symbol p) Zero) (λ r. Done (Some (Num r))) ≡ Done r =
      sym
      (ap₂
      (λ x y. after (polynomial_substituted v x)
      (λ s. cond {A = Computed (Option Nf)} (same_polynomial y s) (after (normal_sum (polynomial_of_symbol p) x) (λ r. Done (Some (Num r)))) (Done None))) d c)
      ∙ b.next in
      let m = goes_done (normal_sum (polynomial_of_symbol p) Zero) (λ r. Done (Some (Num r))) r k in
      sym (same_Done (Some (Num m.middle)) r m.next) ∙ ap (λ z. Some (Num z)) (symbol_more p m.middle m.first)

  form_tied_self : (p : Pos) (t : Nf) → form_tied v p t (record { pos = p; old = t } ∷ []) ≡ Some (symbol_like p t)
  form_tied_self p t = ap (λ b. cond {A = Option Nf} b (Some (symbol_like p t)) None)
      (and_from (same_form t t) (same_form (form_like v p t) (form_like v p t)) (own_form t) (own_form (form_like v p t)))

  -- where a position is not tied and is freed, one with its values is tied to it
  pub tied_to_freed : (p q : Pos) (t : Nf) (fs : List Freed) (r : Option Nf) → form_like v p t ≡ form_like v q t → tied_equation v p t fs ≡ Done None
      → tied_equation v q t (fs ++ record { pos = p; old = t } ∷ []) ≡ Done r → r ≡ Some (symbol_like p t)
  tied_to_freed p q (Num t) fs r e g h =
      number_self p t r
      (sym (number_more p t fs (record { pos = p; old = Num t } ∷ []) g) ∙ tied_alike p q (Num t) (fs ++ record { pos = p; old = Num t } ∷ []) e ∙ h)
  tied_to_freed p q (Arr a) fs r e g h =
      sym (same_Done (form_tied v q (Arr a) (fs ++ record { pos = p; old = Arr a } ∷ [])) r h)
      ∙ sym (form_alike p q (Arr a) e (fs ++ record { pos = p; old = Arr a } ∷ []))
      ∙ form_more p (Arr a) fs (record { pos = p; old = Arr a } ∷ []) (same_Done (form_tied v p (Arr a) fs) None g) ∙ form_tied_self p (Arr a)
  tied_to_freed p q (Seq l) fs r e g h =
      sym (same_Done (form_tied v q (Seq l) (fs ++ record { pos = p; old = Seq l } ∷ [])) r h)
      ∙ sym (form_alike p q (Seq l) e (fs ++ record { pos = p; old = Seq l } ∷ []))
      ∙ form_more p (Seq l) fs (record { pos = p; old = Seq l } ∷ []) (same_Done (form_tied v p (Seq l) fs) None g) ∙ form_tied_self p (Seq l)
