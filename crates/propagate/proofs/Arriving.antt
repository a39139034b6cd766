-- What of a fact a post entails is true of what its vector means.
use Rattle.std.proofs.Common.{◌≡◌, Bool, true, ap, ap₂, sym, ◌∙◌, List, Option, Some, None}
use Rattle.fs_model.proofs.Orderings.{is_eq-true}
use Rattle.fs_model.specs.Meaning.{relates}
use Rattle.nf_trees.specs.Order.{cmp_polynomial, cmp_array}
use Rattle.nf_terms.specs.Lists.{cmp_list}
use Rattle.nf_trees.specs.TermKeys.{polynomial_ties, array_ties}
use Rattle.nf_terms.specs.ListComparison.{list_ties}
use Rattle.nf_terms.specs.Forms.{same_form}
use Rattle.nf_terms.specs.TermMeaning.{Valuation, value_of, contents, items_in}
use Rattle.nf_terms.specs.Computed.{Done, after}
use Rattle.fs_model.specs.declared.sides.Pos.{Pos}
use Rattle.nf_terms.specs.declared.form.Nf.{Nf}
use Rattle.nf_terms.specs.declared.form.Nf.TheVariants.{Num, Arr, Seq}
use Rattle.nf_sums.specs.Operations.{number}
use Rattle.nf_sums.proofs.Values.{goes_done}
use Rattle.nf_substitution.specs.Vectors.{number_at, array_form, list_at, vector_meaning}
use Rattle.nf_substitution.specs.Substitution.{polynomial_substituted, array_substituted, list_substituted}
use Rattle.nf_substitution.proofs.Values.{substituted_value, array_value, list_value, number_is}
use Rattle.nf_rel.specs.Literals.{NormalLiteral, True, False, Is, is_true_in, all_true_in, literal, is_implied}
use Rattle.nf_rel.proofs.Values.{literal_means}
use Rattle.nf_rel.proofs.Truth.{implied_true}
use Rattle.sym_paths.specs.Execution.{Post}
use Rattle.sym_facts.specs.Facts.{EquationHolds}
use Rattle.sym_facts.specs.Entailment.{form_substituted, form_like, equation_met, relation_of, literal_substituted, literal_met}
use Rattle.sym_facts.proofs.Entailing.{related}

pub forms_equal : (f g : Nf) → same_form f g ≡ true → f ≡ g
forms_equal (Num p) (Num q) e = ap Num (polynomial_ties p q (is_eq-true (cmp_polynomial p q) e))
forms_equal (Num p) (Arr b) e = absurd (cc e)
forms_equal (Num p) (Seq m) e = absurd (cc e)
forms_equal (Arr a) (Num q) e = absurd (cc e)
forms_equal (Arr a) (Arr b) e = ap Arr (array_ties a b (is_eq-true (cmp_array a b) e))
forms_equal (Arr a) (Seq m) e = absurd (cc e)
forms_equal (Seq l) (Num q) e = absurd (cc e)
forms_equal (Seq l) (Arr b) e = absurd (cc e)
forms_equal (Seq l) (Seq m) e = ap Seq (list_ties l m (is_eq-true (cmp_list l m) e))

module _ (w : Valuation) (v : List (Pos × Nf)) where
  -- a position that has what its equation's form gives, substituted
  pub arriving_holds : (p : Pos) (f g : Nf) → form_substituted v f ≡ Done g → form_like v p f ≡ g → EquationHolds (vector_meaning v w) p (Some f)
  arriving_holds p (Num q) g e h =
      let s = goes_done (polynomial_substituted v q) (λ r. Done (Num r)) g e in
      let i : Num s.middle ≡ g = cc s.next in
      let k : Num (number_at v p) ≡ Num s.middle = h ∙ sym i in
      let j : number_at v p ≡ s.middle = cc k in
      ap (value_of w) j ∙ substituted_value w v q s.middle s.first
  arriving_holds p (Arr a) g e h =
      let s = goes_done (array_substituted v a) (λ b. Done (Arr b)) g e in
      let i : Arr s.middle ≡ g = cc s.next in
      let k : Arr (array_form v p) ≡ Arr s.middle = h ∙ sym i in
      let j : array_form v p ≡ s.middle = cc k in
      ap (contents w) j ∙ array_value w v a s.middle s.first
  arriving_holds p (Seq l) g e h =
      let s = goes_done (list_substituted v l) (λ m. Done (Seq m)) g e in
      let i : Seq s.middle ≡ g = cc s.next in
      let k : Seq (list_at v p) ≡ Seq s.middle = h ∙ sym i in
      let j : list_at v p ≡ s.middle = cc k in
      ap (items_in w) j ∙ list_value w v l s.middle s.first

  pub equation_true : (p : Pos) (o : Option Nf) (b : Bool) → equation_met v p o ≡ Done b → b ≡ true → EquationHolds (vector_meaning v w) p o
  equation_true p None b e h = tt
  equation_true p (Some f) b e h =
      let s = goes_done (form_substituted v f) (λ g. Done (same_form (form_like v p f) g)) b e in
      let k : same_form (form_like v p f) s.middle ≡ b = cc s.next in
      arriving_holds p f s.middle s.first (forms_equal (form_like v p f) s.middle (k ∙ h))

  pub literal_truth : (l m : NormalLiteral) → literal_substituted v l ≡ Done m → is_true_in w m ≡ is_true_in (vector_meaning v w) l
  literal_truth True m e = let k : True ≡ m = cc e in sym (ap (is_true_in w) k)
  literal_truth False m e = let k : False ≡ m = cc e in sym (ap (is_true_in w) k)
  literal_truth (Is d k b) m e =
      let s = goes_done (polynomial_substituted v d) (λ x. after (number b) (λ c. literal (relation_of k) x c)) m e in
      let t = goes_done (number b) (λ c. literal (relation_of k) s.middle c) m s.next in
      literal_means (relation_of k) s.middle t.middle m w t.next
      ∙ ap₂ (relates (relation_of k)) (substituted_value w v d s.middle s.first) (number_is w b t.middle t.first)
      ∙ related k (value_of (vector_meaning v w) d) b

pub one_literal_true : (w : Valuation) (post : Post) (l : NormalLiteral) (b : Bool) → all_true_in w post.conditions ≡ true → literal_met post l ≡ Done b
    → b ≡ true → is_true_in (vector_meaning post.vector w) l ≡ true
one_literal_true w post l b c e h =
    let u = goes_done (literal_substituted post.vector l) (λ m. Done (is_implied post.conditions m)) b e in
    let i : is_implied post.conditions u.middle ≡ true = (let z : is_implied post.conditions u.middle ≡ b = cc u.next in z ∙ h) in
    sym (literal_truth w post.vector l u.middle u.first) ∙ implied_true w post.conditions u.middle i c
