-- A fact that a post entails holds of what its vector means.
use Rattle.std.proofs.Common.{◌≡◌, ℕ, ◌+◌, ℤ, Bool, true, false, refl, ap, ap₂, sym, subst, ◌∙◌, List, [], ◌∷◌, Option, Some, None}
use Rattle.std.proofs.lemmas.Bool.{and_from}
use Rattle.fs_model.proofs.Orderings.{is_eq-true}
use Rattle.fs_model.specs.Meaning.{relates}
use Rattle.nf_trees.specs.NormalTerms.{Polynomial, ArrayTerm}
use Rattle.nf_terms.specs.Lists.{ListTerm, cmp_list}
use Rattle.nf_terms.specs.ListComparison.{list_ties}
use Rattle.nf_trees.specs.Order.{cmp_polynomial, cmp_array}
use Rattle.nf_trees.specs.TermKeys.{polynomial_ties, array_ties}
use Rattle.nf_terms.specs.Forms.{same_form}
use Rattle.nf_terms.specs.TermMeaning.{Valuation, value_of, contents, items_in}
use Rattle.nf_terms.specs.Computed.{Done, after}
use Rattle.fs_model.specs.declared.sides.Pos.{Pos}
use Rattle.nf_terms.specs.declared.form.Nf.{Nf}
use Rattle.nf_terms.specs.declared.form.Nf.TheVariants.{Num, Arr, Seq}
use Rattle.nf_sums.specs.Operations.{number}
use Rattle.nf_sums.proofs.Values.{goes_done}
use Rattle.nf_symbols.specs.Vectors.{number_at, array_form, list_at, vector_meaning}
use Rattle.nf_symbols.specs.Substitution.{polynomial_substituted, array_substituted, list_substituted}
use Rattle.nf_symbols.proofs.Values.{substituted_value, array_value, list_value, number_is}
use Rattle.nf_rel.specs.declared.kind.Kind.{Kind}
use Rattle.nf_rel.specs.declared.kind.Kind.TheVariants.{Ge, Le, Eq, Ne}
use Rattle.nf_rel.specs.Literals.{NormalLiteral, True, False, Is, meets, is_true_in, all_true_in, literal, is_implied}
use Rattle.nf_rel.proofs.Values.{literal_means}
use Rattle.nf_rel.proofs.Truth.{implied_true}
use Rattle.sym_paths.specs.Sequences.{each}
use Rattle.sym_paths.specs.Execution.{Post}
use Rattle.sym_facts.specs.Facts.{FactPosition, Fact, EquationHolds, EquationsHold, HoldsIn}
use Rattle.sym_facts.specs.Entailment.{form_substituted, form_like, equation_met, relation_of, literal_substituted, literal_met, false_places, Missing, entails}

-- forms that are the same are equal
pub numbers_equal : (p q : Polynomial) → same_form (Num p) (Num q) ≡ true → p ≡ q
numbers_equal p q e = polynomial_ties p q (is_eq-true (cmp_polynomial p q) e)

pub arrays_equal : (a b : ArrayTerm) → same_form (Arr a) (Arr b) ≡ true → a ≡ b
arrays_equal a b e = array_ties a b (is_eq-true (cmp_array a b) e)

pub lists_equal : (l m : ListTerm) → same_form (Seq l) (Seq m) ≡ true → l ≡ m
lists_equal l m e = list_ties l m (is_eq-true (cmp_list l m) e)

abbrev AllTrue : List Bool → Type 0
AllTrue [] = Unit {0}
AllTrue (b ∷ bs) = (b ≡ true) × AllTrue bs

none_false : (k : ℕ) (bs : List Bool) → false_places k bs ≡ [] → AllTrue bs
none_false k [] e = tt
none_false k (true ∷ bs) e = (refl, none_false (k + 1) bs e)
none_false k (false ∷ bs) e = absurd (cc e)

pub related : (k : Kind) (v b : ℤ) → relates (relation_of k) v b ≡ meets k v b
related Ge v b = refl
related Le v b = refl
related Eq v b = refl
related Ne v b = refl

-- a form that is met is the substituted form
record Met (v : List (Pos × Nf)) (p : Pos) (f : Nf) : Type 0 where
  form : Nf
  substituted_to : form_substituted v f ≡ Done form
  same : same_form (form_like v p f) form ≡ true

met : (v : List (Pos × Nf)) (p : Pos) (f : Nf) (b : Bool) → equation_met v p (Some f) ≡ Done b → b ≡ true → Met v p f
met v p f b e h =
    let s = goes_done (form_substituted v f) (λ g. Done (same_form (form_like v p f) g)) b e in
    let z : same_form (form_like v p f) s.middle ≡ b = cc s.next in
    record { form = s.middle; substituted_to = s.first; same = z ∙ h }

module _ (w : Valuation) (post : Post) where
  equation_true : (p : Pos) (o : Option Nf) (b : Bool) → equation_met post.vector p o ≡ Done b → b ≡ true → EquationHolds (vector_meaning post.vector w) p o
  equation_true p None b e h = tt
  equation_true p (Some (Num q)) b e h =
      let m = met post.vector p (Num q) b e h in
      let t = goes_done (polynomial_substituted post.vector q) (λ r. Done (Num r)) m.form m.substituted_to in
      let k : Num t.middle ≡ m.form = cc t.next in
      ap (value_of w) (numbers_equal (number_at post.vector p) t.middle (ap (same_form (Num (number_at post.vector p))) k ∙ m.same))
      ∙ substituted_value w post.vector q t.middle t.first
  equation_true p (Some (Arr a)) b e h =
      let m = met post.vector p (Arr a) b e h in
      let t = goes_done (array_substituted post.vector a) (λ r. Done (Arr r)) m.form m.substituted_to in
      let k : Arr t.middle ≡ m.form = cc t.next in
      ap (contents w) (arrays_equal (array_form post.vector p) t.middle (ap (same_form (Arr (array_form post.vector p))) k ∙ m.same))
      ∙ array_value w post.vector a t.middle t.first
  equation_true p (Some (Seq l)) b e h =
      let m = met post.vector p (Seq l) b e h in
      let t = goes_done (list_substituted post.vector l) (λ r. Done (Seq r)) m.form m.substituted_to in
      let k : Seq t.middle ≡ m.form = cc t.next in
      ap (items_in w) (lists_equal (list_at post.vector p) t.middle (ap (same_form (Seq (list_at post.vector p))) k ∙ m.same))
      ∙ list_value w post.vector l t.middle t.first

  equations_true : (ps : List FactPosition) (bs : List Bool) → each (λ p. equation_met post.vector p.pos p.equation) ps ≡ Done bs → AllTrue bs
      → EquationsHold (vector_meaning post.vector w) ps
  equations_true [] bs e h = tt
  equations_true (p ∷ ps) bs e h =
      let s = goes_done (equation_met post.vector p.pos p.equation)
      (λ y. after (each (λ q. equation_met post.vector q.pos q.equation) ps) (λ ys. Done (y ∷ ys))) bs e in
      let t = goes_done (each (λ q. equation_met post.vector q.pos q.equation) ps) (λ ys. Done (s.middle ∷ ys)) bs s.next in
      let k : bs ≡ s.middle ∷ t.middle = cc t.next in
      let all : AllTrue (s.middle ∷ t.middle) = subst AllTrue k h in
      (equation_true p.pos p.equation s.middle s.first all.0, equations_true ps t.middle t.first all.1)

  substituted_true : (l m : NormalLiteral) → literal_substituted post.vector l ≡ Done m → is_true_in w m ≡ is_true_in (vector_meaning post.vector w) l
  substituted_true True m e = let k : True ≡ m = cc e in sym (ap (is_true_in w) k)
  substituted_true False m e = let k : False ≡ m = cc e in sym (ap (is_true_in w) k)
  substituted_true (Is d k b) m e =
      let s = goes_done (polynomial_substituted post.vector d) (λ x. after (number b) (λ c. literal (relation_of k) x c)) m e in
      let t = goes_done (number b) (λ c. literal (relation_of k) s.middle c) m s.next in
      literal_means (relation_of k) s.middle t.middle m w t.next
      ∙ ap₂ (relates (relation_of k)) (substituted_value w post.vector d s.middle s.first) (number_is w b t.middle t.first)
      ∙ related k (value_of (vector_meaning post.vector w) d) b

  literal_true : (l : NormalLiteral) (b : Bool) → all_true_in w post.conditions ≡ true → literal_met post l ≡ Done b → b ≡ true
      → is_true_in (vector_meaning post.vector w) l ≡ true
  literal_true l b c e h =
      let u = goes_done (literal_substituted post.vector l) (λ m. Done (is_implied post.conditions m)) b e in
      let i : is_implied post.conditions u.middle ≡ true = (let z : is_implied post.conditions u.middle ≡ b = cc u.next in z ∙ h) in
      sym (substituted_true l u.middle u.first) ∙ implied_true w post.conditions u.middle i c

  literals_true : (ls : List NormalLiteral) (bs : List Bool) → all_true_in w post.conditions ≡ true → each (λ l. literal_met post l) ls ≡ Done bs → AllTrue bs
      → all_true_in (vector_meaning post.vector w) ls ≡ true
  literals_true [] bs c e h = refl
  literals_true (l ∷ ls) bs c e h =
      let s = goes_done (literal_met post l) (λ y. after (each (λ x. literal_met post x) ls) (λ ys. Done (y ∷ ys))) bs e in
      let t = goes_done (each (λ x. literal_met post x) ls) (λ ys. Done (s.middle ∷ ys)) bs s.next in
      let k : bs ≡ s.middle ∷ t.middle = cc t.next in
      let all : AllTrue (s.middle ∷ t.middle) = subst AllTrue k h in
      and_from _ _ (literal_true l s.middle c s.first all.0) (literals_true ls t.middle c t.first all.1)

  pub entailed : (f : Fact) (e : Missing) → entails post f ≡ Done e → e.equations ≡ [] → e.literals ≡ [] → all_true_in w post.conditions ≡ true
      → HoldsIn (vector_meaning post.vector w) f
  entailed f e g none_e none_l c =
      let s = goes_done (each (λ p. equation_met post.vector p.pos p.equation) f.positions)
      (λ es. after (each (λ l. literal_met post l) f.literals) (λ ls. Done (record { equations = false_places 0 es; literals = false_places 0 ls }))) e g in
      let t = goes_done (each (λ l. literal_met post l) f.literals)
      (λ ls. Done (record { equations = false_places 0 s.middle; literals = false_places 0 ls })) e s.next in
      let k : record { equations = false_places 0 s.middle; literals = false_places 0 t.middle } ≡ e = cc t.next in
      let x : false_places 0 s.middle ≡ [] = ap (λ (z : Missing). z.equations) k ∙ none_e in
      let y : false_places 0 t.middle ≡ [] = ap (λ (z : Missing). z.literals) k ∙ none_l in
      record {
        equations = equations_true f.positions s.middle s.first (none_false 0 s.middle x);
        literals = literals_true f.literals t.middle c t.first (none_false 0 t.middle y);
      }
