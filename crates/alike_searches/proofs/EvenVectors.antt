-- Even vectors have equal values in each couple, and even facts have even vectors.
use Rattle.std.proofs.Common.{◌≡◌, ℕ, ◌==◌, List, [], ◌∷◌, ap, sym, refl, ◌∙◌, subst, Option, Some, None, Bool, true, false, cond, inl, inr}
use Rattle.std.specs.Prelude.{◌&&◌, ◌⊎◌, slice_get}
use Rattle.std.specs.List.{list_all}
use Rattle.std.proofs.lemmas.Bool.{eqb-true, and_from, eqb-false}
use Rattle.fs_model.proofs.Booleans.{and_first, and_second}
use Rattle.fs_model.specs.SoundMachines.{IsSound}
use Rattle.fs_model.specs.declared.parts.Sort.{Sort}
use Rattle.fs_model.specs.declared.parts.Sort.TheVariants as sort
use Rattle.fs_model.specs.declared.parts.VarInfo.{VarInfo}
use Rattle.fs_model.specs.Machines.{Fsmd}
use Rattle.nf_trees.specs.NormalTerms.{Polynomial, ArrayTerm}
use Rattle.nf_terms.specs.Lists.{ListTerm}
use Rattle.nf_terms.specs.Forms.{sort_of_form}
use Rattle.nf_trees.specs.Mentions.{same_pos}
use Rattle.nf_terms.specs.declared.symbols.Sort.{Sort as TermSort}
use Rattle.fs_model.specs.declared.sides.Side.TheVariants.{Left, Right}
use Rattle.fs_model.specs.declared.sides.Pos.{Pos}
use Rattle.nf_terms.specs.declared.form.Nf.{Nf}
use Rattle.nf_terms.specs.declared.form.Nf.TheVariants.{Num, Arr, Seq}
use Rattle.nf_terms.specs.TermSorts.{same_term_sort}
use Rattle.nf_substitution.specs.Vectors.{form_at, number_or, array_or, list_or}
use Rattle.nf_substitution.specs.SamePlaces.{own_pos}
use Rattle.sym_paths.specs.ValuationStores.{at}
use Rattle.sym_facts.specs.Facts.{FactPosition, sort_of_terms, own_symbol, form_or_symbol, vector_of, has_its_sort}
use Rattle.search_tables.specs.Rebases.{value_at}
use Rattle.cert_bisimulation.specs.ExpressionSameness.{AreTwins}
use Rattle.alike_searches.specs.Evenness.{IsEven}
use Rattle.alike_searches.specs.EvenFacts.{places_of, AreEvenValues, AreEvenPositions}
use Rattle.alike_searches.specs.Couples.{AreCouples}
use Rattle.alike_searches.proofs.Coupled.{Among, one_name}

-- ---- equal values

module _ (a b : Fsmd) (v : List (Pos × Nf)) (even : IsEven a b v) where
  twin_values : (σ : Sort) (x y : ℕ) → AreTwins a b σ x y → value_at v σ (at Left x) ≡ value_at v σ (at Right y)
  twin_values sort.Scalar x y t = ap Num (even.numbers x y t)
  twin_values sort.Array x y t = ap Arr (even.arrays x y t)
  twin_values sort.Port x y t = ap Seq (even.lists x y t)

  pub even_values : (ps : List (Pos × Sort)) → AreCouples a b ps → AreEvenValues v ps
  even_values [] h = tt
  even_values (p ∷ []) h = absurd h
  even_values (p ∷ q ∷ ps) (c, cs) =
      (c.sorts, ap (value_at v p.1) c.left_at ∙ twin_values p.1 c.left c.right c.twins ∙ (λ k. value_at v (c.sorts k) (sym c.right_at k)), even_values ps cs)

-- ---- forms that a vector has

passed : (s : TermSort) (p : Pos) (e : Pos × Nf) (v : List (Pos × Nf)) → same_pos p e.0 ≡ false → form_at s p (e ∷ v) ≡ form_at s p v
passed s p e v h = ap (λ b. cond {A = Option Nf} (b && same_term_sort s (sort_of_form e.1)) (Some e.1) (form_at s p v)) h

first_has : (s : TermSort) (p : Pos) (e : Pos × Nf) (v : List (Pos × Nf)) → same_pos p e.0 ≡ true → same_term_sort s (sort_of_form e.1) ≡ true
    → form_at s p (e ∷ v) ≡ Some e.1
first_has s p e v h g = ap (λ b. cond {A = Option Nf} b (Some e.1) (form_at s p v)) (and_from (same_pos p e.0) (same_term_sort s (sort_of_form e.1)) h g)

symbol_sorted : (s : Sort) (p : Pos) → has_its_sort s (Some (own_symbol s p)) ≡ true
symbol_sorted sort.Scalar p = refl
symbol_sorted sort.Array p = refl
symbol_sorted sort.Port p = refl

form_sorted : (s : Sort) (p : Pos) (o : Option Nf) → has_its_sort s o ≡ true → has_its_sort s (Some (form_or_symbol s p o)) ≡ true
form_sorted s p None h = symbol_sorted s p
form_sorted s p (Some f) h = h

-- the form that a vector has for both of two twins
record HasForm (v : List (Pos × Nf)) (σ : Sort) (x y : ℕ) : Type 0 where
  form : Nf
  left : form_at (sort_of_terms σ) (at Left x) v ≡ Some form
  right : form_at (sort_of_terms σ) (at Right y) v ≡ Some form
  sorted : has_its_sort σ (Some form) ≡ true

module _ (a b : Fsmd) (sound_a : IsSound a) (sound_b : IsSound b) where
  -- twins of one left variable are one, and of one right variable
  one_right : (σ τ : Sort) (x y r : ℕ) → AreTwins a b σ x y → AreTwins a b τ x r → y ≡ r
  one_right σ τ x y r t u =
      let s : Some t.variable ≡ Some u.variable = sym t.left ∙ u.left in
      let e : t.variable ≡ u.variable = cc s in
      one_name b.variables y r t.variable u.variable sound_b.variables_differ t.right u.right (ap (λ (z : VarInfo). z.name) e)

  one_left : (σ τ : Sort) (x l y : ℕ) → AreTwins a b σ x y → AreTwins a b τ l y → x ≡ l
  one_left σ τ x l y t u =
      let s : Some t.variable ≡ Some u.variable = sym t.right ∙ u.right in
      let e : t.variable ≡ u.variable = cc s in
      one_name a.variables x l t.variable u.variable sound_a.variables_differ t.left u.left (ap (λ (z : VarInfo). z.name) e)

  one_sort : (σ τ : Sort) (x y r : ℕ) → AreTwins a b σ x y → AreTwins a b τ x r → τ ≡ σ
  one_sort σ τ x y r t u =
      let s : Some t.variable ≡ Some u.variable = sym t.left ∙ u.left in
      let e : t.variable ≡ u.variable = cc s in
      sym u.sorted ∙ sym (ap (λ (z : VarInfo). z.sort) e) ∙ t.sorted

  -- the couple of the twins stands first
  form_here : (p q : FactPosition) (ps : List FactPosition) (σ : Sort) (x y : ℕ) → AreTwins a b σ x y → p.pos ≡ at Left x → q.pos ≡ at Right y → p.sort ≡ σ
      → has_its_sort p.sort p.equation ≡ true → q.equation ≡ Some (form_or_symbol p.sort p.pos p.equation)
      → HasForm (vector_of (p ∷ q ∷ ps)) σ x y
  form_here p q ps σ x y t l r s h e =
      let f = form_or_symbol p.sort p.pos p.equation in
      let g : form_or_symbol q.sort q.pos q.equation ≡ form_or_symbol p.sort p.pos p.equation = ap (form_or_symbol q.sort q.pos) e in
      let sorted : has_its_sort σ (Some (form_or_symbol p.sort p.pos p.equation)) ≡ true =
      subst (λ z. has_its_sort z (Some (form_or_symbol p.sort p.pos p.equation)) ≡ true) s (form_sorted p.sort p.pos p.equation h) in
      record {
        form = f;
        left = first_has (sort_of_terms σ) (at Left x) (p.pos, f) (vector_of (q ∷ ps)) (ap (same_pos (at Left x)) l ∙ own_pos (at Left x)) sorted;
        right = passed (sort_of_terms σ) (at Right y) (p.pos, f) (vector_of (q ∷ ps)) (ap (same_pos (at Right y)) l)
            ∙ first_has (sort_of_terms σ) (at Right y) (q.pos, form_or_symbol q.sort q.pos q.equation) (vector_of ps)
            (ap (same_pos (at Right y)) r ∙ own_pos (at Right y)) (ap (λ z. has_its_sort σ (Some z)) g ∙ sorted) ∙ ap Some g;
        sorted = sorted;
      }

  has_form : (ps : List FactPosition) → AreCouples a b (places_of ps) → list_all (λ p. has_its_sort p.sort p.equation) ps ≡ true → AreEvenPositions ps
      → (σ : Sort) (x y : ℕ) → AreTwins a b σ x y → Among x (places_of ps) → HasForm (vector_of ps) σ x y
  has_form [] c h e σ x y t m = absurd m
  has_form (p ∷ []) c h e σ x y t m = absurd m
  has_form (p ∷ q ∷ ps) (c, cs) h (e, es) σ x y t m = by_test (x == c.left) refl m (λ w. has_form ps cs rest es σ x y t w)
    where
      here : has_its_sort p.sort p.equation ≡ true
      here = and_first (has_its_sort p.sort p.equation) (list_all (λ p. has_its_sort p.sort p.equation) (q ∷ ps)) h

      rest : list_all (λ p. has_its_sort p.sort p.equation) ps ≡ true
      rest = and_second (has_its_sort q.sort q.equation) (list_all (λ p. has_its_sort p.sort p.equation) ps)
          (and_second (has_its_sort p.sort p.equation) (list_all (λ p. has_its_sort p.sort p.equation) (q ∷ ps)) h)

      by_test : (d : Bool) → (x == c.left) ≡ d → (p.pos ≡ at Left x) ⊎ Among x (places_of ps) → (Among x (places_of ps) → HasForm (vector_of ps) σ x y)
          → HasForm (vector_of (p ∷ q ∷ ps)) σ x y
      by_test true n w later =
          let i : x ≡ c.left = eqb-true x c.left n in
          let u : AreTwins a b p.sort x c.right = subst (λ z. AreTwins a b p.sort z c.right) (sym i) c.twins in
          form_here p q ps σ x y t (c.left_at ∙ ap (at Left) (sym i)) (c.right_at ∙ ap (at Right) (sym (one_right σ p.sort x y c.right t u)))
          (one_sort σ p.sort x y c.right t u) here e
      by_test false n (inl w) later = let k : at Left x ≡ at Left c.left = sym w ∙ c.left_at in absurd (eqb-false x c.left n (ap (λ (z : Pos). z.var) k))
      by_test false n (inr w) later =
          let r = later w in
          let other : (y == c.right) ≡ false = by_right (y == c.right) refl in
          record {
            form = r.form;
            left = passed (sort_of_terms σ) (at Left x) (p.pos, form_or_symbol p.sort p.pos p.equation) (vector_of (q ∷ ps))
                (ap (same_pos (at Left x)) c.left_at ∙ n)
                ∙ passed (sort_of_terms σ) (at Left x) (q.pos, form_or_symbol q.sort q.pos q.equation) (vector_of ps)
                (ap (same_pos (at Left x)) c.right_at) ∙ r.left;
            right = passed (sort_of_terms σ) (at Right y) (p.pos, form_or_symbol p.sort p.pos p.equation) (vector_of (q ∷ ps))
                (ap (same_pos (at Right y)) c.left_at)
                ∙ passed (sort_of_terms σ) (at Right y) (q.pos, form_or_symbol q.sort q.pos q.equation) (vector_of ps)
                (ap (same_pos (at Right y)) c.right_at ∙ other) ∙ r.right;
            sorted = r.sorted;
          }
        where
          by_right : (d : Bool) → (y == c.right) ≡ d → d ≡ false
          by_right true z =
              absurd
              (let j : y ≡ c.right = eqb-true y c.right z in
              eqb-false x c.left n (one_left σ p.sort x c.left c.right (subst (λ w. AreTwins a b σ x w) j t) c.twins))
          by_right false z = refl

  number_of : (l r : Polynomial) (f : Nf) → has_its_sort sort.Scalar (Some f) ≡ true → number_or l (Some f) ≡ number_or r (Some f)
  number_of l r (Num t) h = refl
  number_of l r (Arr t) h = absurd (cc h)
  number_of l r (Seq t) h = absurd (cc h)

  array_of : (l r : ArrayTerm) (f : Nf) → has_its_sort sort.Array (Some f) ≡ true → array_or l (Some f) ≡ array_or r (Some f)
  array_of l r (Num t) h = absurd (cc h)
  array_of l r (Arr t) h = refl
  array_of l r (Seq t) h = absurd (cc h)

  list_of : (l r : ListTerm) (f : Nf) → has_its_sort sort.Port (Some f) ≡ true → list_or l (Some f) ≡ list_or r (Some f)
  list_of l r (Num t) h = absurd (cc h)
  list_of l r (Arr t) h = absurd (cc h)
  list_of l r (Seq t) h = refl

  pub even_vector : (ps : List FactPosition) → AreCouples a b (places_of ps)
      → ((x : ℕ) (v : VarInfo) → slice_get a.variables x ≡ Some v → Among x (places_of ps)) → list_all (λ p. has_its_sort p.sort p.equation) ps ≡ true
      → AreEvenPositions ps → IsEven a b (vector_of ps)
  even_vector ps c m h e =
      record {
        numbers = λ x y t. let f = has_form ps c h e sort.Scalar x y t (m x t.variable t.left) in
            ap (number_or _) f.left ∙ number_of _ _ f.form f.sorted ∙ sym (ap (number_or _) f.right);
        arrays = λ x y t. let f = has_form ps c h e sort.Array x y t (m x t.variable t.left) in
            ap (array_or _) f.left ∙ array_of _ _ f.form f.sorted ∙ sym (ap (array_or _) f.right);
        lists = λ x y t. let f = has_form ps c h e sort.Port x y t (m x t.variable t.left) in
            ap (list_or _) f.left ∙ list_of _ _ f.form f.sorted ∙ sym (ap (list_or _) f.right);
      }
