-- Where the equations of a fact hold, its vector means the pair itself.
use Rattle.std.proofs.Common.{◌≡◌, ℤ, cond, Bool, true, false, arith, refl, ap, sym, ◌∙◌, List, [], ◌∷◌, Option, Some, None}
use Rattle.std.specs.Prelude.{◌&&◌}
use Rattle.std.proofs.lemmas.Int.{ints}
use Rattle.std.proofs.lemmas.List.{append-nil}
use Rattle.std.proofs.lemmas.Bool.{and_right}
use Rattle.fs_model.specs.declared.parts.Sort.{Sort}
use Rattle.fs_model.specs.declared.parts.Sort.TheVariants as sort
use Rattle.nf_trees.specs.NormalTerms.{polynomial_of_symbol, bare_array}
use Rattle.nf_terms.specs.Lists.{bare_list}
use Rattle.nf_terms.specs.Forms.{sort_of_form}
use Rattle.nf_trees.specs.Mentions.{same_pos}
use Rattle.nf_terms.specs.TermMeaning.{Valuation, value_of, contents, items_in}
use Rattle.nf_terms.specs.declared.symbols.Sort.{Sort as TermSort}
use Rattle.nf_terms.specs.declared.symbols.Sort.TheVariants as term
use Rattle.fs_model.specs.declared.sides.Pos.{Pos}
use Rattle.nf_trees.specs.declared.tree.Base.TheVariants as base
use Rattle.nf_terms.specs.declared.tree.SeqBase.TheVariants as list
use Rattle.nf_terms.specs.declared.form.Nf.{Nf}
use Rattle.nf_terms.specs.declared.form.Nf.TheVariants.{Num, Arr, Seq}
use Rattle.nf_terms.specs.TermSorts.{same_term_sort}
use Rattle.nf_symbols.specs.Vectors.{form_at, number_or, array_or, list_or, number_at, array_form, list_at, vector_meaning}
use Rattle.nf_symbols.specs.SamePlaces.{pos_equal}
use Rattle.sym_facts.specs.Facts.{FactPosition, own_symbol, form_or_symbol, vector_of, EquationHolds, EquationsHold}

pub valuation_ext : (v w : Valuation) → ((p : Pos) → v.scalar p ≡ w.scalar p) → ((p : Pos) → v.array p ≡ w.array p) → ((p : Pos) → v.list p ≡ w.list p) → v ≡ w
valuation_ext v w f g h = λ k. record { scalar = λ p. f p k; array = λ p. g p k; list = λ p. h p k }

pub symbol_value : (w : Valuation) (p : Pos) → value_of w (polynomial_of_symbol p) ≡ w.scalar p
symbol_value w p = omega (arith, ints)

-- an entry of another sort is passed over
other_sort : (s : TermSort) (q p : Pos) (f : Nf) (v : List (Pos × Nf)) → same_term_sort s (sort_of_form f) ≡ false → form_at s p ((q, f) ∷ v) ≡ form_at s p v
other_sort s q p f v e = ap (λ b. cond {A = Option Nf} b (Some f) (form_at s p v)) (and_right (same_pos p q) (same_term_sort s (sort_of_form f)) e)

module _ (w : Valuation) where
  abbrev number_in : Pos → Option Nf → ℤ
  number_in p o = value_of w (number_or (polynomial_of_symbol p) o)

  abbrev array_in : Pos → Option Nf → ℤ → ℤ
  array_in p o = contents w (array_or (bare_array (base.Sym p)) o)

  abbrev list_in : Pos → Option Nf → List ℤ
  list_in p o = items_in w (list_or (bare_list (list.Sym p)) o)

  own_holds : (s : Sort) (q : Pos) → EquationHolds w q (Some (own_symbol s q))
  own_holds sort.Scalar q = sym (symbol_value w q)
  own_holds sort.Array q = refl
  own_holds sort.Port q = sym (append-nil (w.list q))

  form_holds : (s : Sort) (q : Pos) (o : Option Nf) → EquationHolds w q o → EquationHolds w q (Some (form_or_symbol s q o))
  form_holds s q None h = own_holds s q
  form_holds s q (Some f) h = h

  number_first : (q p : Pos) (f : Nf) (v : List (Pos × Nf)) → EquationHolds w q (Some f) → number_in p (form_at term.Scalar p v) ≡ w.scalar p
      → number_in p (form_at term.Scalar p ((q, f) ∷ v)) ≡ w.scalar p
  number_first q p (Num n) v h k = by_test (same_pos p q) refl
    where
      by_test : (b : Bool) → same_pos p q ≡ b → number_in p (cond (b && true) (Some (Num n)) (form_at term.Scalar p v)) ≡ w.scalar p
      by_test true e = sym h ∙ ap w.scalar (sym (pos_equal p q e))
      by_test false e = k
  number_first q p (Arr a) v h k = ap (number_in p) (other_sort term.Scalar q p (Arr a) v refl) ∙ k
  number_first q p (Seq l) v h k = ap (number_in p) (other_sort term.Scalar q p (Seq l) v refl) ∙ k

  array_first : (q p : Pos) (f : Nf) (v : List (Pos × Nf)) → EquationHolds w q (Some f) → array_in p (form_at term.Array p v) ≡ w.array p
      → array_in p (form_at term.Array p ((q, f) ∷ v)) ≡ w.array p
  array_first q p (Num n) v h k = ap (array_in p) (other_sort term.Array q p (Num n) v refl) ∙ k
  array_first q p (Arr a) v h k = by_test (same_pos p q) refl
    where
      by_test : (b : Bool) → same_pos p q ≡ b → array_in p (cond (b && true) (Some (Arr a)) (form_at term.Array p v)) ≡ w.array p
      by_test true e = sym h ∙ ap w.array (sym (pos_equal p q e))
      by_test false e = k
  array_first q p (Seq l) v h k = ap (array_in p) (other_sort term.Array q p (Seq l) v refl) ∙ k

  list_first : (q p : Pos) (f : Nf) (v : List (Pos × Nf)) → EquationHolds w q (Some f) → list_in p (form_at term.List p v) ≡ w.list p
      → list_in p (form_at term.List p ((q, f) ∷ v)) ≡ w.list p
  list_first q p (Num n) v h k = ap (list_in p) (other_sort term.List q p (Num n) v refl) ∙ k
  list_first q p (Arr a) v h k = ap (list_in p) (other_sort term.List q p (Arr a) v refl) ∙ k
  list_first q p (Seq l) v h k = by_test (same_pos p q) refl
    where
      by_test : (b : Bool) → same_pos p q ≡ b → list_in p (cond (b && true) (Some (Seq l)) (form_at term.List p v)) ≡ w.list p
      by_test true e = sym h ∙ ap w.list (sym (pos_equal p q e))
      by_test false e = k

  numbers_own : (ps : List FactPosition) → EquationsHold w ps → (p : Pos) → value_of w (number_at (vector_of ps) p) ≡ w.scalar p
  numbers_own [] h p = symbol_value w p
  numbers_own (q ∷ ps) h p = number_first q.pos p (form_or_symbol q.sort q.pos q.equation) (vector_of ps) (form_holds q.sort q.pos q.equation h.0)
      (numbers_own ps h.1 p)

  arrays_own : (ps : List FactPosition) → EquationsHold w ps → (p : Pos) → contents w (array_form (vector_of ps) p) ≡ w.array p
  arrays_own [] h p = refl
  arrays_own (q ∷ ps) h p = array_first q.pos p (form_or_symbol q.sort q.pos q.equation) (vector_of ps) (form_holds q.sort q.pos q.equation h.0)
      (arrays_own ps h.1 p)

  lists_own : (ps : List FactPosition) → EquationsHold w ps → (p : Pos) → items_in w (list_at (vector_of ps) p) ≡ w.list p
  lists_own [] h p = append-nil (w.list p)
  lists_own (q ∷ ps) h p = list_first q.pos p (form_or_symbol q.sort q.pos q.equation) (vector_of ps) (form_holds q.sort q.pos q.equation h.0)
      (lists_own ps h.1 p)

  pub vector_means : (ps : List FactPosition) → EquationsHold w ps → vector_meaning (vector_of ps) w ≡ w
  vector_means ps h = valuation_ext (vector_meaning (vector_of ps) w) w (numbers_own ps h) (arrays_own ps h) (lists_own ps h)
