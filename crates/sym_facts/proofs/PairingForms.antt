-- What is substituted has the symbols of the vector's forms.
use Rattle.std.proofs.Common.{◌≡◌, Bool, true, false, cond, refl, ap, sym, ◌∙◌, List, [], ◌∷◌, Option, Some, None}
use Rattle.std.specs.List.{list_all}
use Rattle.std.proofs.lemmas.Bool.{and_from}
use Rattle.fs_model.proofs.Booleans.{and_first, and_second}
use Rattle.nf_trees.specs.NormalTerms.{polynomial_of_symbol, bare_array}
use Rattle.nf_terms.specs.Lists.{bare_list}
use Rattle.nf_terms.specs.Symbols.{symbols_of, symbols_of_array, symbols_of_list}
use Rattle.nf_terms.specs.Computed.{Done, after}
use Rattle.nf_terms.specs.declared.symbols.Sort.{Sort}
use Rattle.nf_terms.specs.declared.symbols.Sort.TheVariants as sort
use Rattle.fs_model.specs.declared.sides.Pos.{Pos}
use Rattle.nf_trees.specs.declared.tree.Base.TheVariants as base
use Rattle.nf_terms.specs.declared.tree.SeqBase.TheVariants as list
use Rattle.nf_terms.specs.declared.form.Nf.{Nf}
use Rattle.nf_terms.specs.declared.form.Nf.TheVariants.{Num, Arr, Seq}
use Rattle.nf_sums.specs.Operations.{number}
use Rattle.nf_sums.proofs.Values.{goes_done}
use Rattle.nf_symbols.specs.Vectors.{is_entry_at, form_at, number_or, array_or, list_or}
use Rattle.nf_symbols.specs.Substitution.{polynomial_substituted, array_substituted, list_substituted}
use Rattle.nf_symbols.specs.SymbolTests.{LeadsTo}
use Rattle.nf_symbols.proofs.Results.{number_done_within}
use Rattle.nf_symbols.proofs.Substituted.{polynomial_over, array_term_over, list_over}
use Rattle.nf_rel.specs.Literals.{NormalLiteral, True, False, Is, literal}
use Rattle.sym_facts.specs.Entailment.{form_substituted, relation_of, literal_substituted}
use Rattle.sym_facts.specs.Pairings.{form_within, literal_within}
use Rattle.sym_facts.proofs.DirectionSymbols.{literal_in}

-- ---- a vector whose forms pass leads to what passes

module _ (test : Pos × Sort → Bool) where
  abbrev FoundIn : Option Nf → Type 0
  FoundIn None = Unit {0}
  FoundIn (Some f) = form_within test f ≡ true

  found_in : (s : Sort) (p : Pos) (v : List (Pos × Nf)) → list_all (λ e. form_within test e.1) v ≡ true → FoundIn (form_at s p v)
  found_in s p [] h = tt
  found_in s p (e ∷ v) h = by_test (is_entry_at s p e) (found_in s p v (and_second (form_within test e.1) (list_all (λ x. form_within test x.1) v) h))
    where
      by_test : (b : Bool) → FoundIn (form_at s p v) → FoundIn (cond b (Some e.1) (form_at s p v))
      by_test true i = and_first (form_within test e.1) (list_all (λ x. form_within test x.1) v) h
      by_test false i = i

  own_in : (p : Pos) (s : Sort) → test (p, s) ≡ true → list_all test ((p, s) ∷ []) ≡ true
  own_in p s h = and_from (test (p, s)) true h refl

  number_in : (p : Pos) (o : Option Nf) → test (p, sort.Scalar) ≡ true → FoundIn o → list_all test (symbols_of (number_or (polynomial_of_symbol p) o)) ≡ true
  number_in p None h i = own_in p sort.Scalar h
  number_in p (Some (Num q)) h i = i
  number_in p (Some (Arr a)) h i = own_in p sort.Scalar h
  number_in p (Some (Seq l)) h i = own_in p sort.Scalar h

  array_in : (p : Pos) (o : Option Nf) → test (p, sort.Array) ≡ true → FoundIn o
      → list_all test (symbols_of_array (array_or (bare_array (base.Sym p)) o)) ≡ true
  array_in p None h i = own_in p sort.Array h
  array_in p (Some (Num q)) h i = own_in p sort.Array h
  array_in p (Some (Arr a)) h i = i
  array_in p (Some (Seq l)) h i = own_in p sort.Array h

  list_in : (p : Pos) (o : Option Nf) → test (p, sort.List) ≡ true → FoundIn o → list_all test (symbols_of_list (list_or (bare_list (list.Sym p)) o)) ≡ true
  list_in p None h i = own_in p sort.List h
  list_in p (Some (Num q)) h i = own_in p sort.List h
  list_in p (Some (Arr a)) h i = own_in p sort.List h
  list_in p (Some (Seq l)) h i = i

  pub forms_lead : (v : List (Pos × Nf)) → list_all (λ e. form_within test e.1) v ≡ true → LeadsTo test test v
  forms_lead v h = record {
    scalars = λ p g. number_in p (form_at sort.Scalar p v) g (found_in sort.Scalar p v h);
    arrays = λ p g. array_in p (form_at sort.Array p v) g (found_in sort.Array p v h);
    lists = λ p g. list_in p (form_at sort.List p v) g (found_in sort.List p v h);
  }

-- ---- forms and literals

module _ (from to : Pos × Sort → Bool) (v : List (Pos × Nf)) (leads : LeadsTo from to v) where
  pub form_over : (f g : Nf) → form_within from f ≡ true → form_substituted v f ≡ Done g → form_within to g ≡ true
  form_over (Num p) g h e =
      let s = goes_done (polynomial_substituted v p) (λ q. Done (Num q)) g e in
      let k : Num s.middle ≡ g = cc s.next in
      ap (form_within to) (sym k) ∙ polynomial_over from to v leads p s.middle h s.first
  form_over (Arr a) g h e =
      let s = goes_done (array_substituted v a) (λ b. Done (Arr b)) g e in
      let k : Arr s.middle ≡ g = cc s.next in
      ap (form_within to) (sym k) ∙ array_term_over from to v leads a s.middle h s.first
  form_over (Seq l) g h e =
      let s = goes_done (list_substituted v l) (λ m. Done (Seq m)) g e in
      let k : Seq s.middle ≡ g = cc s.next in
      ap (form_within to) (sym k) ∙ list_over from to v leads l s.middle h s.first

  pub literal_over : (l m : NormalLiteral) → literal_within from l ≡ true → literal_substituted v l ≡ Done m → literal_within to m ≡ true
  literal_over True m h e = let k : True ≡ m = cc e in ap (literal_within to) (sym k)
  literal_over False m h e = let k : False ≡ m = cc e in ap (literal_within to) (sym k)
  literal_over (Is c j n) m h e =
      let s = goes_done (polynomial_substituted v c) (λ x. after (number n) (λ y. literal (relation_of j) x y)) m e in
      let t = goes_done (number n) (λ y. literal (relation_of j) s.middle y) m s.next in
      literal_in to (relation_of j) s.middle t.middle m (polynomial_over from to v leads c s.middle h s.first) (number_done_within to n t.middle t.first) t.next
