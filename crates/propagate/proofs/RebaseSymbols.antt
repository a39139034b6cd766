-- A rebased fact has no symbols but its free positions.
use Rattle.std.proofs.Common.{◌≡◌, Bool, true, false, cond, refl, sym, subst, ap, ◌∙◌, List, [], ◌∷◌, Option, Some, None}
use Rattle.std.specs.Prelude.{is_some, filter}
use Rattle.std.specs.List.{list_all}
use Rattle.std.proofs.lemmas.Bool.{and_from}
use Rattle.fs_model.specs.declared.parts.Sort.{Sort}
use Rattle.fs_model.specs.declared.parts.Sort.TheVariants as sort
use Rattle.fs_pair.specs.declared.positions.Position.{Position}
use Rattle.nf_trees.specs.NormalTerms.{Polynomial, polynomial_of_symbol, bare_array}
use Rattle.nf_terms.specs.Lists.{bare_list}
use Rattle.nf_terms.specs.Forms.{same_form}
use Rattle.nf_terms.specs.Symbols.{symbols_of, symbols_of_array, symbols_of_list}
use Rattle.nf_terms.specs.Computed.{Computed, Done, after}
use Rattle.nf_terms.specs.declared.symbols.Sort.{Sort as TermSort}
use Rattle.nf_terms.specs.declared.symbols.Sort.TheVariants as term
use Rattle.fs_model.specs.declared.sides.Pos.{Pos}
use Rattle.nf_trees.specs.declared.tree.Base.TheVariants as base
use Rattle.nf_terms.specs.declared.tree.SeqBase.TheVariants as list
use Rattle.nf_terms.specs.declared.form.Nf.{Nf}
use Rattle.nf_terms.specs.declared.form.Nf.TheVariants.{Num, Arr, Seq}
use Rattle.nf_sums.specs.Operations.{normal_sum, normal_difference, number}
use Rattle.nf_sums.proofs.Values.{goes_done}
use Rattle.nf_substitution.specs.Vectors.{form_at, number_or, array_or, list_or, number_at}
use Rattle.nf_substitution.specs.Substitution.{polynomial_substituted, array_substituted, list_substituted}
use Rattle.sym_facts.specs.SymbolTests.{LeadsTo}
use Rattle.sym_facts.proofs.Results.{added_within, subtracted_within, number_done_within}
use Rattle.sym_facts.proofs.Substituted.{polynomial_over, array_term_over, list_over}
use Rattle.nf_rel.specs.Literals.{NormalLiteral, True, False, Is, literal}
use Rattle.sym_paths.specs.Sequences.{each}
use Rattle.sym_paths.specs.Execution.{Post}
use Rattle.sym_facts.specs.Facts.{Fact, sort_of_terms, own_symbol, most_literals}
use Rattle.sym_facts.specs.Entailment.{form_substituted, relation_of, literal_substituted}
use Rattle.sym_facts.specs.Pairings.{form_within, literal_within}
use Rattle.sym_facts.specs.FactParts.{equation_within}
use Rattle.propagate.specs.Rebases.{value_at, is_held, number_held, form_held, literal_held, bare_symbol, first_pass, Split, split_off_symbol, less_rest}
use Rattle.propagate.specs.Rebases.{Solution}
use Rattle.propagate.specs.Rebases.{solution, second_pass_solution, number_tied_to, number_tied, form_tied, rebase_tied_equation, equation_found, with_needed}
use Rattle.propagate.specs.Rebases.{conditions_over, rebase}
use Rattle.propagate.proofs.LiteralSymbols.{literal_form_within}
use Rattle.propagate.proofs.Passes.{AllForms, none_all, sort_found, AllPass, FreePass, AllEquations, first_all, second_all, third_all}
use Rattle.propagate_equations.proofs.Needed.{taken_pass}
use Rattle.propagate.proofs.Rebased.{needed_pass, rebasing}

module _ (test : Pos × TermSort → Bool) where
  -- a position passes where its symbol does
  abbrev pub Passes : Sort → Pos → Type 0
  Passes s p = test (p, sort_of_terms s) ≡ true

  abbrev Over : Pos → Nf → Type 0
  Over x f = form_within test f ≡ true

  abbrev pub Inside : Pos → Option Nf → Type 0
  Inside p o = equation_within test o ≡ true

  pub own_within : (s : Sort) (p : Pos) → Passes s p → form_within test (own_symbol s p) ≡ true
  own_within sort.Scalar p h = and_from (test (p, term.Scalar)) true h refl
  own_within sort.Array p h = and_from (test (p, term.Array)) true h refl
  own_within sort.Port p h = and_from (test (p, term.List)) true h refl

  leads : (ms : List (Pos × Nf)) → AllForms Over ms → LeadsTo (is_held ms) test ms
  leads ms h = record {
    scalars = λ q e. numbers q (form_at term.Scalar q ms) refl e;
    arrays = λ q e. arrays q (form_at term.Array q ms) refl e;
    lists = λ q e. lists q (form_at term.List q ms) refl e;
  }
    where
      numbers : (q : Pos) (o : Option Nf) → form_at term.Scalar q ms ≡ o → is_some o ≡ true
          → list_all test (symbols_of (number_or (polynomial_of_symbol q) o)) ≡ true
      numbers q None e g = absurd (cc g)
      numbers q (Some (Num p)) e g = h.at term.Scalar q (Num p) e
      numbers q (Some (Arr a)) e g = absurd (cc (sort_found term.Scalar q ms (Arr a) e))
      numbers q (Some (Seq l)) e g = absurd (cc (sort_found term.Scalar q ms (Seq l) e))

      arrays :
          (q : Pos) (o : Option Nf) → form_at term.Array q ms ≡ o → is_some o ≡ true
          → list_all test (symbols_of_array (array_or (bare_array (base.Sym q)) o)) ≡ true
      arrays q None e g = absurd (cc g)
      arrays q (Some (Num p)) e g = absurd (cc (sort_found term.Array q ms (Num p) e))
      arrays q (Some (Arr a)) e g = h.at term.Array q (Arr a) e
      arrays q (Some (Seq l)) e g = absurd (cc (sort_found term.Array q ms (Seq l) e))

      lists :
          (q : Pos) (o : Option Nf) → form_at term.List q ms ≡ o → is_some o ≡ true
          → list_all test (symbols_of_list (list_or (bare_list (list.Sym q)) o)) ≡ true
      lists q None e g = absurd (cc g)
      lists q (Some (Num p)) e g = absurd (cc (sort_found term.List q ms (Num p) e))
      lists q (Some (Arr a)) e g = absurd (cc (sort_found term.List q ms (Arr a) e))
      lists q (Some (Seq l)) e g = h.at term.List q (Seq l) e

  number_over : (ms : List (Pos × Nf)) (p r : Polynomial) → AllForms Over ms → number_held ms p ≡ true → polynomial_substituted ms p ≡ Done r
      → list_all test (symbols_of r) ≡ true
  number_over ms p r h i e = polynomial_over (is_held ms) test ms (leads ms h) p r i e

  form_over : (ms : List (Pos × Nf)) (f g : Nf) → AllForms Over ms → form_held ms f ≡ true → form_substituted ms f ≡ Done g → form_within test g ≡ true
  form_over ms (Num p) g h i e =
      let s = goes_done (polynomial_substituted ms p) (λ q. Done (Num q)) g e in
      let k : Num s.middle ≡ g = cc s.next in
      subst (λ z. form_within test z ≡ true) k (number_over ms p s.middle h i s.first)
  form_over ms (Arr a) g h i e =
      let s = goes_done (array_substituted ms a) (λ q. Done (Arr q)) g e in
      let k : Arr s.middle ≡ g = cc s.next in
      subst (λ z. form_within test z ≡ true) k (array_term_over (is_held ms) test ms (leads ms h) a s.middle i s.first)
  form_over ms (Seq l) g h i e =
      let s = goes_done (list_substituted ms l) (λ q. Done (Seq q)) g e in
      let k : Seq s.middle ≡ g = cc s.next in
      subst (λ z. form_within test z ≡ true) k (list_over (is_held ms) test ms (leads ms h) l s.middle i s.first)

  less_over : (positive : Bool) (p : Pos) (r t : Polynomial) → Passes sort.Scalar p → list_all test (symbols_of r) ≡ true → less_rest positive p r ≡ Done t
      → list_all test (symbols_of t) ≡ true
  less_over true p r t h g e = subtracted_within test (polynomial_of_symbol p) r t (own_within sort.Scalar p h) g e
  less_over false p r t h g e = subtracted_within test r (polynomial_of_symbol p) t g (own_within sort.Scalar p h) e

  module _ (v : List (Pos × Nf)) where
    bare_over : (s : Sort) (p x : Pos) → Passes s p → bare_symbol (value_at v s p) ≡ Some x → Over x (own_symbol s p)
    bare_over s p x h e = own_within s p h

    split_over : (ms : List (Pos × Nf)) (p : Pos) (y : Solution) → Passes sort.Scalar p → AllForms Over ms
        → second_pass_solution false v ms sort.Scalar p ≡ Done (Some y)
        → Over y.symbol (Num y.meaning)
    split_over ms p y q h e = by_split (split_off_symbol ms (number_at v p)) e
      where
        by_split : (o : Option Split) → solution ms p o ≡ Done (Some y) → list_all test (symbols_of y.meaning) ≡ true
        by_split None g = absurd (cc g)
        by_split (Some x) g = by_test (number_held ms x.rest) refl g
          where
            by_test : (b : Bool) → number_held ms x.rest ≡ b
                → cond {A = Computed (Option Solution)} b
                (after (polynomial_substituted ms x.rest)
                (λ r. after (less_rest x.positive p r) (λ t. Done (Some (record { symbol = x.symbol; meaning = t })))))
                (Done None) ≡ Done (Some y) → list_all test (symbols_of y.meaning) ≡ true
            by_test true i k =
                let a = goes_done (polynomial_substituted ms x.rest)
                (λ r. after (less_rest x.positive p r) (λ t. Done (Some (record { symbol = x.symbol; meaning = t })))) (Some y) k in
                let b = goes_done (less_rest x.positive p a.middle) (λ t. Done (Some (record { symbol = x.symbol; meaning = t }))) (Some y) a.next in
                let z : Solution = record { symbol = x.symbol; meaning = b.middle } in
                let c : z ≡ y = cc b.next in
                subst (λ (z : Solution). list_all test (symbols_of z.meaning) ≡ true) c
                (less_over x.positive p a.middle b.middle q (number_over ms x.rest a.middle h i a.first) b.first)
            by_test false i k = absurd (cc k)

    module _ (ms : List (Pos × Nf)) (good : AllForms Over ms) where
      number_tied_over : (p : Pos) (t : Polynomial) (qs : List Position) (x : Nf) → AllPass Passes qs → number_tied v ms t qs ≡ Done (Some x)
          → form_within test x ≡ true
      number_tied_over p t [] x h e = absurd (cc e)
      number_tied_over p t (q ∷ qs) x h e = by_sort q.sort q.pos h.0 e (λ g. number_tied_over p t qs x h.1 g)
        where
          by_sort : (s : Sort) (q : Pos) → Passes s q → number_tied_to v ms t s q (number_tied v ms t qs) ≡ Done (Some x)
              → (number_tied v ms t qs ≡ Done (Some x) → form_within test x ≡ true) → form_within test x ≡ true
          by_sort sort.Array q i g next = next g
          by_sort sort.Port q i g next = next g
          by_sort sort.Scalar q i g next =
              let s = goes_done (normal_difference t (number_at v q))
              (λ d. cond (number_held ms d)
              (after (polynomial_substituted ms d) (λ c. after (normal_sum (polynomial_of_symbol q) c) (λ r. Done (Some (Num r)))))
              (number_tied v ms t qs)) (Some x) g in
              by_test s.middle (number_held ms s.middle) refl s.next
            where
              by_test : (d : Polynomial) (b : Bool) → number_held ms d ≡ b
                  → cond {A = Computed (Option Nf)} b
                  (after (polynomial_substituted ms d) (λ c. after (normal_sum (polynomial_of_symbol q) c) (λ r. Done (Some (Num r)))))
                  (number_tied v ms t qs) ≡ Done (Some x) → form_within test x ≡ true
              by_test d true j k =
                  let a = goes_done (polynomial_substituted ms d) (λ c. after (normal_sum (polynomial_of_symbol q) c) (λ r. Done (Some (Num r)))) (Some x) k in
                  let b = goes_done (normal_sum (polynomial_of_symbol q) a.middle) (λ r. Done (Some (Num r))) (Some x) a.next in
                  let l : Num b.middle ≡ x = cc b.next in
                  subst (λ z. form_within test z ≡ true) l
                  (added_within test (polynomial_of_symbol q) a.middle b.middle (own_within sort.Scalar q i) (number_over ms d a.middle good j a.first) b.first)
              by_test d false j k = next k

      form_tied_over : (t : Nf) (qs : List Position) (x : Nf) → AllPass Passes qs → form_tied v t qs ≡ Some x → form_within test x ≡ true
      form_tied_over t [] x h e = absurd (cc e)
      form_tied_over t (q ∷ qs) x h e = by_test (same_form t (value_at v q.sort q.pos)) e (λ g. form_tied_over t qs x h.1 g)
        where
          by_test : (b : Bool) → cond b (Some (own_symbol q.sort q.pos)) (form_tied v t qs) ≡ Some x → (form_tied v t qs ≡ Some x → form_within test x ≡ true)
              → form_within test x ≡ true
          by_test true g next =
              let k : own_symbol q.sort q.pos ≡ x = cc g in
              subst (λ z. form_within test z ≡ true) k (own_within q.sort q.pos h.0)
          by_test false g next = next g

      tied_over : (p : Pos) (t : Nf) (qs : List Position) (x : Nf) → AllPass Passes qs → rebase_tied_equation v ms t qs ≡ Done (Some x)
          → form_within test x ≡ true
      tied_over p (Num t) qs x h e = number_tied_over p t qs x h e
      tied_over p (Arr a) qs x h e = form_tied_over (Arr a) qs x h (let k : form_tied v (Arr a) qs ≡ Some x = cc e in k)
      tied_over p (Seq l) qs x h e = form_tied_over (Seq l) qs x h (let k : form_tied v (Seq l) qs ≡ Some x = cc e in k)

      found_over : (s : Sort) (p : Pos) (qs : List Position) (x : Nf) → AllPass Passes qs → equation_found v ms (value_at v s p) qs ≡ Done (Some x)
          → Inside p (Some x)
      found_over s p qs x h e = by_test (form_held ms (value_at v s p)) refl e
        where
          by_test :
              (b : Bool) → form_held ms (value_at v s p) ≡ b
              → cond {A = Computed (Option Nf)} b (after (form_substituted ms (value_at v s p)) (λ r. Done (Some r)))
              (rebase_tied_equation v ms (value_at v s p) qs)
              ≡ Done (Some x) → form_within test x ≡ true
          by_test true i g =
              let a = goes_done (form_substituted ms (value_at v s p)) (λ r. Done (Some r)) (Some x) g in
              let k : a.middle ≡ x = cc a.next in
              form_over ms (value_at v s p) x good i (a.first ∙ ap Done k)
          by_test false i g = tied_over p (value_at v s p) qs x h g

      -- ---- conditions
      literal_over : (l m : NormalLiteral) → literal_held ms l ≡ true → literal_substituted ms l ≡ Done m → literal_within test m ≡ true
      literal_over True m h e = let k : True ≡ m = cc e in subst (λ z. literal_within test z ≡ true) k refl
      literal_over False m h e = let k : False ≡ m = cc e in subst (λ z. literal_within test z ≡ true) k refl
      literal_over (Is d k b) m h e =
          let s = goes_done (polynomial_substituted ms d) (λ x. after (number b) (λ c. literal (relation_of k) x c)) m e in
          let t = goes_done (number b) (λ c. literal (relation_of k) s.middle c) m s.next in
          literal_form_within test (relation_of k) s.middle t.middle m (number_over ms d s.middle good h s.first)
          (number_done_within test b t.middle t.first) t.next

      conditions_over_test : (ls rs : List NormalLiteral) → conditions_over ms ls ≡ Done rs → list_all (literal_within test) rs ≡ true
      conditions_over_test [] rs e = let k : [] ≡ rs = cc e in subst (λ z. list_all (literal_within test) z ≡ true) k refl
      conditions_over_test (l ∷ ls) rs e = by_test (literal_held ms l) refl e (λ qs g. conditions_over_test ls qs g)
        where
          by_test :
              (b : Bool) → literal_held ms l ≡ b
              → each (literal_substituted ms) (cond b (l ∷ filter (literal_held ms) ls) (filter (literal_held ms) ls)) ≡ Done rs
              → ((qs : List NormalLiteral) → conditions_over ms ls ≡ Done qs → list_all (literal_within test) qs ≡ true)
              → list_all (literal_within test) rs ≡ true
          by_test true i g next =
              let a = goes_done (literal_substituted ms l) (λ m. after (conditions_over ms ls) (λ rest. Done (m ∷ rest))) rs g in
              let b = goes_done (conditions_over ms ls) (λ rest. Done (a.middle ∷ rest)) rs a.next in
              let k : a.middle ∷ b.middle ≡ rs = cc b.next in
              subst (λ z. list_all (literal_within test) z ≡ true) k (and_from _ _ (literal_over l a.middle i a.first) (next b.middle b.first))
          by_test false i g next = next rs g

  abbrev pub RebaseWithin : Fact → Type 0
  RebaseWithin f = AllEquations Inside f.positions × (list_all (literal_within test) f.literals ≡ true)

  pub rebase_within : (post : Post) (ps : List Position) (f : Fact) → rebase post ps ≡ Done f → FreePass Passes f.positions → RebaseWithin f
  rebase_within post ps f e m =
      let v = post.vector in
      let r = rebasing post ps f e in
      let n = subst (λ (z : Fact). FreePass Passes z.positions) (sym r.whole) m in
      let third = third_all v r.held.meanings Passes (λ p o. Unit {0}) (λ s p qs x h g. tt) (λ p. tt) ps r.held.free [] r.positions tt r.third n in
      let marks = second_all v (λ x g. Unit {0}) Passes (λ s p x h g. tt) (λ ms p y h g i. tt) ps (first_pass v ps []).free (first_pass v ps []).meanings r.held
      (record { at = λ s q g i. tt }) r.second third.1 in
      let one = first_all v Over Passes (bare_over v) (split_over v) ps [] (none_all Over) marks.1 in
      let two = second_all v Over Passes (bare_over v) (split_over v) ps (first_pass v ps []).free (first_pass v ps []).meanings r.held one r.second third.1 in
      let three = third_all v r.held.meanings Passes Inside (found_over v r.held.meanings two.0) (λ p. refl) ps r.held.free [] r.positions tt r.third n in
      subst RebaseWithin r.whole (
        three.0,
        taken_pass (literal_within test) most_literals (with_needed [] r.literals)
            (needed_pass (literal_within test) [] r.literals refl (conditions_over_test v r.held.meanings two.0 post.conditions r.literals r.conditions)),
      )
