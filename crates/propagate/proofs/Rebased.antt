-- The rebased fact holds where the post leads.
use Rattle.std.proofs.Common.{◌≡◌, ℤ, pos, ◌+ℤ◌, ◌-ℤ◌, ◌*ℤ◌, neg_ℤ, cond, Bool, true, false, arith, refl, ap, sym, subst, ◌∙◌, List, [], ◌∷◌}
use Rattle.std.proofs.Common.{◌++◌, take, Option, Some, None}
use Rattle.std.specs.Prelude.{is_some, filter}
use Rattle.std.specs.Option.{option_map}
use Rattle.std.specs.List.{list_all}
use Rattle.std.proofs.lemmas.Int.{ints}
use Rattle.std.proofs.lemmas.List.{append-nil}
use Rattle.std.specs.Ordering.{int_eq}
use Rattle.std.specs.Cmp.{signed_Decides}
use Rattle.std.proofs.lemmas.Bool.{and_from}
use Rattle.fs_model.proofs.Booleans.{and_first, and_second}
use Rattle.fs_model.specs.declared.parts.Sort.{Sort}
use Rattle.fs_model.specs.declared.parts.Sort.TheVariants as sort
use Rattle.fs_pair.specs.declared.positions.Position.{Position}
use Rattle.nf_trees.specs.NormalTerms.{Atom, Monomial, Polynomial, ArrayTerm, Symbol, Read, Quotient, Remainder, One, Times, Zero, Plus, Over, NoWrites, Write}
use Rattle.nf_trees.specs.NormalTerms.{polynomial_of_symbol, bare_array}
use Rattle.nf_terms.specs.Forms.{same_form}
use Rattle.nf_terms.specs.TermMeaning.{Valuation, value_of, value_of_atom, value_of_monomial, contents, contents_of_base, items_of_base, items_in}
use Rattle.nf_terms.specs.Computed.{Computed, Done, after}
use Rattle.nf_terms.specs.declared.symbols.Sort.TheVariants as term
use Rattle.fs_model.specs.declared.sides.Pos.{Pos}
use Rattle.nf_trees.specs.declared.tree.Base.{Base}
use Rattle.nf_trees.specs.declared.tree.Base.TheVariants as base
use Rattle.nf_terms.specs.declared.tree.SeqBase.{SeqBase}
use Rattle.nf_terms.specs.declared.tree.SeqBase.TheVariants as list
use Rattle.nf_terms.specs.declared.form.Nf.{Nf}
use Rattle.nf_terms.specs.declared.form.Nf.TheVariants.{Num, Arr, Seq}
use Rattle.nf_sums.specs.Operations.{normal_sum, normal_difference}
use Rattle.nf_sums.proofs.Values.{goes_done, added_value, subtracted_value}
use Rattle.nf_substitution.specs.Vectors.{form_at, number_or, array_or, list_or, number_at, array_form, list_at, vector_meaning}
use Rattle.nf_substitution.specs.Substitution.{polynomial_substituted, array_substituted, list_substituted}
use Rattle.nf_substitution.proofs.Values.{substituted_value, array_value, list_value}
use Rattle.sym_facts.specs.SymbolTests.{AgreeAt}
use Rattle.sym_facts.proofs.Agreement.{value_same, array_same, list_same}
use Rattle.nf_rel.specs.Literals.{NormalLiteral, True, False, Is, meets, is_true_in, all_true_in}
use Rattle.sym_paths.specs.Sequences.{each}
use Rattle.sym_paths.specs.Execution.{Post}
use Rattle.sym_facts.specs.Facts.{FactPosition, Fact, EquationHolds, HoldsIn, own_symbol, most_literals}
use Rattle.sym_facts.specs.Entailment.{form_substituted, literal_substituted}
use Rattle.sym_facts.proofs.FactVectors.{symbol_value}
use Rattle.propagate.specs.Rebases.{value_at, is_held, number_held, form_held, literal_held, lone_atom, lone_symbol, bare_number, bare_base, symbol_of_array}
use Rattle.propagate.specs.Rebases.{bare_list_base, symbol_of_list, bare_symbol, RebaseState, first_pass, Split, with_more_of_split, split_by, split_at}
use Rattle.propagate.specs.Rebases.{split_off_symbol}
use Rattle.propagate.specs.Rebases.{less_rest, Solution, solution, second_pass_solution, second_pass, number_tied_to, number_tied, form_tied}
use Rattle.propagate.specs.Rebases.{rebase_tied_equation, equation_found}
use Rattle.propagate.specs.Rebases.{third_pass, is_needless, with_needed, conditions_over, rebase}
use Rattle.propagate_equations.proofs.Needed.{last_passes, taken_pass}
use Rattle.propagate.proofs.Arriving.{forms_equal, literal_truth}
use Rattle.propagate.proofs.Passes.{AllForms, none_all, sort_found, AllPass, first_all, second_all, third_all, none_asked, free_asked, equations_hold}

-- ---- symbols alone
lone_atom_value : (w : Valuation) (t : Atom) (s : Pos) → lone_atom t ≡ Some s → value_of_atom w t ≡ w.scalar s
lone_atom_value w (Symbol p) s e = let k : p ≡ s = cc e in ap w.scalar k
lone_atom_value w (Read b i) s e = absurd (cc e)
lone_atom_value w (Quotient p q) s e = absurd (cc e)
lone_atom_value w (Remainder p q) s e = absurd (cc e)

lone_value : (w : Valuation) (m : Monomial) (s : Pos) → lone_symbol m ≡ Some s → value_of_monomial w m ≡ w.scalar s
lone_value w One s e = absurd (cc e)
lone_value w (Times t One) s e = omega (arith, ints, lone_atom_value w t s e)
lone_value w (Times t (Times b m)) s e = absurd (cc e)

bare_value : (w : Valuation) (p : Polynomial) (s : Pos) → bare_number p ≡ Some s → value_of w p ≡ w.scalar s
bare_value w Zero s e = absurd (cc e)
bare_value w (Plus m c Zero) s e = by_test (int_eq c (pos 1)) refl e
  where
    by_test : (b : Bool) → int_eq c (pos 1) ≡ b → cond {A = Option Pos} b (lone_symbol m) None ≡ Some s → c *ℤ value_of_monomial w m +ℤ pos 0 ≡ w.scalar s
    by_test true h g = let k : c ≡ pos 1 = (signed_Decides c (pos 1)).0 h in omega (arith, ints, ap (λ z. z *ℤ value_of_monomial w m) k, lone_value w m s g)
    by_test false h g = absurd (cc g)
bare_value w (Plus m c (Plus n d p)) s e = absurd (cc e)

bare_base_value : (w : Valuation) (b : Base) (s : Pos) → bare_base b ≡ Some s → contents_of_base w b ≡ w.array s
bare_base_value w base.Zero s e = absurd (cc e)
bare_base_value w (base.Sym p) s e = let k : p ≡ s = cc e in ap w.array k

bare_array_value : (w : Valuation) (t : ArrayTerm) (s : Pos) → symbol_of_array t ≡ Some s → contents w t ≡ w.array s
bare_array_value w (Over b NoWrites) s e = bare_base_value w b s e
bare_array_value w (Over b (Write i t ws)) s e = absurd (cc e)

bare_list_base_value : (w : Valuation) (b : SeqBase) (s : Pos) → bare_list_base b ≡ Some s → items_of_base w b ≡ w.list s
bare_list_base_value w list.Empty s e = absurd (cc e)
bare_list_base_value w (list.Sym p) s e = let k : p ≡ s = cc e in ap w.list k

bare_list_value : (w : Valuation) (b : SeqBase) (ps : List Polynomial) (s : Pos) → symbol_of_list b ps ≡ Some s
    → items_in w (record { base = b; items = ps }) ≡ w.list s
bare_list_value w b [] s e = append-nil (items_of_base w b) ∙ bare_list_base_value w b s e
bare_list_value w b (p ∷ ps) s e = absurd (cc e)

-- ---- a symbol split off
abbrev signed_z : Bool → ℤ → ℤ
signed_z true z = z
signed_z false z = neg_ℤ z

abbrev SplitOf : Valuation → Polynomial → Split → Type 0
SplitOf w p x = value_of w p ≡ signed_z x.positive (w.scalar x.symbol) +ℤ value_of w x.rest

split_more : (w : Valuation) (m : Monomial) (c : ℤ) (p : Polynomial) (o : Option Split) (x : Split) → ((y : Split) → o ≡ Some y → SplitOf w p y)
    → option_map (with_more_of_split m c) o ≡ Some x → SplitOf w (Plus m c p) x
split_more w m c p None x h e = absurd (cc e)
split_more w m c p (Some y) x h e =
    let k : with_more_of_split m c y ≡ x = cc e in
    let i : value_of w p ≡ signed_z y.positive (w.scalar y.symbol) +ℤ value_of w y.rest = h y refl in
    subst (SplitOf w (Plus m c p)) k (omega (arith, ints, i))

split_here : (w : Valuation) (m : Monomial) (c : ℤ) (p : Polynomial) (s : Pos) (later : Option Split) (x : Split) → lone_symbol m ≡ Some s
    → (later ≡ Some x → SplitOf w (Plus m c p) x)
    → (b one minus : Bool) → int_eq c (pos 1) ≡ one → int_eq c (neg_ℤ (pos 1)) ≡ minus → split_by b one minus s p later ≡ Some x → SplitOf w (Plus m c p) x
split_here w m c p s later x l next true one minus h g e = next e
split_here w m c p s later x l next false true minus h g e =
    let y : Split = record { symbol = s; positive = true; rest = p } in
    let k : y ≡ x = cc e in
    let z : c ≡ pos 1 = (signed_Decides c (pos 1)).0 h in
    subst (SplitOf w (Plus m c p)) k (omega (arith, ints, ap (λ t. t *ℤ value_of_monomial w m) z, lone_value w m s l))
split_here w m c p s later x l next false false true h g e =
    let y : Split = record { symbol = s; positive = false; rest = p } in
    let k : y ≡ x = cc e in
    let z : c ≡ neg_ℤ (pos 1) = (signed_Decides c (neg_ℤ (pos 1))).0 g in
    subst (SplitOf w (Plus m c p)) k (minus_one w m c p s z l)
  where
    minus_one : (w : Valuation) (m : Monomial) (c : ℤ) (p : Polynomial) (s : Pos) → c ≡ neg_ℤ (pos 1) → lone_symbol m ≡ Some s
        → c *ℤ value_of_monomial w m +ℤ value_of w p ≡ neg_ℤ (w.scalar s) +ℤ value_of w p
    minus_one w m c p s z l = omega (arith, ints, ap (λ t. t *ℤ value_of_monomial w m) z, lone_value w m s l)
split_here w m c p s later x l next false false false h g e = next e

split_value : (w : Valuation) (ms : List (Pos × Nf)) (p : Polynomial) (x : Split) → split_off_symbol ms p ≡ Some x → SplitOf w p x
split_value w ms Zero x e = absurd (cc e)
split_value w ms (Plus m c p) x e = by_symbol (lone_symbol m) refl (λ g. split_more w m c p (split_off_symbol ms p) x (λ y i. split_value w ms p y i) g) e
  where
    by_symbol : (o : Option Pos) → lone_symbol m ≡ o → (option_map (with_more_of_split m c) (split_off_symbol ms p) ≡ Some x → SplitOf w (Plus m c p) x)
        → split_at ms c o p (option_map (with_more_of_split m c) (split_off_symbol ms p)) ≡ Some x → SplitOf w (Plus m c p) x
    by_symbol None l next g = next g
    by_symbol (Some s) l next g = split_here w m c p s (option_map (with_more_of_split m c) (split_off_symbol ms p)) x l next (is_held ms (s, term.Scalar))
        (int_eq c (pos 1)) (int_eq c (neg_ℤ (pos 1))) refl refl g

-- ---- the new meanings: each means, where the post leads, what its symbol holds
module _ (w : Valuation) (v : List (Pos × Nf)) where
  abbrev Means : Pos → Nf → Type 0
  Means q (Num p) = value_of (vector_meaning v w) p ≡ w.scalar q
  Means q (Arr a) = contents (vector_meaning v w) a ≡ w.array q
  Means q (Seq l) = items_in (vector_meaning v w) l ≡ w.list q

  agree : (ms : List (Pos × Nf)) → AllForms Means ms → AgreeAt (is_held ms) (vector_meaning ms (vector_meaning v w)) w
  agree ms h = record {
    scalars = λ q e. numbers q (form_at term.Scalar q ms) refl e;
    arrays = λ q e. arrays q (form_at term.Array q ms) refl e;
    lists = λ q e. lists q (form_at term.List q ms) refl e;
  }
    where
      numbers :
          (q : Pos) (o : Option Nf) → form_at term.Scalar q ms ≡ o → is_some o ≡ true
          → value_of (vector_meaning v w) (number_or (polynomial_of_symbol q) o) ≡ w.scalar q
      numbers q None e g = absurd (cc g)
      numbers q (Some (Num p)) e g = h.at term.Scalar q (Num p) e
      numbers q (Some (Arr a)) e g = absurd (cc (sort_found term.Scalar q ms (Arr a) e))
      numbers q (Some (Seq l)) e g = absurd (cc (sort_found term.Scalar q ms (Seq l) e))

      arrays : (q : Pos) (o : Option Nf) → form_at term.Array q ms ≡ o → is_some o ≡ true
          → contents (vector_meaning v w) (array_or (bare_array (base.Sym q)) o) ≡ w.array q
      arrays q None e g = absurd (cc g)
      arrays q (Some (Num p)) e g = absurd (cc (sort_found term.Array q ms (Num p) e))
      arrays q (Some (Arr a)) e g = h.at term.Array q (Arr a) e
      arrays q (Some (Seq l)) e g = absurd (cc (sort_found term.Array q ms (Seq l) e))

      lists : (q : Pos) (o : Option Nf) → form_at term.List q ms ≡ o → is_some o ≡ true
          → items_in (vector_meaning v w) (list_or (record { base = list.Sym q; items = [] }) o) ≡ w.list q
      lists q None e g = absurd (cc g)
      lists q (Some (Num p)) e g = absurd (cc (sort_found term.List q ms (Num p) e))
      lists q (Some (Arr a)) e g = absurd (cc (sort_found term.List q ms (Arr a) e))
      lists q (Some (Seq l)) e g = h.at term.List q (Seq l) e

  -- a number of held symbols, substituted
  number_kept : (ms : List (Pos × Nf)) (p r : Polynomial) → AllForms Means ms → number_held ms p ≡ true → polynomial_substituted ms p ≡ Done r
      → value_of (vector_meaning v w) r ≡ value_of w p
  number_kept ms p r h i e = substituted_value (vector_meaning v w) ms p r e
      ∙ value_same (is_held ms) (vector_meaning ms (vector_meaning v w)) w (agree ms h) p i

  bare_means : (s : Sort) (p x : Pos) → Unit {0} → bare_symbol (value_at v s p) ≡ Some x → Means x (own_symbol s p)
  bare_means sort.Scalar p x h e = symbol_value (vector_meaning v w) p ∙ bare_value w (number_at v p) x e
  bare_means sort.Array p x h e = bare_array_value w (array_form v p) x e
  bare_means sort.Port p x h e = append-nil ((vector_meaning v w).list p) ∙ bare_list_value w (list_at v p).base (list_at v p).items x e

  split_symbol : (positive : Bool) (p : Pos) (s x : ℤ) (rest z : Polynomial) → (vector_meaning v w).scalar p ≡ signed_z positive s +ℤ x
      → value_of (vector_meaning v w) rest ≡ x → less_rest positive p rest ≡ Done z → value_of (vector_meaning v w) z ≡ s
  split_symbol true p s x rest z h e g =
      omega (arith, ints, h, e, subtracted_value (vector_meaning v w) (polynomial_of_symbol p) rest z g, symbol_value (vector_meaning v w) p)
  split_symbol false p s x rest z h e g =
      omega (arith, ints, h, e, subtracted_value (vector_meaning v w) rest (polynomial_of_symbol p) z g, symbol_value (vector_meaning v w) p)

  split_means : (ms : List (Pos × Nf)) (p : Pos) (y : Solution) → Unit {0} → AllForms Means ms → second_pass_solution false v ms sort.Scalar p ≡ Done (Some y)
      → Means y.symbol (Num y.meaning)
  split_means ms p y u h e = by_split (split_off_symbol ms (number_at v p)) refl e
    where
      by_split : (o : Option Split) → split_off_symbol ms (number_at v p) ≡ o → solution ms p o ≡ Done (Some y)
          → value_of (vector_meaning v w) y.meaning ≡ w.scalar y.symbol
      by_split None s g = absurd (cc g)
      by_split (Some x) s g = by_test (number_held ms x.rest) refl g
        where
          by_test :
              (b : Bool) → number_held ms x.rest ≡ b
              → cond {A = Computed (Option Solution)} b
              (after (polynomial_substituted ms x.rest) (λ r. after (less_rest x.positive p r) (λ t. Done (Some (record { symbol = x.symbol; meaning = t })))))
              (Done None)
              ≡ Done (Some y) → value_of (vector_meaning v w) y.meaning ≡ w.scalar y.symbol
          by_test true i k =
              let a = goes_done (polynomial_substituted ms x.rest)
              (λ r. after (less_rest x.positive p r) (λ t. Done (Some (record { symbol = x.symbol; meaning = t })))) (Some y) k in
              let b = goes_done (less_rest x.positive p a.middle) (λ t. Done (Some (record { symbol = x.symbol; meaning = t }))) (Some y) a.next in
              let z : Solution = record { symbol = x.symbol; meaning = b.middle } in
              let c : z ≡ y = cc b.next in
              subst (λ (z : Solution). value_of (vector_meaning v w) z.meaning ≡ w.scalar z.symbol) c
              (split_symbol x.positive p (w.scalar x.symbol) (value_of w x.rest) a.middle b.middle (split_value w ms (number_at v p) x s)
              (number_kept ms x.rest a.middle h i a.first) b.first)
          by_test false i k = absurd (cc k)

  -- ---- the equations
  module _ (ms : List (Pos × Nf)) (good : AllForms Means ms) where
    number_tied_holds : (p : Pos) (qs : List Position) (x : Nf) → number_tied v ms (number_at v p) qs ≡ Done (Some x)
        → EquationHolds (vector_meaning v w) p (Some x)
    number_tied_holds p [] x e = absurd (cc e)
    number_tied_holds p (q ∷ qs) x e = by_sort q.sort q.pos e (λ g. number_tied_holds p qs x g)
      where
        by_sort : (s : Sort) (q : Pos) → number_tied_to v ms (number_at v p) s q (number_tied v ms (number_at v p) qs) ≡ Done (Some x)
            → (number_tied v ms (number_at v p) qs ≡ Done (Some x) → EquationHolds (vector_meaning v w) p (Some x))
            → EquationHolds (vector_meaning v w) p (Some x)
        by_sort sort.Array q g next = next g
        by_sort sort.Port q g next = next g
        by_sort sort.Scalar q g next =
            let s = goes_done (normal_difference (number_at v p) (number_at v q))
            (λ d. cond (number_held ms d) (after (polynomial_substituted ms d) (λ c. after (normal_sum (polynomial_of_symbol q) c) (λ r. Done (Some (Num r)))))
            (number_tied v ms (number_at v p) qs)) (Some x) g in
            by_test s.middle s.first (number_held ms s.middle) refl s.next
          where
            by_test : (d : Polynomial) → normal_difference (number_at v p) (number_at v q) ≡ Done d → (b : Bool) → number_held ms d ≡ b
                → cond {A = Computed (Option Nf)} b
                (after (polynomial_substituted ms d) (λ c. after (normal_sum (polynomial_of_symbol q) c) (λ r. Done (Some (Num r)))))
                (number_tied v ms (number_at v p) qs) ≡ Done (Some x)
                → EquationHolds (vector_meaning v w) p (Some x)
            by_test d hd true i k =
                let a = goes_done (polynomial_substituted ms d) (λ c. after (normal_sum (polynomial_of_symbol q) c) (λ r. Done (Some (Num r)))) (Some x) k in
                let b = goes_done (normal_sum (polynomial_of_symbol q) a.middle) (λ r. Done (Some (Num r))) (Some x) a.next in
                let j : Num b.middle ≡ x = cc b.next in
                let n = vector_meaning v w in
                subst (λ z. EquationHolds (vector_meaning v w) p (Some z)) j
                (sum_of (value_of w (number_at v p)) (value_of w (number_at v q)) (value_of w d) (value_of n a.middle) (value_of n (polynomial_of_symbol q))
                (value_of n b.middle) (subtracted_value w (number_at v p) (number_at v q) d hd) (number_kept ms d a.middle good i a.first)
                (added_value n (polynomial_of_symbol q) a.middle b.middle b.first) (symbol_value n q))
              where
                sum_of : (p q d a s r : ℤ) → d ≡ p -ℤ q → a ≡ d → r ≡ s +ℤ a → s ≡ q → p ≡ r
                sum_of p q d a s r i j k l = omega (arith, ints)
            by_test d hd false i k = next k

    -- two positions with the same value
    same_value : (s t : Sort) (p q : Pos) → value_at v s p ≡ value_at v t q → EquationHolds (vector_meaning v w) p (Some (own_symbol t q))
    same_value sort.Scalar sort.Scalar p q e =
        let k : number_at v p ≡ number_at v q = cc e in
        let i : (vector_meaning v w).scalar p ≡ (vector_meaning v w).scalar q = ap (value_of w) k in
        i ∙ sym (symbol_value (vector_meaning v w) q)
    same_value sort.Array sort.Array p q e = let k : array_form v p ≡ array_form v q = cc e in ap (contents w) k
    same_value sort.Port sort.Port p q e =
        let k : list_at v p ≡ list_at v q = cc e in
        let i : (vector_meaning v w).list p ≡ (vector_meaning v w).list q = ap (items_in w) k in
        i ∙ sym (append-nil ((vector_meaning v w).list q))
    same_value sort.Scalar sort.Array p q e = absurd (cc e)
    same_value sort.Scalar sort.Port p q e = absurd (cc e)
    same_value sort.Array sort.Scalar p q e = absurd (cc e)
    same_value sort.Array sort.Port p q e = absurd (cc e)
    same_value sort.Port sort.Scalar p q e = absurd (cc e)
    same_value sort.Port sort.Array p q e = absurd (cc e)

    form_tied_holds : (s : Sort) (p : Pos) (qs : List Position) (x : Nf) → form_tied v (value_at v s p) qs ≡ Some x
        → EquationHolds (vector_meaning v w) p (Some x)
    form_tied_holds s p [] x e = absurd (cc e)
    form_tied_holds s p (q ∷ qs) x e = by_test (same_form (value_at v s p) (value_at v q.sort q.pos)) refl e (λ g. form_tied_holds s p qs x g)
      where
        by_test : (b : Bool) → same_form (value_at v s p) (value_at v q.sort q.pos) ≡ b
            → cond b (Some (own_symbol q.sort q.pos)) (form_tied v (value_at v s p) qs) ≡ Some x
            → (form_tied v (value_at v s p) qs ≡ Some x → EquationHolds (vector_meaning v w) p (Some x)) → EquationHolds (vector_meaning v w) p (Some x)
        by_test true i g next =
            let k : own_symbol q.sort q.pos ≡ x = cc g in
            subst (λ z. EquationHolds (vector_meaning v w) p (Some z)) k
            (same_value s q.sort p q.pos (forms_equal (value_at v s p) (value_at v q.sort q.pos) i))
        by_test false i g next = next g

    tied_holds : (s : Sort) (p : Pos) (qs : List Position) (x : Nf) → rebase_tied_equation v ms (value_at v s p) qs ≡ Done (Some x)
        → EquationHolds (vector_meaning v w) p (Some x)
    tied_holds sort.Scalar p qs x e = number_tied_holds p qs x e
    tied_holds sort.Array p qs x e = form_tied_holds sort.Array p qs x (let k : form_tied v (Arr (array_form v p)) qs ≡ Some x = cc e in k)
    tied_holds sort.Port p qs x e = form_tied_holds sort.Port p qs x (let k : form_tied v (Seq (list_at v p)) qs ≡ Some x = cc e in k)

    -- a value of held symbols, substituted
    held_holds : (s : Sort) (p : Pos) (x : Nf) → form_held ms (value_at v s p) ≡ true → form_substituted ms (value_at v s p) ≡ Done x
        → EquationHolds (vector_meaning v w) p (Some x)
    held_holds sort.Scalar p x h e =
        let s = goes_done (polynomial_substituted ms (number_at v p)) (λ q. Done (Num q)) x e in
        let k : Num s.middle ≡ x = cc s.next in
        subst (λ z. EquationHolds (vector_meaning v w) p (Some z)) k (sym (number_kept ms (number_at v p) s.middle good h s.first))
    held_holds sort.Array p x h e =
        let s = goes_done (array_substituted ms (array_form v p)) (λ q. Done (Arr q)) x e in
        let k : Arr s.middle ≡ x = cc s.next in
        subst (λ z. EquationHolds (vector_meaning v w) p (Some z)) k
        (sym
        (array_value (vector_meaning v w) ms (array_form v p) s.middle s.first
        ∙ array_same (is_held ms) (vector_meaning ms (vector_meaning v w)) w (agree ms good) (array_form v p) h))
    held_holds sort.Port p x h e =
        let s = goes_done (list_substituted ms (list_at v p)) (λ q. Done (Seq q)) x e in
        let k : Seq s.middle ≡ x = cc s.next in
        subst (λ z. EquationHolds (vector_meaning v w) p (Some z)) k
        (sym (list_value (vector_meaning v w) ms (list_at v p) s.middle s.first
        ∙ list_same (is_held ms) (vector_meaning ms (vector_meaning v w)) w (agree ms good) (list_at v p) h))

    found_holds : (s : Sort) (p : Pos) (qs : List Position) (x : Nf) → AllPass (λ s z. Unit {0}) qs → equation_found v ms (value_at v s p) qs ≡ Done (Some x)
        → EquationHolds (vector_meaning v w) p (Some x)
    found_holds s p qs x u e = by_test (form_held ms (value_at v s p)) refl e
      where
        by_test : (b : Bool) → form_held ms (value_at v s p) ≡ b
            → cond {A = Computed (Option Nf)} b (after (form_substituted ms (value_at v s p)) (λ r. Done (Some r)))
            (rebase_tied_equation v ms (value_at v s p) qs)
            ≡ Done (Some x) → EquationHolds (vector_meaning v w) p (Some x)
        by_test true i g =
            let a = goes_done (form_substituted ms (value_at v s p)) (λ r. Done (Some r)) (Some x) g in
            let k : a.middle ≡ x = cc a.next in
            held_holds s p x i (a.first ∙ ap Done k)
        by_test false i g = tied_holds s p qs x g

    -- ---- conditions
    literal_kept : (l m : NormalLiteral) → literal_held ms l ≡ true → literal_substituted ms l ≡ Done m → is_true_in (vector_meaning v w) m ≡ is_true_in w l
    literal_kept l m h e = literal_truth (vector_meaning v w) ms l m e ∙ by_literal l h
      where
        by_literal : (l : NormalLiteral) → literal_held ms l ≡ true → is_true_in (vector_meaning ms (vector_meaning v w)) l ≡ is_true_in w l
        by_literal True i = refl
        by_literal False i = refl
        by_literal (Is d k b) i = ap (λ z. meets k z b) (value_same (is_held ms) (vector_meaning ms (vector_meaning v w)) w (agree ms good) d i)

    conditions_hold : (ls rs : List NormalLiteral) → all_true_in w ls ≡ true → conditions_over ms ls ≡ Done rs → all_true_in (vector_meaning v w) rs ≡ true
    conditions_hold [] rs h e = let k : [] ≡ rs = cc e in subst (λ z. all_true_in (vector_meaning v w) z ≡ true) k refl
    conditions_hold (l ∷ ls) rs h e = by_test (literal_held ms l) refl e (λ qs g. conditions_hold ls qs (and_second (is_true_in w l) (all_true_in w ls) h) g)
      where
        by_test : (b : Bool) → literal_held ms l ≡ b
            → each (literal_substituted ms) (cond b (l ∷ filter (literal_held ms) ls) (filter (literal_held ms) ls)) ≡ Done rs
            → ((qs : List NormalLiteral) → conditions_over ms ls ≡ Done qs → all_true_in (vector_meaning v w) qs ≡ true)
            → all_true_in (vector_meaning v w) rs ≡ true
        by_test true i g next =
            let a = goes_done (literal_substituted ms l) (λ m. after (conditions_over ms ls) (λ rest. Done (m ∷ rest))) rs g in
            let b = goes_done (conditions_over ms ls) (λ rest. Done (a.middle ∷ rest)) rs a.next in
            let k : a.middle ∷ b.middle ≡ rs = cc b.next in
            subst (λ z. all_true_in (vector_meaning v w) z ≡ true) k
            (and_from _ _ (literal_kept l a.middle i a.first ∙ and_first (is_true_in w l) (all_true_in w ls) h) (next b.middle b.first))
        by_test false i g next = next rs g

-- ---- the literals that are needed
pub needed_pass : (test : NormalLiteral → Bool) (before ls : List NormalLiteral) → list_all test before ≡ true → list_all test ls ≡ true
    → list_all test (with_needed before ls) ≡ true
needed_pass test before [] h g = h
needed_pass test before (l ∷ ls) h g = needed_pass test (cond (is_needless before l) before (before ++ l ∷ [])) ls (by_test (is_needless before l))
    (and_second (test l) (list_all test ls) g)
  where
    by_test : (b : Bool) → list_all test (cond b before (before ++ l ∷ [])) ≡ true
    by_test true = h
    by_test false = last_passes test before l h (and_first (test l) (list_all test ls) g)

-- ---- what a rebase goes through
pub record Rebasing (post : Post) (ps : List Position) (f : Fact) : Type 0 where
  pub held : RebaseState
  pub positions : List FactPosition
  pub literals : List NormalLiteral
  pub second : second_pass post.vector ps (first_pass post.vector ps []).free (first_pass post.vector ps []).meanings ≡ Done held
  pub third : third_pass post.vector held.meanings ps held.free [] ≡ Done positions
  pub conditions : conditions_over held.meanings post.conditions ≡ Done literals
  pub whole : record { positions = positions; literals = take most_literals (with_needed [] literals) } ≡ f

pub rebasing : (post : Post) (ps : List Position) (f : Fact) → rebase post ps ≡ Done f → Rebasing post ps f
rebasing post ps f e =
    let v = post.vector in
    let one = first_pass v ps [] in
    let a = goes_done (second_pass v ps one.free one.meanings)
    (λ h. after (third_pass v h.meanings ps h.free [])
    (λ qs. after (conditions_over h.meanings post.conditions) (λ ls. Done (record { positions = qs; literals = take most_literals (with_needed [] ls) })))) f e
    in
    let b = goes_done (third_pass v a.middle.meanings ps a.middle.free [])
    (λ qs. after (conditions_over a.middle.meanings post.conditions)
    (λ ls. Done (record { positions = qs; literals = take most_literals (with_needed [] ls) }))) f a.next in
    let d = goes_done (conditions_over a.middle.meanings post.conditions)
    (λ ls. Done (record { positions = b.middle; literals = take most_literals (with_needed [] ls) })) f b.next in
    record {
      held = a.middle;
      positions = b.middle;
      literals = d.middle;
      second = a.first;
      third = b.first;
      conditions = d.first;
      whole = (let k : record { positions = b.middle; literals = take most_literals (with_needed [] d.middle) } ≡ f = cc d.next in k);
    }

pub rebase_of_post : (w : Valuation) (post : Post) (ps : List Position) (f : Fact) → rebase post ps ≡ Done f → all_true_in w post.conditions ≡ true
    → HoldsIn (vector_meaning post.vector w) f
rebase_of_post w post ps f e c =
    let v = post.vector in
    let r = rebasing post ps f e in
    let one = first_all v (Means w v) (λ s z. Unit {0}) (bare_means w v) (split_means w v) ps [] (none_all (Means w v))
    (none_asked ps (first_pass v ps []).free) in
    let two = second_all v (Means w v) (λ s z. Unit {0}) (bare_means w v) (split_means w v) ps (first_pass v ps []).free
    (first_pass v ps []).meanings r.held one r.second (none_asked ps r.held.free) in
    let three = third_all v r.held.meanings (λ s z. Unit {0}) (EquationHolds (vector_meaning v w)) (found_holds w v r.held.meanings two.0)
    (λ p. tt) ps r.held.free [] r.positions tt r.third (free_asked r.positions) in
    subst (HoldsIn (vector_meaning v w)) r.whole (record {
      equations = equations_hold (vector_meaning v w) r.positions three.0;
      literals = taken_pass (is_true_in (vector_meaning v w)) most_literals (with_needed [] r.literals)
          (needed_pass (is_true_in (vector_meaning v w)) [] r.literals refl
          (conditions_hold w v r.held.meanings two.0 post.conditions r.literals c r.conditions));
    })
