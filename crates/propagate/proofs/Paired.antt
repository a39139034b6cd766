-- Rebased facts are of the positions.
use Rattle.std.proofs.Common.{◌≡◌, Bool, true, false, cond, refl, sym, subst, ap, ap₂, ◌∙◌, List, [], ◌∷◌, map, Option, Some, None}
use Rattle.std.specs.Prelude.{◌&&◌, ◌||◌}
use Rattle.std.specs.List.{list_all}
use Rattle.std.proofs.lemmas.Bool.{and_from, or_right}
use Rattle.fs_model.specs.declared.parts.Sort.{Sort}
use Rattle.fs_model.specs.declared.parts.Sort.TheVariants as sort
use Rattle.fs_pair.specs.declared.positions.Position.{Position}
use Rattle.nf_terms.specs.Forms.{same_form, sort_of_form}
use Rattle.nf_trees.specs.Mentions.{same_pos}
use Rattle.nf_trees.specs.NormalTerms.{Polynomial, polynomial_of_symbol}
use Rattle.nf_terms.specs.Computed.{Computed, Done, after}
use Rattle.nf_terms.specs.declared.symbols.Sort.{Sort as TermSort}
use Rattle.nf_terms.specs.declared.symbols.Sort.TheVariants as term
use Rattle.fs_model.specs.declared.sides.Pos.{Pos}
use Rattle.nf_terms.specs.declared.form.Nf.{Nf}
use Rattle.nf_terms.specs.declared.form.Nf.TheVariants.{Num, Arr, Seq}
use Rattle.nf_terms.specs.TermSorts.{same_term_sort}
use Rattle.nf_sums.specs.Operations.{normal_sum, normal_difference}
use Rattle.nf_sums.proofs.Values.{goes_done}
use Rattle.nf_substitution.specs.Vectors.{number_at}
use Rattle.nf_substitution.specs.Substitution.{polynomial_substituted, array_substituted, list_substituted}
use Rattle.nf_substitution.specs.SamePlaces.{own_pos, own_sort}
use Rattle.sym_paths.specs.Execution.{Post}
use Rattle.sym_facts.specs.Facts.{FactPosition, Fact, sort_of_terms, own_symbol, form_or_symbol, vector_of}
use Rattle.sym_facts.specs.Entailment.{form_substituted}
use Rattle.sym_facts.specs.Pairings.{is_position, form_within, IsFactOf}
use Rattle.sym_facts.proofs.StartSolved.{own_sort_of}
use Rattle.propagate.specs.Rebases.{value_at, number_held, form_held, symbol_found, first_by, first_pass, RebaseState, with_mark, Solution}
use Rattle.propagate.specs.Rebases.{second_pass_solution, second_by}
use Rattle.propagate.specs.Rebases.{second_pass, number_tied_to, number_tied, form_tied, rebase_tied_equation, equation_found, freed_in_pass}
use Rattle.propagate.specs.Rebases.{position_with_equation}
use Rattle.propagate.specs.Rebases.{third_pass, rebase}
use Rattle.propagate.proofs.Arriving.{forms_equal}
use Rattle.propagate.proofs.Passes.{AllPass, FreePass, AllEquations}
use Rattle.propagate.proofs.Rebased.{rebasing}
use Rattle.propagate.proofs.RebaseSymbols.{Inside, Passes, own_within, rebase_within}

-- ---- as many marks as positions
abbrev AsMany : List Position → List Bool → Type 0
AsMany [] [] = Unit {0}
AsMany [] (b ∷ bs) = ⊥
AsMany (p ∷ ps) [] = ⊥
AsMany (p ∷ ps) (b ∷ bs) = AsMany ps bs

first_many : (v : List (Pos × Nf)) (ps : List Position) (ms : List (Pos × Nf)) → AsMany ps (first_pass v ps ms).free
first_many v [] ms = tt
first_many v (p ∷ ps) ms = by_found (symbol_found v ms p.sort p.pos) (λ ns. first_many v ps ns)
  where
    by_found : (o : Option Pos) → ((ns : List (Pos × Nf)) → AsMany ps (first_pass v ps ns).free)
        → AsMany (p ∷ ps) (first_by o p.sort p.pos ms (λ ns. first_pass v ps ns)).free
    by_found None again = again ms
    by_found (Some x) again = again _

second_many : (v : List (Pos × Nf)) (ps : List Position) (bs : List Bool) (ms : List (Pos × Nf)) (r : RebaseState) → AsMany ps bs
    → second_pass v ps bs ms ≡ Done r → AsMany ps r.free
second_many v [] [] ms r m e = let k : record { free = []; meanings = ms } ≡ r = cc e in subst (λ (z : RebaseState). AsMany [] z.free) k tt
second_many v [] (b ∷ bs) ms r m e = absurd m
second_many v (p ∷ ps) [] ms r m e = absurd m
second_many v (p ∷ ps) (b ∷ bs) ms r m e =
    let s = goes_done (second_pass_solution b v ms p.sort p.pos) (λ o. second_by b o ms (λ ns. second_pass v ps bs ns)) r e in
    by_solution s.middle s.next (λ ns x i. second_many v ps bs ns x m i)
  where
    by_solution : (o : Option Solution) → second_by b o ms (λ ns. second_pass v ps bs ns) ≡ Done r
        → ((ns : List (Pos × Nf)) (x : RebaseState) → second_pass v ps bs ns ≡ Done x → AsMany ps x.free) → AsMany (p ∷ ps) r.free
    by_solution None g again =
        let t = goes_done (second_pass v ps bs ms) (λ h. Done (with_mark b h)) r g in
        let k : with_mark b t.middle ≡ r = cc t.next in
        subst (λ (z : RebaseState). AsMany (p ∷ ps) z.free) k (again ms t.middle t.first)
    by_solution (Some x) g again =
        let t = goes_done (second_pass v ps bs _) (λ h. Done (with_mark true h)) r g in
        let k : with_mark true t.middle ≡ r = cc t.next in
        subst (λ (z : RebaseState). AsMany (p ∷ ps) z.free) k (again _ t.middle t.first)

-- ---- the sort of what is found is the position's

sort_of_value : (v : List (Pos × Nf)) (s : Sort) (p : Pos) → sort_of_form (value_at v s p) ≡ sort_of_terms s
sort_of_value v sort.Scalar p = refl
sort_of_value v sort.Array p = refl
sort_of_value v sort.Port p = refl

substituted_sort : (ms : List (Pos × Nf)) (f g : Nf) → form_substituted ms f ≡ Done g → sort_of_form g ≡ sort_of_form f
substituted_sort ms (Num p) g e = let s = goes_done (polynomial_substituted ms p) (λ q. Done (Num q)) g e in let k : Num s.middle ≡ g = cc s.next in
    sym (ap sort_of_form k)
substituted_sort ms (Arr a) g e = let s = goes_done (array_substituted ms a) (λ q. Done (Arr q)) g e in let k : Arr s.middle ≡ g = cc s.next in
    sym (ap sort_of_form k)
substituted_sort ms (Seq l) g e = let s = goes_done (list_substituted ms l) (λ q. Done (Seq q)) g e in let k : Seq s.middle ≡ g = cc s.next in
    sym (ap sort_of_form k)

-- each position of the fact passes where those of the list do
abbrev pub RowsPass : (Sort → Pos → Type 0) → List FactPosition → Type 0
RowsPass Q [] = Unit {0}
RowsPass Q (r ∷ rs) = Q r.sort r.pos × RowsPass Q rs

free_pass : (Q : Sort → Pos → Type 0) (rs : List FactPosition) → RowsPass Q rs → FreePass Q rs
free_pass Q [] h = tt
free_pass Q (r ∷ rs) h = ((λ e. h.0), free_pass Q rs h.1)

pub forms_within : (test : Pos × TermSort → Bool) (rs : List FactPosition) → RowsPass (Passes test) rs → AllEquations (Inside test) rs
    → list_all (λ e. form_within test e.1) (vector_of rs) ≡ true
forms_within test [] h g = refl
forms_within test (r ∷ rs) h g = and_from _ _ (one r.sort r.pos r.equation h.0 g.0) (forms_within test rs h.1 g.1)
  where
    one : (s : Sort) (p : Pos) (o : Option Nf) → Passes test s p → Inside test p o → form_within test (form_or_symbol s p o) ≡ true
    one s p None i j = own_within test s p i
    one s p (Some f) i j = j

module _ (v ms : List (Pos × Nf)) where
  number_sort : (t : Polynomial) (qs : List Position) (x : Nf) → number_tied v ms t qs ≡ Done (Some x) → sort_of_form x ≡ term.Scalar
  number_sort t [] x e = absurd (cc e)
  number_sort t (q ∷ qs) x e = by_sort q.sort q.pos e (λ g. number_sort t qs x g)
    where
      by_sort : (s : Sort) (q : Pos) → number_tied_to v ms t s q (number_tied v ms t qs) ≡ Done (Some x)
          → (number_tied v ms t qs ≡ Done (Some x) → sort_of_form x ≡ term.Scalar) → sort_of_form x ≡ term.Scalar
      by_sort sort.Array q g next = next g
      by_sort sort.Port q g next = next g
      by_sort sort.Scalar q g next =
          let s = goes_done (normal_difference t (number_at v q))
          (λ d. cond (number_held ms d) (after (polynomial_substituted ms d) (λ c. after (normal_sum (polynomial_of_symbol q) c) (λ r. Done (Some (Num r)))))
          (number_tied v ms t qs)) (Some x) g in
          by_test s.middle (number_held ms s.middle) s.next
        where
          by_test : (d : Polynomial) (b : Bool)
              → cond {A = Computed (Option Nf)} b
              (after (polynomial_substituted ms d) (λ c. after (normal_sum (polynomial_of_symbol q) c) (λ r. Done (Some (Num r)))))
              (number_tied v ms t qs) ≡ Done (Some x) → sort_of_form x ≡ term.Scalar
          by_test d true k =
              let a = goes_done (polynomial_substituted ms d) (λ c. after (normal_sum (polynomial_of_symbol q) c) (λ r. Done (Some (Num r)))) (Some x) k in
              let b = goes_done (normal_sum (polynomial_of_symbol q) a.middle) (λ r. Done (Some (Num r))) (Some x) a.next in
              let l : Num b.middle ≡ x = cc b.next in
              sym (ap sort_of_form l)
          by_test d false k = next k

  form_sort : (t : Nf) (qs : List Position) (x : Nf) → form_tied v t qs ≡ Some x → sort_of_form x ≡ sort_of_form t
  form_sort t [] x e = absurd (cc e)
  form_sort t (q ∷ qs) x e = by_test (same_form t (value_at v q.sort q.pos)) refl e (λ g. form_sort t qs x g)
    where
      by_test : (b : Bool) → same_form t (value_at v q.sort q.pos) ≡ b → cond b (Some (own_symbol q.sort q.pos)) (form_tied v t qs) ≡ Some x
          → (form_tied v t qs ≡ Some x → sort_of_form x ≡ sort_of_form t) → sort_of_form x ≡ sort_of_form t
      by_test true i g next =
          let k : own_symbol q.sort q.pos ≡ x = cc g in
          sym (ap sort_of_form k) ∙ own_sort_of q.sort q.pos ∙ sym (sort_of_value v q.sort q.pos)
          ∙ sym (ap sort_of_form (forms_equal t (value_at v q.sort q.pos) i))
      by_test false i g next = next g

  tied_sort : (t : Nf) (qs : List Position) (x : Nf) → rebase_tied_equation v ms t qs ≡ Done (Some x) → sort_of_form x ≡ sort_of_form t
  tied_sort (Num p) qs x e = number_sort p qs x e
  tied_sort (Arr a) qs x e = form_sort (Arr a) qs x (let k : form_tied v (Arr a) qs ≡ Some x = cc e in k)
  tied_sort (Seq l) qs x e = form_sort (Seq l) qs x (let k : form_tied v (Seq l) qs ≡ Some x = cc e in k)

  found_sort : (s : Sort) (p : Pos) (qs : List Position) (o : Option Nf) → equation_found v ms (value_at v s p) qs ≡ Done o
      → sort_of_form (form_or_symbol s p o) ≡ sort_of_terms s
  found_sort s p qs None e = own_sort_of s p
  found_sort s p qs (Some x) e = by_test (form_held ms (value_at v s p)) e ∙ sort_of_value v s p
    where
      by_test : (b : Bool) → cond {A = Computed (Option Nf)} b (after (form_substituted ms (value_at v s p)) (λ r. Done (Some r)))
          (rebase_tied_equation v ms (value_at v s p) qs) ≡ Done (Some x) → sort_of_form x ≡ sort_of_form (value_at v s p)
      by_test true g =
          let a = goes_done (form_substituted ms (value_at v s p)) (λ r. Done (Some r)) (Some x) g in
          let k : a.middle ≡ x = cc a.next in
          substituted_sort ms (value_at v s p) x (a.first ∙ ap Done k)
      by_test false g = tied_sort (value_at v s p) qs x g

  -- ---- the rows of the fact are those of the positions
  abbrev Rows : List Position → List FactPosition → Type 0
  Rows [] [] = Unit {0}
  Rows [] (r ∷ rs) = ⊥
  Rows (p ∷ ps) [] = ⊥
  Rows (p ∷ ps) (r ∷ rs) = ((r.pos ≡ p.pos) × (r.sort ≡ p.sort) × (sort_of_form (form_or_symbol r.sort r.pos r.equation) ≡ sort_of_terms p.sort)) × Rows ps rs

  third_rows : (ps : List Position) (bs : List Bool) (qs : List Position) (rs : List FactPosition) → AsMany ps bs
      → third_pass v ms ps bs qs ≡ Done rs → Rows ps rs
  third_rows [] [] qs rs m e = let k : [] ≡ rs = cc e in subst (Rows []) k tt
  third_rows [] (b ∷ bs) qs rs m e = absurd m
  third_rows (p ∷ ps) [] qs rs m e = absurd m
  third_rows (p ∷ ps) (true ∷ bs) qs rs m e =
      let s = goes_done (third_pass v ms ps bs qs) (λ rest. Done (position_with_equation p None ∷ rest)) rs e in
      let k : position_with_equation p None ∷ s.middle ≡ rs = cc s.next in
      subst (Rows (p ∷ ps)) k ((refl, refl, own_sort_of p.sort p.pos), third_rows ps bs qs s.middle m s.first)
  third_rows (p ∷ ps) (false ∷ bs) qs rs m e =
      let s = goes_done (equation_found v ms (value_at v p.sort p.pos) qs)
      (λ o. after (third_pass v ms ps bs (freed_in_pass p o qs)) (λ rest. Done (position_with_equation p o ∷ rest))) rs e in
      let t = goes_done (third_pass v ms ps bs (freed_in_pass p s.middle qs)) (λ rest. Done (position_with_equation p s.middle ∷ rest)) rs s.next in
      let k : position_with_equation p s.middle ∷ t.middle ≡ rs = cc t.next in
      subst (Rows (p ∷ ps)) k ((refl, refl, found_sort p.sort p.pos qs s.middle s.first), third_rows ps bs (freed_in_pass p s.middle qs) t.middle m t.first)

  rows_sorts : (ps : List Position) (rs : List FactPosition) → Rows ps rs → map (λ q. q.sort) rs ≡ map (λ p. p.sort) ps
  rows_sorts [] [] h = refl
  rows_sorts [] (r ∷ rs) h = absurd h
  rows_sorts (p ∷ ps) [] h = absurd h
  rows_sorts (p ∷ ps) (r ∷ rs) h = ap₂ (λ x y. x ∷ y) h.0.1 (rows_sorts ps rs h.1)

  rows_positions : (ps : List Position) (rs : List FactPosition) → Rows ps rs → map (λ e. e.0) (vector_of rs) ≡ map (λ p. p.pos) ps
  rows_positions [] [] h = refl
  rows_positions [] (r ∷ rs) h = absurd h
  rows_positions (p ∷ ps) [] h = absurd h
  rows_positions (p ∷ ps) (r ∷ rs) h = ap₂ (λ x y. x ∷ y) h.0.0 (rows_positions ps rs h.1)

  rows_forms : (ps : List Position) (rs : List FactPosition) → Rows ps rs → map (λ e. sort_of_form e.1) (vector_of rs) ≡ map (λ p. sort_of_terms p.sort) ps
  rows_forms [] [] h = refl
  rows_forms [] (r ∷ rs) h = absurd h
  rows_forms (p ∷ ps) [] h = absurd h
  rows_forms (p ∷ ps) (r ∷ rs) h = ap₂ (λ x y. x ∷ y) h.0.2 (rows_forms ps rs h.1)

  rows_pass : (Q : Sort → Pos → Type 0) (ps : List Position) (rs : List FactPosition) → Rows ps rs → AllPass Q ps → RowsPass Q rs
  rows_pass Q [] [] h g = tt
  rows_pass Q [] (r ∷ rs) h g = absurd h
  rows_pass Q (p ∷ ps) [] h g = absurd h
  rows_pass Q (p ∷ ps) (r ∷ rs) h g = (subst (Q r.sort) (sym h.0.0) (subst (λ s. Q s p.pos) (sym h.0.1) g.0), rows_pass Q ps rs h.1 g.1)

pub listed : (whole qs : List Position) → ((x : Pos × TermSort) → is_position qs x ≡ true → is_position whole x ≡ true)
    → AllPass (Passes (is_position whole)) qs
listed whole [] h = tt
listed whole (q ∷ qs) h = (
  h (q.pos, sort_of_terms q.sort) (ap₂ (λ x y. (x && y) || is_position qs (q.pos, sort_of_terms q.sort)) (own_pos q.pos) (own_sort (sort_of_terms q.sort))),
  listed whole qs (λ x i. h x (or_right (same_pos q.pos x.0 && same_term_sort (sort_of_terms q.sort) x.1) (is_position qs x) i)),
)

pub rebase_paired : (post : Post) (ps : List Position) (f : Fact) → rebase post ps ≡ Done f → IsFactOf ps f
rebase_paired post ps f e =
    let v = post.vector in
    let r = rebasing post ps f e in
    let ms = r.held.meanings in
    let many = second_many v ps (first_pass v ps []).free (first_pass v ps []).meanings r.held (first_many v ps []) r.second in
    let rows = subst (λ (z : Fact). Rows v ms ps z.positions) r.whole (third_rows v ms ps r.held.free [] r.positions many r.third) in
    let pass = rows_pass v ms (Passes (is_position ps)) ps f.positions rows (listed ps ps (λ x i. i)) in
    let inside = rebase_within (is_position ps) post ps f e (free_pass (Passes (is_position ps)) f.positions pass) in
    record {
      sorts = rows_sorts v ms ps f.positions rows;
      vector = record {
        positions = rows_positions v ms ps f.positions rows;
        sorts = rows_forms v ms ps f.positions rows;
        symbols = forms_within (is_position ps) f.positions pass inside.0;
      };
      literals = inside.1;
    }
