-- What a rebase and a join make rises.
use Rattle.std.proofs.Common.{◌≡◌, ℕ, ◌+◌, cond, Bool, true, false, refl, sym, subst, ◌∙◌, List, [], ◌∷◌, take, Option, Some, None, map}
use Rattle.std.specs.Prelude.{◌&&◌}
use Rattle.fs_model.specs.declared.parts.Role.{Role}
use Rattle.fs_model.specs.declared.parts.Role.TheVariants.{Input, Output, Local}
use Rattle.fs_model.specs.declared.parts.Sort.{Sort}
use Rattle.fs_model.specs.declared.parts.Sort.TheVariants as sort
use Rattle.fs_pair.specs.declared.positions.Position.{Position}
use Rattle.nf_trees.specs.NormalTerms.{Polynomial, polynomial_of_symbol, bare_array}
use Rattle.nf_trees.specs.Order.{same_polynomial}
use Rattle.nf_terms.specs.Forms.{same_form, sort_of_form}
use Rattle.nf_trees.specs.Mentions.{same_pos}
use Rattle.nf_terms.specs.Computed.{Computed, Done, after}
use Rattle.nf_terms.specs.declared.symbols.Sort.{Sort as TermSort}
use Rattle.nf_terms.specs.declared.symbols.Sort.TheVariants as term
use Rattle.fs_model.specs.declared.sides.Side.{Side}
use Rattle.fs_model.specs.declared.sides.Side.TheVariants as side
use Rattle.fs_model.specs.declared.sides.Pos.{Pos}
use Rattle.nf_trees.specs.declared.tree.Base.TheVariants as base
use Rattle.nf_terms.specs.declared.form.Nf.{Nf}
use Rattle.nf_terms.specs.declared.form.Nf.TheVariants.{Num, Arr, Seq}
use Rattle.nf_terms.proofs.Computed.{same_Done}
use Rattle.nf_terms.specs.TermSorts.{same_term_sort}
use Rattle.nf_sums.specs.Operations.{normal_sum, normal_difference}
use Rattle.nf_sums.proofs.Values.{goes_done}
use Rattle.nf_substitution.specs.Vectors.{is_entry_at, form_at, with_form, number_or, array_or, number_at}
use Rattle.nf_substitution.specs.Substitution.{polynomial_substituted, array_substituted, list_substituted}
use Rattle.nf_substitution.proofs.Entries.{form_put}
use Rattle.sym_paths.specs.Execution.{Post}
use Rattle.sym_facts.specs.Facts.{FactPosition, Fact, own_symbol, form_or_symbol, vector_of, most_literals}
use Rattle.sym_facts.specs.Entailment.{form_substituted, Missing}
use Rattle.sym_facts.specs.Starts.{zero_of, start_form, partner_in, start_position, start_fact}
use Rattle.search_tables.specs.Rebases.{value_at, number_held, form_held, RebaseState, with_mark, symbol_found, first_by, first_pass, Split, split_off_symbol}
use Rattle.search_tables.specs.Rebases.{less_rest}
use Rattle.search_tables.specs.Rebases.{Solution, solution, second_pass_solution, second_by, second_pass, number_tied_to, number_tied, form_tied}
use Rattle.search_tables.specs.Rebases.{rebase_tied_equation, equation_found}
use Rattle.search_tables.specs.Rebases.{freed_in_pass, position_with_equation, third_pass, with_needed, conditions_over, rebase}
use Rattle.search_tables.specs.Joins as joins
use Rattle.search_tables.specs.Joins.{Freed, symbol_like, is_alike, position_joined, is_among, positions_joined, literals_kept, join}
use Rattle.alike_searches.specs.Risen.{is_risen, is_risen_array, IsRisenVector}
use Rattle.alike_searches.proofs.RisenOperations.{sum_rises, difference_rises}
use Rattle.alike_searches.proofs.RisenSubstitutions.{substituted_rises, array_rises}
use Rattle.alike_searches.specs.RisenFacts.{IsRisenForm, IsRisenEquation, AreRisenPositions, IsRisenFact}

own_rises : (s : Sort) (p : Pos) → IsRisenForm (own_symbol s p)
own_rises sort.Scalar p = refl
own_rises sort.Array p = refl
own_rises sort.Port p = tt

-- ---- vectors

-- each form of a vector rises
pub record AllRise (ms : List (Pos × Nf)) : Type 0 where
  pub at : (s : TermSort) (q : Pos) (f : Nf) → form_at s q ms ≡ Some f → IsRisenForm f

none_rise : AllRise []
none_rise = record { at = λ s q f e. absurd (let c : None ≡ Some f = e in cc c) }

put_rises : (ms : List (Pos × Nf)) (x : Pos) (f : Nf) → AllRise ms → IsRisenForm f → AllRise (with_form x f ms)
put_rises ms x f h r = record { at = λ s q g e. by_test s q g (same_pos q x && same_term_sort s (sort_of_form f)) (sym (form_put ms x q f s) ∙ e) }
  where
    by_test : (s : TermSort) (q : Pos) (g : Nf) (b : Bool) → cond {A = Option Nf} b (Some f) (form_at s q ms) ≡ Some g → IsRisenForm g
    by_test s q g true e = let k : f ≡ g = cc e in subst IsRisenForm k r
    by_test s q g false e = h.at s q g e

vector_rises : (ms : List (Pos × Nf)) → AllRise ms → IsRisenVector ms
vector_rises ms h = record { numbers = λ p. number_by p (form_at term.Scalar p ms) refl; arrays = λ p. array_by p (form_at term.Array p ms) refl }
  where
    number_by : (p : Pos) (o : Option Nf) → form_at term.Scalar p ms ≡ o → is_risen (number_or (polynomial_of_symbol p) o) ≡ true
    number_by p None e = refl
    number_by p (Some (Num t)) e = h.at term.Scalar p (Num t) e
    number_by p (Some (Arr a)) e = refl
    number_by p (Some (Seq l)) e = refl

    array_by : (p : Pos) (o : Option Nf) → form_at term.Array p ms ≡ o → is_risen_array (array_or (bare_array (base.Sym p)) o) ≡ true
    array_by p None e = refl
    array_by p (Some (Num t)) e = refl
    array_by p (Some (Arr a)) e = h.at term.Array p (Arr a) e
    array_by p (Some (Seq l)) e = refl

equation_rises : (s : Sort) (p : Pos) (o : Option Nf) → IsRisenEquation o → IsRisenForm (form_or_symbol s p o)
equation_rises s p None h = own_rises s p
equation_rises s p (Some f) h = h

fact_forms_rise : (ps : List FactPosition) → AreRisenPositions ps → (s : TermSort) (q : Pos) (f : Nf) → form_at s q (vector_of ps) ≡ Some f → IsRisenForm f
fact_forms_rise [] h s q f e = absurd (let c : None ≡ Some f = e in cc c)
fact_forms_rise (p ∷ ps) h s q f e = by_test (is_entry_at s q (p.pos, form_or_symbol p.sort p.pos p.equation)) e (fact_forms_rise ps h.1 s q f)
  where
    by_test : (b : Bool) → cond {A = Option Nf} b (Some (form_or_symbol p.sort p.pos p.equation)) (form_at s q (vector_of ps)) ≡ Some f
        → (form_at s q (vector_of ps) ≡ Some f → IsRisenForm f) → IsRisenForm f
    by_test true g next = let k : form_or_symbol p.sort p.pos p.equation ≡ f = cc g in subst IsRisenForm k (equation_rises p.sort p.pos p.equation h.0)
    by_test false g next = next g

pub fact_vector_rises : (f : Fact) → IsRisenFact f → IsRisenVector (vector_of f.positions)
fact_vector_rises f h = vector_rises (vector_of f.positions) (record { at = fact_forms_rise f.positions h })

-- ---- the start fact

zero_rises : (s : Sort) → IsRisenForm (zero_of s)
zero_rises sort.Scalar = refl
zero_rises sort.Array = refl
zero_rises sort.Port = tt

start_form_rises : (r : Role) (d : Side) (s : Sort) (o : Option Pos) → IsRisenEquation (start_form r d s o)
start_form_rises Input side.Left s o = tt
start_form_rises Input side.Right s None = tt
start_form_rises Input side.Right s (Some p) = own_rises s p
start_form_rises Output d s o = zero_rises s
start_form_rises Local d s o = zero_rises s

starts_rise : (whole ps : List Position) → AreRisenPositions (map (start_position whole) ps)
starts_rise whole [] = tt
starts_rise whole (p ∷ ps) = (start_form_rises p.role p.pos.side p.sort (partner_in whole p.partner), starts_rise whole ps)

pub start_rises : (ps : List Position) → IsRisenFact (start_fact ps)
start_rises ps = starts_rise ps ps

-- ---- the meanings of a rebase

module _ (v : List (Pos × Nf)) where
  first_rises : (ps : List Position) (ms : List (Pos × Nf)) → AllRise ms → AllRise (first_pass v ps ms).meanings
  first_rises [] ms h = h
  first_rises (p ∷ ps) ms h = by_found (symbol_found v ms p.sort p.pos) (λ ns i. first_rises ps ns i)
    where
      by_found : (o : Option Pos) → ((ns : List (Pos × Nf)) → AllRise ns → AllRise (first_pass v ps ns).meanings)
          → AllRise (first_by o p.sort p.pos ms (λ ns. first_pass v ps ns)).meanings
      by_found None again = again ms h
      by_found (Some x) again = again (with_form x (own_symbol p.sort p.pos) ms) (put_rises ms x (own_symbol p.sort p.pos) h (own_rises p.sort p.pos))

  less_rises : (b : Bool) (p : Pos) (r m : Polynomial) → less_rest b p r ≡ Done m → is_risen m ≡ true
  less_rises true p r m e = difference_rises (polynomial_of_symbol p) r m e
  less_rises false p r m e = difference_rises r (polynomial_of_symbol p) m e

  solution_rises : (ms : List (Pos × Nf)) (p : Pos) (o : Option Split) (x : Solution) → solution ms p o ≡ Done (Some x) → is_risen x.meaning ≡ true
  solution_rises ms p None x e = absurd (let c : None ≡ Some x = same_Done None (Some x) e in cc c)
  solution_rises ms p (Some y) x e = by_test (number_held ms y.rest) e
    where
      by_test :
          (b : Bool) → cond {A = Computed (Option Solution)} b
          (after (polynomial_substituted ms y.rest) (λ r. after (less_rest y.positive p r) (λ t. Done (Some (record { symbol = y.symbol; meaning = t })))))
          (Done None)
          ≡ Done (Some x) → is_risen x.meaning ≡ true
      by_test true k =
          let a = goes_done (polynomial_substituted ms y.rest)
          (λ r. after (less_rest y.positive p r) (λ t. Done (Some (record { symbol = y.symbol; meaning = t })))) (Some x) k in
          let b = goes_done (less_rest y.positive p a.middle) (λ t. Done (Some (record { symbol = y.symbol; meaning = t }))) (Some x) a.next in
          let s : Some (record { symbol = y.symbol; meaning = b.middle }) ≡ Some x =
          same_Done (Some (record { symbol = y.symbol; meaning = b.middle })) (Some x) b.next in
          let c : record { symbol = y.symbol; meaning = b.middle } ≡ x = cc s in
          subst (λ (z : Solution). is_risen z.meaning ≡ true) c (less_rises y.positive p a.middle b.middle b.first)
      by_test false k = absurd (let c : None ≡ Some x = same_Done None (Some x) k in cc c)

  solved_rises : (b : Bool) (ms : List (Pos × Nf)) (s : Sort) (p : Pos) (x : Solution) → second_pass_solution b v ms s p ≡ Done (Some x)
      → is_risen x.meaning ≡ true
  solved_rises true ms s p x e = absurd (let c : None ≡ Some x = same_Done None (Some x) e in cc c)
  solved_rises false ms sort.Scalar p x e = solution_rises ms p (split_off_symbol ms (number_at v p)) x e
  solved_rises false ms sort.Array p x e = absurd (let c : None ≡ Some x = same_Done None (Some x) e in cc c)
  solved_rises false ms sort.Port p x e = absurd (let c : None ≡ Some x = same_Done None (Some x) e in cc c)

  second_rises : (ps : List Position) (bs : List Bool) (ms : List (Pos × Nf)) (h : RebaseState) → AllRise ms → second_pass v ps bs ms ≡ Done h
      → AllRise h.meanings
  second_rises [] bs ms h r e = subst (λ (z : RebaseState). AllRise z.meanings) (same_Done (record { free = []; meanings = ms }) h e) r
  second_rises (p ∷ ps) [] ms h r e = subst (λ (z : RebaseState). AllRise z.meanings) (same_Done (record { free = []; meanings = ms }) h e) r
  second_rises (p ∷ ps) (b ∷ bs) ms h r e =
      let s = goes_done (second_pass_solution b v ms p.sort p.pos) (λ o. second_by b o ms (λ ns. second_pass v ps bs ns)) h e in
      by_solution s.middle s.first s.next (λ ns x i g. second_rises ps bs ns x i g)
    where
      by_solution : (o : Option Solution) → second_pass_solution b v ms p.sort p.pos ≡ Done o → second_by b o ms (λ ns. second_pass v ps bs ns) ≡ Done h
          → ((ns : List (Pos × Nf)) (x : RebaseState) → AllRise ns → second_pass v ps bs ns ≡ Done x → AllRise x.meanings) → AllRise h.meanings
      by_solution None i g again =
          let t = goes_done (second_pass v ps bs ms) (λ h. Done (with_mark b h)) h g in
          subst (λ (z : RebaseState). AllRise z.meanings) (same_Done (with_mark b t.middle) h t.next) (again ms t.middle r t.first)
      by_solution (Some x) i g again =
          let ns = with_form x.symbol (Num x.meaning) ms in
          let t = goes_done (second_pass v ps bs ns) (λ h. Done (with_mark true h)) h g in
          subst (λ (z : RebaseState). AllRise z.meanings) (same_Done (with_mark true t.middle) h t.next)
          (again ns t.middle (put_rises ms x.symbol (Num x.meaning) r (solved_rises b ms p.sort p.pos x i)) t.first)

  -- ---- the equations of a rebase

  module _ (ms : List (Pos × Nf)) (risen : IsRisenVector ms) where
    form_rises : (t r : Nf) → form_substituted ms t ≡ Done r → IsRisenForm r
    form_rises (Num p) r e =
        let s = goes_done (polynomial_substituted ms p) (λ q. Done (Num q)) r e in
        subst IsRisenForm (same_Done (Num s.middle) r s.next) (substituted_rises ms p s.middle s.first)
    form_rises (Arr a) r e =
        let s = goes_done (array_substituted ms a) (λ b. Done (Arr b)) r e in
        subst IsRisenForm (same_Done (Arr s.middle) r s.next) (array_rises ms a s.middle risen s.first)
    form_rises (Seq l) r e =
        let s = goes_done (list_substituted ms l) (λ m. Done (Seq m)) r e in
        subst IsRisenForm (same_Done (Seq s.middle) r s.next) tt

    number_to_rises : (t : Polynomial) (s : Sort) (q : Pos) (l : Computed (Option Nf)) (o : Option Nf) → (l ≡ Done o → IsRisenEquation o)
        → number_tied_to v ms t s q l ≡ Done o → IsRisenEquation o
    number_to_rises t sort.Scalar q l o next e =
        let a = goes_done (normal_difference t (number_at v q))
        (λ d. cond (number_held ms d) (after (polynomial_substituted ms d) (λ e. after (normal_sum (polynomial_of_symbol q) e) (λ r. Done (Some (Num r))))) l) o
        e in
        by_test a.middle (number_held ms a.middle) a.next
      where
        by_test : (d : Polynomial) (b : Bool)
            → cond {A = Computed (Option Nf)} b
            (after (polynomial_substituted ms d) (λ e. after (normal_sum (polynomial_of_symbol q) e) (λ r. Done (Some (Num r))))) l ≡ Done o
            → IsRisenEquation o
        by_test d true k =
            let x = goes_done (polynomial_substituted ms d) (λ e. after (normal_sum (polynomial_of_symbol q) e) (λ r. Done (Some (Num r)))) o k in
            let y = goes_done (normal_sum (polynomial_of_symbol q) x.middle) (λ r. Done (Some (Num r))) o x.next in
            subst IsRisenEquation (same_Done (Some (Num y.middle)) o y.next) (sum_rises (polynomial_of_symbol q) x.middle y.middle y.first)
        by_test d false k = next k
    number_to_rises t sort.Array q l o next e = next e
    number_to_rises t sort.Port q l o next e = next e

    number_tied_rises : (t : Polynomial) (qs : List Position) (o : Option Nf) → number_tied v ms t qs ≡ Done o → IsRisenEquation o
    number_tied_rises t [] o e = subst IsRisenEquation (same_Done None o e) tt
    number_tied_rises t (q ∷ qs) o e = number_to_rises t q.sort q.pos (number_tied v ms t qs) o (λ g. number_tied_rises t qs o g) e

    form_tied_rises : (t : Nf) (qs : List Position) → IsRisenEquation (form_tied v t qs)
    form_tied_rises t [] = tt
    form_tied_rises t (q ∷ qs) = by_test (same_form t (value_at v q.sort q.pos)) (form_tied_rises t qs)
      where
        by_test : (b : Bool) → IsRisenEquation (form_tied v t qs) → IsRisenEquation (cond b (Some (own_symbol q.sort q.pos)) (form_tied v t qs))
        by_test true next = own_rises q.sort q.pos
        by_test false next = next

    tied_rises : (t : Nf) (qs : List Position) (o : Option Nf) → rebase_tied_equation v ms t qs ≡ Done o → IsRisenEquation o
    tied_rises (Num t) qs o e = number_tied_rises t qs o e
    tied_rises (Arr a) qs o e = subst IsRisenEquation (same_Done (form_tied v (Arr a) qs) o e) (form_tied_rises (Arr a) qs)
    tied_rises (Seq l) qs o e = subst IsRisenEquation (same_Done (form_tied v (Seq l) qs) o e) (form_tied_rises (Seq l) qs)

    found_rises : (t : Nf) (qs : List Position) (o : Option Nf) → equation_found v ms t qs ≡ Done o → IsRisenEquation o
    found_rises t qs o e = by_test (form_held ms t) e
      where
        by_test : (b : Bool) → cond {A = Computed (Option Nf)} b (after (form_substituted ms t) (λ r. Done (Some r))) (rebase_tied_equation v ms t qs) ≡ Done o
            → IsRisenEquation o
        by_test true k =
            let s = goes_done (form_substituted ms t) (λ r. Done (Some r)) o k in
            subst IsRisenEquation (same_Done (Some s.middle) o s.next) (form_rises t s.middle s.first)
        by_test false k = tied_rises t qs o k

    third_rises : (ps : List Position) (bs : List Bool) (qs : List Position) (rs : List FactPosition) → third_pass v ms ps bs qs ≡ Done rs
        → AreRisenPositions rs
    third_rises [] bs qs rs e = subst AreRisenPositions (same_Done [] rs e) tt
    third_rises (p ∷ ps) [] qs rs e = subst AreRisenPositions (same_Done [] rs e) tt
    third_rises (p ∷ ps) (true ∷ bs) qs rs e =
        let s = goes_done (third_pass v ms ps bs qs) (λ rest. Done (position_with_equation p None ∷ rest)) rs e in
        subst AreRisenPositions (same_Done (position_with_equation p None ∷ s.middle) rs s.next) (tt, third_rises ps bs qs s.middle s.first)
    third_rises (p ∷ ps) (false ∷ bs) qs rs e =
        let s = goes_done (equation_found v ms (value_at v p.sort p.pos) qs)
        (λ o. after (third_pass v ms ps bs (freed_in_pass p o qs)) (λ rest. Done (position_with_equation p o ∷ rest))) rs e in
        let t = goes_done (third_pass v ms ps bs (freed_in_pass p s.middle qs)) (λ rest. Done (position_with_equation p s.middle ∷ rest)) rs s.next in
        subst AreRisenPositions (same_Done (position_with_equation p s.middle ∷ t.middle) rs t.next)
        (found_rises (value_at v p.sort p.pos) qs s.middle s.first, third_rises ps bs (freed_in_pass p s.middle qs) t.middle t.first)

pub rebase_rises : (post : Post) (ps : List Position) (f : Fact) → rebase post ps ≡ Done f → IsRisenFact f
rebase_rises post ps f g =
    let first = first_pass post.vector ps [] in
    let s = goes_done (second_pass post.vector ps first.free first.meanings)
    (λ h. after (third_pass post.vector h.meanings ps h.free [])
    (λ qs. after (conditions_over h.meanings post.conditions) (λ ls. Done (record { positions = qs; literals = take most_literals (with_needed [] ls) })))) f g
    in
    let t = goes_done (third_pass post.vector s.middle.meanings ps s.middle.free [])
    (λ qs. after (conditions_over s.middle.meanings post.conditions)
    (λ ls. Done (record { positions = qs; literals = take most_literals (with_needed [] ls) }))) f s.next in
    let u = goes_done (conditions_over s.middle.meanings post.conditions)
    (λ ls. Done (record { positions = t.middle; literals = take most_literals (with_needed [] ls) })) f t.next in
    let risen = vector_rises s.middle.meanings
    (second_rises post.vector ps first.free first.meanings s.middle (first_rises post.vector ps [] none_rise) s.first) in
    subst IsRisenFact (same_Done (record { positions = t.middle; literals = take most_literals (with_needed [] u.middle) }) f u.next)
    (third_rises post.vector s.middle.meanings risen ps s.middle.free [] t.middle t.first)

-- ---- the equations of a join

like_rises : (p : Pos) (t : Nf) → IsRisenForm (symbol_like p t)
like_rises p (Num t) = refl
like_rises p (Arr a) = refl
like_rises p (Seq l) = tt

module _ (v : List (Pos × Nf)) where
  join_to_rises : (p : Pos) (t : Polynomial) (q : Pos) (x : Nf) (l : Computed (Option Nf)) (o : Option Nf) → (l ≡ Done o → IsRisenEquation o)
      → joins.number_tied_to v p t q x l ≡ Done o → IsRisenEquation o
  join_to_rises p t q (Num u) l o next e =
      let a = goes_done (normal_difference t u)
      (λ d. after (normal_difference (number_at v p) (number_at v q))
      (λ c. after (polynomial_substituted v d) (λ s. cond (same_polynomial c s) (after (normal_sum (polynomial_of_symbol q) d) (λ r. Done (Some (Num r)))) l)))
      o e in
      let b = goes_done (normal_difference (number_at v p) (number_at v q))
      (λ c. after (polynomial_substituted v a.middle)
      (λ s. cond (same_polynomial c s) (after (normal_sum (polynomial_of_symbol q) a.middle) (λ r. Done (Some (Num r)))) l)) o
      a.next in
      let c = goes_done (polynomial_substituted v a.middle)
      (λ s. cond (same_polynomial b.middle s) (after (normal_sum (polynomial_of_symbol q) a.middle) (λ r. Done (Some (Num r)))) l) o b.next in
      by_test a.middle (same_polynomial b.middle c.middle) c.next
    where
      by_test : (d : Polynomial) (z : Bool)
          → cond {A = Computed (Option Nf)} z (after (normal_sum (polynomial_of_symbol q) d) (λ r. Done (Some (Num r)))) l ≡ Done o
          → IsRisenEquation o
      by_test d true k =
          let y = goes_done (normal_sum (polynomial_of_symbol q) d) (λ r. Done (Some (Num r))) o k in
          subst IsRisenEquation (same_Done (Some (Num y.middle)) o y.next) (sum_rises (polynomial_of_symbol q) d y.middle y.first)
      by_test d false k = next k
  join_to_rises p t q (Arr a) l o next e = next e
  join_to_rises p t q (Seq x) l o next e = next e

  join_number_rises : (p : Pos) (t : Polynomial) (fs : List Freed) (o : Option Nf) → joins.number_tied v p t fs ≡ Done o → IsRisenEquation o
  join_number_rises p t [] o e = subst IsRisenEquation (same_Done None o e) tt
  join_number_rises p t (f ∷ fs) o e = join_to_rises p t f.pos f.old (joins.number_tied v p t fs) o (λ g. join_number_rises p t fs o g) e

  join_form_rises : (p : Pos) (t : Nf) (fs : List Freed) → IsRisenEquation (joins.form_tied v p t fs)
  join_form_rises p t [] = tt
  join_form_rises p t (f ∷ fs) = by_test (is_alike v p t f) (join_form_rises p t fs)
    where
      by_test : (b : Bool) → IsRisenEquation (joins.form_tied v p t fs) → IsRisenEquation (cond b (Some (symbol_like f.pos t)) (joins.form_tied v p t fs))
      by_test true next = like_rises f.pos t
      by_test false next = next

  join_tied_rises : (p : Pos) (t : Nf) (fs : List Freed) (o : Option Nf) → joins.tied_equation v p t fs ≡ Done o → IsRisenEquation o
  join_tied_rises p (Num t) fs o e = join_number_rises p t fs o e
  join_tied_rises p (Arr a) fs o e = subst IsRisenEquation (same_Done (joins.form_tied v p (Arr a) fs) o e) (join_form_rises p (Arr a) fs)
  join_tied_rises p (Seq l) fs o e = subst IsRisenEquation (same_Done (joins.form_tied v p (Seq l) fs) o e) (join_form_rises p (Seq l) fs)

  position_rises : (b : Bool) (p : FactPosition) (x : Option Nf) → IsRisenEquation p.equation
      → (fs : List Freed) (later : List Freed → Computed (List FactPosition))
      → ((gs : List Freed) (rs : List FactPosition) → later gs ≡ Done rs → AreRisenPositions rs) → (qs : List FactPosition)
      → position_joined v b p x fs later ≡ Done qs → AreRisenPositions qs
  position_rises false p x h fs later next qs e =
      let s = goes_done (later fs) (λ rest. Done (p ∷ rest)) qs e in
      subst AreRisenPositions (same_Done (p ∷ s.middle) qs s.next) (h, next fs s.middle s.first)
  position_rises true p None h fs later next qs e =
      let s = goes_done (later fs) (λ rest. Done (p ∷ rest)) qs e in
      subst AreRisenPositions (same_Done (p ∷ s.middle) qs s.next) (h, next fs s.middle s.first)
  position_rises true p (Some t) h fs later next qs e =
      let s = goes_done (joins.tied_equation v p.pos t fs)
      (λ r. after (later (joins.freed_with p.pos t r fs)) (λ rest. Done (joins.with_equation p r ∷ rest))) qs e in
      let u = goes_done (later (joins.freed_with p.pos t s.middle fs)) (λ rest. Done (joins.with_equation p s.middle ∷ rest)) qs s.next in
      subst AreRisenPositions (same_Done (joins.with_equation p s.middle ∷ u.middle) qs u.next)
      (join_tied_rises p.pos t fs s.middle s.first, next (joins.freed_with p.pos t s.middle fs) u.middle u.first)

  positions_rise : (k : ℕ) (missing : List ℕ) (fs : List Freed) (ps qs : List FactPosition) → AreRisenPositions ps
      → positions_joined v k missing fs ps ≡ Done qs → AreRisenPositions qs
  positions_rise k missing fs [] qs h e = subst AreRisenPositions (same_Done [] qs e) tt
  positions_rise k missing fs (p ∷ ps) qs h e =
      position_rises (is_among k missing) p p.equation h.0 fs (λ gs. positions_joined v (k + 1) missing gs ps)
      (λ gs rs g. positions_rise (k + 1) missing gs ps rs h.1 g) qs e

pub join_rises : (old new : Fact) (post : Post) (missing : Missing) → IsRisenFact old → join old post missing ≡ Done new → IsRisenFact new
join_rises old new post missing h e =
    let s = goes_done (positions_joined post.vector 0 missing.equations [] old.positions)
    (λ ps. Done (record { positions = ps; literals = literals_kept 0 missing.literals old.literals })) new e in
    subst IsRisenFact (same_Done (record { positions = s.middle; literals = literals_kept 0 missing.literals old.literals }) new s.next)
    (positions_rise post.vector 0 missing.equations [] old.positions s.middle h s.first)
