-- What holds of all new meanings and of all equations that the passes of a rebase make.
use Rattle.std.proofs.Common.{◌≡◌, Bool, true, false, cond, refl, sym, subst, ◌∙◌, List, [], ◌∷◌, ◌++◌, Option, Some, None}
use Rattle.std.specs.Prelude.{◌&&◌}
use Rattle.fs_model.proofs.Booleans.{and_first, and_second}
use Rattle.fs_model.specs.declared.parts.Sort.{Sort}
use Rattle.fs_model.specs.declared.parts.Sort.TheVariants as sort
use Rattle.fs_pair.specs.declared.positions.Position.{Position}
use Rattle.nf_terms.specs.Forms.{sort_of_form}
use Rattle.nf_trees.specs.Mentions.{same_pos}
use Rattle.nf_terms.specs.Computed.{Done, after}
use Rattle.nf_terms.specs.declared.symbols.Sort.{Sort as TermSort}
use Rattle.fs_model.specs.declared.sides.Pos.{Pos}
use Rattle.nf_terms.specs.declared.form.Nf.{Nf}
use Rattle.nf_terms.specs.declared.form.Nf.TheVariants.{Num}
use Rattle.nf_sums.proofs.Values.{goes_done}
use Rattle.nf_substitution.specs.Vectors.{is_entry_at, form_at, with_form}
use Rattle.nf_substitution.specs.SamePlaces.{pos_equal}
use Rattle.nf_substitution.proofs.Entries.{form_put}
use Rattle.nf_terms.specs.TermMeaning.{Valuation}
use Rattle.nf_terms.specs.TermSorts.{same_term_sort}
use Rattle.sym_facts.specs.Facts.{FactPosition, EquationHolds, EquationsHold, sort_of_terms, own_symbol}
use Rattle.propagate.specs.Rebases.{value_at, is_held, bare_symbol, RebaseState, with_mark, unheld_symbol, symbol_found, first_by, first_pass, Solution}
use Rattle.propagate.specs.Rebases.{second_pass_solution}
use Rattle.propagate.specs.Rebases.{second_by, second_pass, equation_found, freed_in_pass, position_with_equation, third_pass}

-- each form of a vector passes, with the position at which it stands
pub record AllForms (P : Pos → Nf → Type 0) (ms : List (Pos × Nf)) : Type 0 where
  pub at : (s : TermSort) (q : Pos) (f : Nf) → form_at s q ms ≡ Some f → P q f

pub none_all : (P : Pos → Nf → Type 0) → AllForms P []
none_all P = record { at = λ s q f e. absurd (cc e) }

pub put_all : (P : Pos → Nf → Type 0) (ms : List (Pos × Nf)) (x : Pos) (f : Nf) → AllForms P ms → P x f → AllForms P (with_form x f ms)
put_all P ms x f h p = record { at = λ s q g e. by_test s q g (same_pos q x && same_term_sort s (sort_of_form f)) refl (sym (form_put ms x q f s) ∙ e) }
  where
    by_test : (s : TermSort) (q : Pos) (g : Nf) (b : Bool) → same_pos q x && same_term_sort s (sort_of_form f) ≡ b
        → cond b (Some f) (form_at s q ms) ≡ Some g → P q g
    by_test s q g true i e =
        let k : f ≡ g = cc e in
        let j : q ≡ x = pos_equal q x (and_first (same_pos q x) (same_term_sort s (sort_of_form f)) i) in
        subst (P q) k (subst (λ z. P z f) (sym j) p)
    by_test s q g false i e = h.at s q g e

-- what is found for a sort is of the sort
pub sort_found : (s : TermSort) (q : Pos) (ms : List (Pos × Nf)) (f : Nf) → form_at s q ms ≡ Some f → same_term_sort s (sort_of_form f) ≡ true
sort_found s q [] f e = absurd (cc e)
sort_found s q (m ∷ ms) f e = by_test (is_entry_at s q m) refl e (λ g. sort_found s q ms f g)
  where
    by_test : (b : Bool) → is_entry_at s q m ≡ b → cond b (Some m.1) (form_at s q ms) ≡ Some f
        → (form_at s q ms ≡ Some f → same_term_sort s (sort_of_form f) ≡ true)
        → same_term_sort s (sort_of_form f) ≡ true
    by_test true i g next =
        let k : m.1 ≡ f = cc g in
        subst (λ z. same_term_sort s (sort_of_form z) ≡ true) k (and_second (same_pos q m.0) (same_term_sort s (sort_of_form m.1)) i)
    by_test false i g next = next g

-- each position that is marked as free passes
abbrev pub Marked : (Sort → Pos → Type 0) → List Position → List Bool → Type 0
Marked Q [] bs = Unit {0}
Marked Q (p ∷ ps) [] = Unit {0}
Marked Q (p ∷ ps) (b ∷ bs) = (b ≡ true → Q p.sort p.pos) × Marked Q ps bs

-- each position passes
abbrev pub AllPass : (Sort → Pos → Type 0) → List Position → Type 0
AllPass Q [] = Unit {0}
AllPass Q (p ∷ ps) = Q p.sort p.pos × AllPass Q ps

-- each position of a fact that is free passes
abbrev pub FreePass : (Sort → Pos → Type 0) → List FactPosition → Type 0
FreePass Q [] = Unit {0}
FreePass Q (p ∷ ps) = (p.equation ≡ None → Q p.sort p.pos) × FreePass Q ps

-- each position of a fact passes with its equation
abbrev pub AllEquations : (Pos → Option Nf → Type 0) → List FactPosition → Type 0
AllEquations E [] = Unit {0}
AllEquations E (p ∷ ps) = E p.pos p.equation × AllEquations E ps

all_pass_with_last : (Q : Sort → Pos → Type 0) (qs : List Position) (p : Position) → AllPass Q qs → Q p.sort p.pos → AllPass Q (qs ++ p ∷ [])
all_pass_with_last Q [] p h g = (g, tt)
all_pass_with_last Q (q ∷ qs) p h g = (h.0, all_pass_with_last Q qs p h.1 g)

unheld_is : (ms : List (Pos × Nf)) (s : TermSort) (o : Option Pos) (x : Pos) → unheld_symbol ms s o ≡ Some x → o ≡ Some x
unheld_is ms s None x e = e
unheld_is ms s (Some y) x e = by_test (is_held ms (y, s)) e
  where
    by_test : (b : Bool) → cond b None (Some y) ≡ Some x → Some y ≡ Some x
    by_test true g = absurd (cc g)
    by_test false g = g

-- P is to hold of the new meanings, and Q holds of the positions that are freed
module _ (v : List (Pos × Nf)) (P : Pos → Nf → Type 0) (Q : Sort → Pos → Type 0)
    (bare : (s : Sort) (p x : Pos) → Q s p → bare_symbol (value_at v s p) ≡ Some x → P x (own_symbol s p))
    (split_off : (ms : List (Pos × Nf)) (p : Pos) (x : Solution) → Q sort.Scalar p → AllForms P ms
    → second_pass_solution false v ms sort.Scalar p ≡ Done (Some x)
    → P x.symbol (Num x.meaning)) where
  pub first_all : (ps : List Position) (ms : List (Pos × Nf)) → AllForms P ms → Marked Q ps (first_pass v ps ms).free → AllForms P (first_pass v ps ms).meanings
  first_all [] ms h m = h
  first_all (p ∷ ps) ms h m = by_found (symbol_found v ms p.sort p.pos) refl m (λ ns i j. first_all ps ns i j)
    where
      by_found : (o : Option Pos) → symbol_found v ms p.sort p.pos ≡ o → Marked Q (p ∷ ps) (first_by o p.sort p.pos ms (λ ns. first_pass v ps ns)).free
          → ((ns : List (Pos × Nf)) → AllForms P ns → Marked Q ps (first_pass v ps ns).free → AllForms P (first_pass v ps ns).meanings)
          → AllForms P (first_by o p.sort p.pos ms (λ ns. first_pass v ps ns)).meanings
      by_found None e n again = again ms h n.1
      by_found (Some x) e n again =
          again (with_form x (own_symbol p.sort p.pos) ms)
          (put_all P ms x (own_symbol p.sort p.pos) h
          (bare p.sort p.pos x (n.0 refl) (unheld_is ms (sort_of_terms p.sort) (bare_symbol (value_at v p.sort p.pos)) x e))) n.1

  solution_holds : (b : Bool) (ms : List (Pos × Nf)) (s : Sort) (p : Pos) (x : Solution) → Q s p → AllForms P ms
      → second_pass_solution b v ms s p ≡ Done (Some x)
      → P x.symbol (Num x.meaning)
  solution_holds true ms s p x q h e = absurd (cc e)
  solution_holds false ms sort.Scalar p x q h e = split_off ms p x q h e
  solution_holds false ms sort.Array p x q h e = absurd (cc e)
  solution_holds false ms sort.Port p x q h e = absurd (cc e)

  abbrev Second : List Position → List Bool → RebaseState → Type 0
  Second ps bs r = AllForms P r.meanings × Marked Q ps bs

  pub second_all : (ps : List Position) (bs : List Bool) (ms : List (Pos × Nf)) (r : RebaseState) → AllForms P ms → second_pass v ps bs ms ≡ Done r
      → Marked Q ps r.free → Second ps bs r
  second_all [] bs ms r h e m = let k : record { free = []; meanings = ms } ≡ r = cc e in (subst (λ (z : RebaseState). AllForms P z.meanings) k h, tt)
  second_all (p ∷ ps) [] ms r h e m = let k : record { free = []; meanings = ms } ≡ r = cc e in (subst (λ (z : RebaseState). AllForms P z.meanings) k h, tt)
  second_all (p ∷ ps) (b ∷ bs) ms r h e m =
      let s = goes_done (second_pass_solution b v ms p.sort p.pos) (λ o. second_by b o ms (λ ns. second_pass v ps bs ns)) r e in
      by_solution s.middle s.first s.next (λ ns x i g n. second_all ps bs ns x i g n)
    where
      by_solution : (o : Option Solution) → second_pass_solution b v ms p.sort p.pos ≡ Done o → second_by b o ms (λ ns. second_pass v ps bs ns) ≡ Done r
          → ((ns : List (Pos × Nf)) (x : RebaseState) → AllForms P ns → second_pass v ps bs ns ≡ Done x → Marked Q ps x.free → Second ps bs x)
          → Second (p ∷ ps) (b ∷ bs) r
      by_solution None i g again =
          let t = goes_done (second_pass v ps bs ms) (λ h. Done (with_mark b h)) r g in
          let k : with_mark b t.middle ≡ r = cc t.next in
          let n : Marked Q (p ∷ ps) (b ∷ t.middle.free) = subst (λ (z : RebaseState). Marked Q (p ∷ ps) z.free) (sym k) m in
          let a = again ms t.middle h t.first n.1 in
          (subst (λ (z : RebaseState). AllForms P z.meanings) k a.0, (n.0, a.1))
      by_solution (Some x) i g again =
          let ns = with_form x.symbol (Num x.meaning) ms in
          let t = goes_done (second_pass v ps bs ns) (λ h. Done (with_mark true h)) r g in
          let k : with_mark true t.middle ≡ r = cc t.next in
          let n : Marked Q (p ∷ ps) (true ∷ t.middle.free) = subst (λ (z : RebaseState). Marked Q (p ∷ ps) z.free) (sym k) m in
          let a = again ns t.middle (put_all P ms x.symbol (Num x.meaning) h (solution_holds b ms p.sort p.pos x (n.0 refl) h i)) t.first n.1 in
          (subst (λ (z : RebaseState). AllForms P z.meanings) k a.0, ((λ c. n.0 refl), a.1))

-- E is to hold of the equations
module _ (v ms : List (Pos × Nf)) (Q : Sort → Pos → Type 0) (E : Pos → Option Nf → Type 0)
    (found : (s : Sort) (p : Pos) (qs : List Position) (f : Nf) → AllPass Q qs → equation_found v ms (value_at v s p) qs ≡ Done (Some f) → E p (Some f))
    (free : (p : Pos) → E p None) where
  by_finding : (s : Sort) (p : Pos) (qs : List Position) (o : Option Nf) → AllPass Q qs → equation_found v ms (value_at v s p) qs ≡ Done o → E p o
  by_finding s p qs None h e = free p
  by_finding s p qs (Some f) h e = found s p qs f h e

  still_pass : (p : Position) (o : Option Nf) (qs : List Position) → AllPass Q qs → (o ≡ None → Q p.sort p.pos) → AllPass Q (freed_in_pass p o qs)
  still_pass p None qs h g = all_pass_with_last Q qs p h (g refl)
  still_pass p (Some f) qs h g = h

  abbrev Third : List Position → List Bool → List FactPosition → Type 0
  Third ps bs rs = AllEquations E rs × Marked Q ps bs

  pub third_all : (ps : List Position) (bs : List Bool) (qs : List Position) (rs : List FactPosition) → AllPass Q qs → third_pass v ms ps bs qs ≡ Done rs
      → FreePass Q rs → Third ps bs rs
  third_all [] bs qs rs h e m = let k : [] ≡ rs = cc e in (subst (AllEquations E) k tt, tt)
  third_all (p ∷ ps) [] qs rs h e m = let k : [] ≡ rs = cc e in (subst (AllEquations E) k tt, tt)
  third_all (p ∷ ps) (true ∷ bs) qs rs h e m =
      let s = goes_done (third_pass v ms ps bs qs) (λ rest. Done (position_with_equation p None ∷ rest)) rs e in
      let k : position_with_equation p None ∷ s.middle ≡ rs = cc s.next in
      let n : FreePass Q (position_with_equation p None ∷ s.middle) = subst (FreePass Q) (sym k) m in
      let a = third_all ps bs qs s.middle h s.first n.1 in
      (subst (AllEquations E) k (free p.pos, a.0), ((λ c. n.0 refl), a.1))
  third_all (p ∷ ps) (false ∷ bs) qs rs h e m =
      let s = goes_done (equation_found v ms (value_at v p.sort p.pos) qs)
      (λ o. after (third_pass v ms ps bs (freed_in_pass p o qs)) (λ rest. Done (position_with_equation p o ∷ rest))) rs e in
      let t = goes_done (third_pass v ms ps bs (freed_in_pass p s.middle qs)) (λ rest. Done (position_with_equation p s.middle ∷ rest)) rs s.next in
      let k : position_with_equation p s.middle ∷ t.middle ≡ rs = cc t.next in
      let n : FreePass Q (position_with_equation p s.middle ∷ t.middle) = subst (FreePass Q) (sym k) m in
      let a = third_all ps bs (freed_in_pass p s.middle qs) t.middle (still_pass p s.middle qs h n.0) t.first n.1 in
      (subst (AllEquations E) k (by_finding p.sort p.pos qs s.middle h s.first, a.0), ((λ c. absurd (let d : false ≡ true = c in cc d)), a.1))

-- ---- tests that ask nothing
pub none_asked : (ps : List Position) (bs : List Bool) → Marked (λ s p. Unit {0}) ps bs
none_asked [] bs = tt
none_asked (p ∷ ps) [] = tt
none_asked (p ∷ ps) (b ∷ bs) = ((λ e. tt), none_asked ps bs)

pub free_asked : (qs : List FactPosition) → FreePass (λ s p. Unit {0}) qs
free_asked [] = tt
free_asked (q ∷ qs) = ((λ e. tt), free_asked qs)

pub equations_hold : (u : Valuation) (qs : List FactPosition) → AllEquations (EquationHolds u) qs → EquationsHold u qs
equations_hold u [] h = tt
equations_hold u (q ∷ qs) h = (h.0, equations_hold u qs h.1)

pub equations_held : (u : Valuation) (qs : List FactPosition) → EquationsHold u qs → AllEquations (EquationHolds u) qs
equations_held u [] h = tt
equations_held u (q ∷ qs) h = (h.0, equations_held u qs h.1)
