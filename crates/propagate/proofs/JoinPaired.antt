-- Joined facts are of the positions.
use Rattle.std.proofs.Common.{◌≡◌, ℕ, ◌+◌, Bool, true, false, cond, refl, ap, ap₂, sym, subst, ◌∙◌, arith, List, [], ◌∷◌, length, map, Option, Some, None}
use Rattle.std.specs.List.{list_all}
use Rattle.std.proofs.lemmas.Bool.{and_from}
use Rattle.fs_model.proofs.Booleans.{and_first, and_second}
use Rattle.fs_model.specs.declared.parts.Sort.{Sort}
use Rattle.fs_pair.specs.declared.positions.Position.{Position}
use Rattle.fs_pair.specs.Paired.{IsPairing}
use Rattle.nf_terms.specs.Forms.{sort_of_form}
use Rattle.nf_trees.specs.Order.{same_polynomial}
use Rattle.nf_trees.specs.NormalTerms.{Polynomial, polynomial_of_symbol}
use Rattle.nf_terms.specs.Computed.{Computed, Done, after}
use Rattle.nf_terms.specs.declared.symbols.Sort.{Sort as TermSort}
use Rattle.nf_terms.specs.declared.symbols.Sort.TheVariants as term
use Rattle.fs_model.specs.declared.sides.Pos.{Pos}
use Rattle.nf_terms.specs.declared.form.Nf.{Nf}
use Rattle.nf_terms.specs.declared.form.Nf.TheVariants.{Num, Arr, Seq}
use Rattle.nf_terms.specs.TermSorts.{same_term_sort}
use Rattle.nf_sums.specs.Operations.{normal_sum, normal_difference}
use Rattle.nf_sums.proofs.Values.{goes_done}
use Rattle.nf_substitution.specs.Vectors.{number_at}
use Rattle.nf_substitution.specs.Substitution.{polynomial_substituted}
use Rattle.nf_substitution.specs.SamePlaces.{sorts_equal}
use Rattle.nf_rel.specs.Literals.{NormalLiteral}
use Rattle.sym_paths.specs.Execution.{Post}
use Rattle.sym_facts.specs.Facts.{FactPosition, Fact, IsFact, sort_of_terms, form_or_symbol, vector_of, has_its_sort, may_be_kept}
use Rattle.sym_facts.specs.Entailment.{Missing, entails}
use Rattle.sym_facts.specs.Pairings.{is_position, form_within, IsFactOf}
use Rattle.sym_facts.specs.FactParts.{are_distinct_positions, IsKept}
use Rattle.sym_facts.proofs.Vectors.{positions_again}
use Rattle.sym_facts.proofs.Kept.{form_sort as one_of_kept}
use Rattle.propagate.specs.Joins.{Freed, symbol_like, number_tied_to, number_tied, is_alike, form_tied, tied_equation, with_equation, freed_with}
use Rattle.propagate.specs.Joins.{position_joined}
use Rattle.propagate.specs.Joins.{is_among, positions_joined, join}
use Rattle.propagate.specs.JoinSteps.{joined_from, literals_from}
use Rattle.propagate.proofs.JoinTurns.{made, join_in_turn}
use Rattle.propagate.proofs.Passes.{AllPass, AllEquations, free_asked}
use Rattle.propagate.proofs.Joined.{joining, kept_pass}
use Rattle.propagate.proofs.RebaseSymbols.{Passes}
use Rattle.propagate.proofs.JoinSymbols.{Inside, OwnPasses, join_within}
use Rattle.propagate.proofs.Paired.{RowsPass, forms_within, listed}
use Rattle.propagate.proofs.Solved.{join_solved, Shape, join_shape}
use Rattle.propagate.proofs.Strength.{no_more_literals}
use Rattle.propagate.proofs.Whole.{sorts_kept, whole_fact}

-- ---- a tie is of the sort of what is tied
sort_like : (q : Pos) (t : Nf) → sort_of_form (symbol_like q t) ≡ sort_of_form t
sort_like q (Num t) = refl
sort_like q (Arr t) = refl
sort_like q (Seq t) = refl

module _ (v : List (Pos × Nf)) where
  tie_sort : (p : Pos) (t : Polynomial) (q : Pos) (o : Nf) (later : Computed (Option Nf)) (x : Nf) → (later ≡ Done (Some x) → sort_of_form x ≡ term.Scalar)
      → number_tied_to v p t q o later ≡ Done (Some x) → sort_of_form x ≡ term.Scalar
  tie_sort p t q (Arr a) later x next e = next e
  tie_sort p t q (Seq l) later x next e = next e
  tie_sort p t q (Num u) later x next e =
      let i = goes_done (normal_difference t u)
      (λ d. after (normal_difference (number_at v p) (number_at v q))
      (λ c. after (polynomial_substituted v d)
      (λ s. cond (same_polynomial c s) (after (normal_sum (polynomial_of_symbol q) d) (λ z. Done (Some (Num z)))) later)))
      (Some x) e in
      let j = goes_done (normal_difference (number_at v p) (number_at v q))
      (λ c. after (polynomial_substituted v i.middle)
      (λ s. cond (same_polynomial c s) (after (normal_sum (polynomial_of_symbol q) i.middle) (λ z. Done (Some (Num z)))) later))
      (Some x) i.next in
      let k = goes_done (polynomial_substituted v i.middle)
      (λ s. cond (same_polynomial j.middle s) (after (normal_sum (polynomial_of_symbol q) i.middle) (λ z. Done (Some (Num z)))) later) (Some x) j.next in
      by_test i.middle (same_polynomial j.middle k.middle) k.next
    where
      by_test : (d : Polynomial) (b : Bool) → cond {A = Computed (Option Nf)} b (after (normal_sum (polynomial_of_symbol q) d) (λ z. Done (Some (Num z)))) later
          ≡ Done (Some x) → sort_of_form x ≡ term.Scalar
      by_test d true g =
          let z = goes_done (normal_sum (polynomial_of_symbol q) d) (λ y. Done (Some (Num y))) (Some x) g in
          let y : Num z.middle ≡ x = cc z.next in
          sym (ap sort_of_form y)
      by_test d false g = next g

  number_sort : (p : Pos) (t : Polynomial) (fs : List Freed) (x : Nf) → number_tied v p t fs ≡ Done (Some x) → sort_of_form x ≡ term.Scalar
  number_sort p t [] x e = absurd (cc e)
  number_sort p t (f ∷ fs) x e = tie_sort p t f.pos f.old (number_tied v p t fs) x (λ g. number_sort p t fs x g) e

  form_sort : (p : Pos) (t : Nf) (fs : List Freed) (x : Nf) → form_tied v p t fs ≡ Some x → sort_of_form x ≡ sort_of_form t
  form_sort p t [] x e = absurd (cc e)
  form_sort p t (f ∷ fs) x e = by_test (is_alike v p t f) e (λ g. form_sort p t fs x g)
    where
      by_test : (b : Bool) → cond b (Some (symbol_like f.pos t)) (form_tied v p t fs) ≡ Some x → (form_tied v p t fs ≡ Some x → sort_of_form x ≡ sort_of_form t)
          → sort_of_form x ≡ sort_of_form t
      by_test true g next =
          let y : symbol_like f.pos t ≡ x = cc g in
          sym (ap sort_of_form y) ∙ sort_like f.pos t
      by_test false g next = next g

  tied_sort : (p : Pos) (t : Nf) (fs : List Freed) (x : Nf) → tied_equation v p t fs ≡ Done (Some x) → sort_of_form x ≡ sort_of_form t
  tied_sort p (Num t) fs x e = number_sort p t fs x e
  tied_sort p (Arr a) fs x e = form_sort p (Arr a) fs x (let k : form_tied v p (Arr a) fs ≡ Some x = cc e in k)
  tied_sort p (Seq l) fs x e = form_sort p (Seq l) fs x (let k : form_tied v p (Seq l) fs ≡ Some x = cc e in k)

  still_sort : (s : Sort) (p : Pos) (t : Nf) (fs : List Freed) (o : Option Nf) → tied_equation v p t fs ≡ Done o → has_its_sort s (Some t) ≡ true
      → has_its_sort s o ≡ true
  still_sort s p t fs None e h = refl
  still_sort s p t fs (Some x) e h = ap (same_term_sort (sort_of_terms s)) (tied_sort p t fs x e) ∙ h

  abbrev AllSorts : List FactPosition → Type 0
  AllSorts qs = list_all (λ q. has_its_sort q.sort q.equation) qs ≡ true

  sorts_step : (b : Bool) (p : FactPosition) (o : Option Nf) → p.equation ≡ o
      → (fs : List Freed) (later : List Freed → Computed (List FactPosition)) (qs : List FactPosition) → has_its_sort p.sort p.equation ≡ true
      → ((gs : List Freed) (rs : List FactPosition) → later gs ≡ Done rs → AllSorts rs) → position_joined v b p o fs later ≡ Done qs → AllSorts qs
  sorts_step false p o s fs later qs h next e =
      let t = goes_done (later fs) (λ rest. Done (p ∷ rest)) qs e in
      let k : p ∷ t.middle ≡ qs = cc t.next in
      subst AllSorts k (and_from _ _ h (next fs t.middle t.first))
  sorts_step true p None s fs later qs h next e =
      let t = goes_done (later fs) (λ rest. Done (p ∷ rest)) qs e in
      let k : p ∷ t.middle ≡ qs = cc t.next in
      subst AllSorts k (and_from _ _ h (next fs t.middle t.first))
  sorts_step true p (Some f) s fs later qs h next e =
      let i = goes_done (tied_equation v p.pos f fs) (λ r. after (later (freed_with p.pos f r fs)) (λ rest. Done (with_equation p r ∷ rest))) qs e in
      let t = goes_done (later (freed_with p.pos f i.middle fs)) (λ rest. Done (with_equation p i.middle ∷ rest)) qs i.next in
      let k : with_equation p i.middle ∷ t.middle ≡ qs = cc t.next in
      subst AllSorts k
      (and_from _ _ (still_sort p.sort p.pos f fs i.middle i.first (ap (has_its_sort p.sort) (sym s) ∙ h))
      (next (freed_with p.pos f i.middle fs) t.middle t.first))

  sorts_joined : (k : ℕ) (missing : List ℕ) (fs : List Freed) (ps qs : List FactPosition) → AllSorts ps
      → positions_joined v k missing fs ps ≡ Done qs → AllSorts qs
  sorts_joined k missing fs [] qs h e = let s : [] ≡ qs = cc e in subst AllSorts s refl
  sorts_joined k missing fs (p ∷ ps) qs h e =
      let here = has_its_sort p.sort p.equation in
      let others = list_all (λ q. has_its_sort q.sort q.equation) ps in
      sorts_step (is_among k missing) p p.equation refl fs (λ gs. positions_joined v (k + 1) missing gs ps) qs (and_first here others h)
      (λ gs rs i. sorts_joined (k + 1) missing gs ps rs (and_second here others h) i) e

-- ---- the rows are those of the positions
same_sorts : (ps qs : List FactPosition) → Shape ps qs → map (λ q. q.sort) qs ≡ map (λ q. q.sort) ps
same_sorts [] [] h = refl
same_sorts [] (q ∷ qs) h = absurd h
same_sorts (p ∷ ps) [] h = absurd h
same_sorts (p ∷ ps) (q ∷ qs) h = ap₂ (λ x y. x ∷ y) h.0.1 (same_sorts ps qs h.1)

same_positions : (ps qs : List FactPosition) → Shape ps qs → map (λ q. q.pos) qs ≡ map (λ q. q.pos) ps
same_positions [] [] h = refl
same_positions [] (q ∷ qs) h = absurd h
same_positions (p ∷ ps) [] h = absurd h
same_positions (p ∷ ps) (q ∷ qs) h = ap₂ (λ x y. x ∷ y) h.0.0 (same_positions ps qs h.1)

form_sorts : (ps : List Position) (qs : List FactPosition) → map (λ q. q.sort) qs ≡ map (λ p. p.sort) ps
    → list_all (λ q. has_its_sort q.sort q.equation) qs ≡ true → map (λ e. sort_of_form e.1) (vector_of qs) ≡ map (λ p. sort_of_terms p.sort) ps
form_sorts [] [] s h = refl
form_sorts [] (q ∷ qs) s h = absurd (cc s)
form_sorts (p ∷ ps) [] s h = absurd (cc s)
form_sorts (p ∷ ps) (q ∷ qs) s h =
    let mine : q.sort ≡ p.sort = cc s in
    let others : map (λ q. q.sort) qs ≡ map (λ p. p.sort) ps = cc s in
    let here = has_its_sort q.sort q.equation in
    let rest = list_all (λ q. has_its_sort q.sort q.equation) qs in
    ap₂ (λ x y. x ∷ y) (one_of_kept q.sort q.pos q.equation (and_first here rest h) ∙ ap sort_of_terms mine) (form_sorts ps qs others (and_second here rest h))

rows_of : (Q : Sort → Pos → Type 0) (ps : List Position) (qs : List FactPosition) → map (λ q. q.pos) qs ≡ map (λ p. p.pos) ps
    → map (λ q. q.sort) qs ≡ map (λ p. p.sort) ps → AllPass Q ps → RowsPass Q qs
rows_of Q ps [] e s h = tt
rows_of Q [] (q ∷ qs) e s h = absurd (cc s)
rows_of Q (p ∷ ps) (q ∷ qs) e s h =
    let place : p.pos ≡ q.pos = cc e in
    let places : map (λ q. q.pos) qs ≡ map (λ p. p.pos) ps = cc e in
    let sort : p.sort ≡ q.sort = cc s in
    let sorts : map (λ q. q.sort) qs ≡ map (λ p. p.sort) ps = cc s in
    (subst (Q q.sort) place (subst (λ z. Q z p.pos) sort h.0), rows_of Q ps qs places sorts h.1)

-- ---- symbols
module _ (test : Pos × TermSort → Bool) where
  equations_inside : (qs : List FactPosition) → list_all (λ e. form_within test e.1) (vector_of qs) ≡ true → AllEquations (Inside test (λ p. Unit {0})) qs
  equations_inside [] h = tt
  equations_inside (q ∷ qs) h =
      let here = form_within test (form_or_symbol q.sort q.pos q.equation) in
      let others = list_all (λ e. form_within test e.1) (vector_of qs) in
      (one q.sort q.pos q.equation (and_first here others h), equations_inside qs (and_second here others h))
    where
      one : (s : Sort) (p : Pos) (o : Option Nf) → form_within test (form_or_symbol s p o) ≡ true → Inside test (λ p. Unit {0}) p o
      one s p None h = refl
      one s p (Some f) h = h

  own_pass : (qs : List FactPosition) → RowsPass (Passes test) qs → list_all (λ q. has_its_sort q.sort q.equation) qs ≡ true
      → AllEquations (OwnPasses test (λ p. Unit {0})) qs
  own_pass [] r h = tt
  own_pass (q ∷ qs) r h =
      let here = has_its_sort q.sort q.equation in
      let others = list_all (λ q. has_its_sort q.sort q.equation) qs in
      (one q.sort q.pos q.equation r.0 (and_first here others h), own_pass qs r.1 (and_second here others h))
    where
      one : (s : Sort) (p : Pos) (o : Option Nf) → Passes test s p → has_its_sort s o ≡ true → OwnPasses test (λ p. Unit {0}) p o
      one s p None r h = tt
      one s p (Some f) r h = λ u. ap (λ z. test (p, z)) (sym (sorts_equal (sort_of_terms s) (sort_of_form f) h)) ∙ r

pub join_paired : (ps : List Position) (old new : Fact) (post : Post) (missing : Missing) → join old post missing ≡ Done new → IsFactOf ps old → IsFactOf ps new
join_paired ps old new post missing e h =
    let test = is_position ps in
    let shape = join_shape old new post missing e in
    let j = joining old new post missing e in
    let old_sorts = sorts_kept ps old.positions h.sorts h.vector.sorts in
    let new_sorts = subst (λ (z : Fact). list_all (λ q. has_its_sort q.sort q.equation) z.positions ≡ true) j.whole
    (sorts_joined post.vector 0 missing.equations [] old.positions j.positions old_sorts j.joined) in
    let sorts : map (λ q. q.sort) new.positions ≡ map (λ p. p.sort) ps = same_sorts old.positions new.positions shape ∙ h.sorts in
    let old_places : map (λ q. q.pos) old.positions ≡ map (λ p. p.pos) ps = sym (positions_again old.positions) ∙ h.vector.positions in
    let places : map (λ q. q.pos) new.positions ≡ map (λ p. p.pos) ps = same_positions old.positions new.positions shape ∙ old_places in
    let all : AllPass (Passes test) ps = listed ps ps (λ x i. i) in
    let old_rows = rows_of (Passes test) ps old.positions old_places h.sorts all in
    let new_rows = rows_of (Passes test) ps new.positions places sorts all in
    let inside = join_within test (λ p. Unit {0}) old new post missing e (equations_inside test old.positions h.vector.symbols)
    (own_pass test old.positions old_rows old_sorts) h.literals (free_asked new.positions) in
    record {
      sorts = sorts;
      vector = record {
        positions = positions_again new.positions ∙ places;
        sorts = form_sorts ps new.positions sorts new_sorts;
        symbols = forms_within test new.positions new_rows inside.0;
      };
      literals = inside.1;
    }

-- a join of a fact of the pairing is a fact
pub join_kept : (ps : List Position) (old new : Fact) (post : Post) (missing : Missing) → join old post missing ≡ Done new → IsPairing ps → IsFactOf ps old
    → IsFact old → IsKept new
join_kept ps old new post missing e p h f =
    let paired = join_paired ps old new post missing e h in
    let j = joining old new post missing e in
    let same = sym (positions_again old.positions) ∙ h.vector.positions ∙ sym (sym (positions_again new.positions) ∙ paired.vector.positions) in
    let literals = ap (λ (z : Fact). z.literals) j.whole in
    whole_fact ps new p paired (λ d. join_solved old new post missing e (subst (λ z. are_distinct_positions z ≡ true) (sym same) d) f.solved)
    (omega (arith, ap length literals, no_more_literals 0 missing.literals old.literals, f.few))
    (subst (λ z. list_all may_be_kept z ≡ true) literals (kept_pass may_be_kept 0 missing.literals old.literals f.literals))

-- the join, from what its two parts give
pub joined_with : (old : Fact) (post : Post) (missing : Missing) (given qs : List FactPosition) (known ls : List NormalLiteral)
    → entails post old ≡ Done missing → given ≡ old.positions → joined_from post.vector 0 missing.equations [] given ≡ Done qs → known ≡ old.literals
    → ls ≡ literals_from 0 missing.literals known
    → join old post missing ≡ Done (record { positions = qs; literals = ls })
joined_with old post missing given qs known ls r g e k l =
    let joined : joined_from post.vector 0 missing.equations [] old.positions ≡ Done qs = ap (joined_from post.vector 0 missing.equations []) (sym g) ∙ e in
    let kept : literals_from 0 missing.literals old.literals ≡ ls = ap (literals_from 0 missing.literals) (sym k) ∙ sym l in
    sym (join_in_turn old post missing r) ∙ ap (λ c. after c (λ ps. made (literals_from 0 missing.literals old.literals) ps)) joined
    ∙ ap (λ ms. made ms qs) kept
