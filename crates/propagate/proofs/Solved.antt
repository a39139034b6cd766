-- Joined and rebased facts are solved.
use Rattle.std.proofs.Common.{◌≡◌, ℕ, ◌+◌, Bool, true, false, refl, sym, subst, ap, ap₂, ◌∙◌, List, [], ◌∷◌, map, Option, Some, None}
use Rattle.std.specs.Prelude.{◌&&◌, ◌||◌, not, is_none}
use Rattle.std.specs.List.{list_all, list_any}
use Rattle.std.proofs.lemmas.Bool.{or_from, and_from, or_right, not-true}
use Rattle.fs_model.proofs.Booleans.{and_first, and_second, neither_first, neither_second}
use Rattle.fs_pair.specs.declared.positions.Position.{Position}
use Rattle.nf_trees.specs.Mentions.{same_pos}
use Rattle.nf_terms.specs.Computed.{Computed, Done, after}
use Rattle.fs_model.specs.declared.sides.Pos.{Pos}
use Rattle.nf_terms.specs.declared.form.Nf.{Nf}
use Rattle.nf_sums.proofs.Values.{goes_done}
use Rattle.nf_substitution.specs.SamePlaces.{pos_equal, own_pos}
use Rattle.sym_facts.specs.SymbolTests.{is_other}
use Rattle.sym_facts.proofs.Mentioned.{number_other, form_other}
use Rattle.nf_rel.specs.Literals.{NormalLiteral, True, False, Is}
use Rattle.sym_paths.specs.Execution.{Post}
use Rattle.sym_facts.specs.Facts.{FactPosition, Fact, equation_mentions, literal_mentions, is_mentioned, is_unsolved, is_solved}
use Rattle.sym_facts.specs.Entailment.{Missing}
use Rattle.sym_facts.specs.Pairings.{literal_within}
use Rattle.sym_facts.specs.FactParts.{equation_within, are_distinct_positions}
use Rattle.propagate.specs.Joins.{Freed, tied_equation, with_equation, freed_with, position_joined, is_among, positions_joined, join}
use Rattle.propagate.specs.Rebases.{rebase}
use Rattle.propagate.proofs.Passes.{FreePass, AllEquations}
use Rattle.propagate.proofs.Joined.{joining}
use Rattle.propagate.proofs.JoinSymbols.{OwnPasses, join_within}
use Rattle.propagate.proofs.RebaseSymbols.{rebase_within}

-- where the equations stand
abbrev places : List FactPosition → List Pos
places qs = map (λ q. q.pos) qs

-- whether a position has an equation
abbrev has_equation : Pos → List FactPosition → Bool
has_equation p qs = list_any (λ q. not (is_none q.equation) && same_pos p q.pos) qs

-- whether the equations and literals of a fact have no symbol at a position
record Without (p : Pos) (f : Fact) : Type 0 where
  equations : AllEquations (λ q o. equation_within (is_other p) o ≡ true) f.positions
  literals : list_all (literal_within (is_other p)) f.literals ≡ true

equation_other : (p : Pos) (o : Option Nf) → not (equation_mentions p o) ≡ equation_within (is_other p) o
equation_other p None = refl
equation_other p (Some f) = form_other p f

literal_other : (p : Pos) (l : NormalLiteral) → not (literal_mentions p l) ≡ literal_within (is_other p) l
literal_other p True = refl
literal_other p False = refl
literal_other p (Is d k b) = number_other p d

-- ---- what is not mentioned, both ways
none_in_equations : (p : Pos) (qs : List FactPosition) → AllEquations (λ q o. equation_within (is_other p) o ≡ true) qs
    → list_any (λ q. equation_mentions p q.equation) qs ≡ false
none_in_equations p [] h = refl
none_in_equations p (q ∷ qs) h = or_from (equation_mentions p q.equation) (list_any (λ q. equation_mentions p q.equation) qs)
    (not-true (equation_mentions p q.equation) (equation_other p q.equation ∙ h.0)) (none_in_equations p qs h.1)

none_in_literals : (p : Pos) (ls : List NormalLiteral) → list_all (literal_within (is_other p)) ls ≡ true → list_any (literal_mentions p) ls ≡ false
none_in_literals p [] h = refl
none_in_literals p (l ∷ ls) h =
    or_from (literal_mentions p l) (list_any (literal_mentions p) ls)
    (not-true (literal_mentions p l) (literal_other p l ∙ and_first (literal_within (is_other p) l) (list_all (literal_within (is_other p)) ls) h))
    (none_in_literals p ls (and_second (literal_within (is_other p) l) (list_all (literal_within (is_other p)) ls) h))

unmentioned : (p : Pos) (f : Fact) → Without p f → is_mentioned f p ≡ false
unmentioned p f h = or_from (list_any (λ q. equation_mentions p q.equation) f.positions) (list_any (literal_mentions p) f.literals)
    (none_in_equations p f.positions h.equations) (none_in_literals p f.literals h.literals)

equations_without : (p : Pos) (qs : List FactPosition) → list_any (λ q. equation_mentions p q.equation) qs ≡ false
    → AllEquations (λ q o. equation_within (is_other p) o ≡ true) qs
equations_without p [] h = tt
equations_without p (q ∷ qs) h = (
  sym (equation_other p q.equation) ∙ ap not (neither_first (equation_mentions p q.equation) (list_any (λ q. equation_mentions p q.equation) qs) h),
  equations_without p qs (neither_second (equation_mentions p q.equation) (list_any (λ q. equation_mentions p q.equation) qs) h),
)

literals_without : (p : Pos) (ls : List NormalLiteral) → list_any (literal_mentions p) ls ≡ false → list_all (literal_within (is_other p)) ls ≡ true
literals_without p [] h = refl
literals_without p (l ∷ ls) h =
    and_from _ _ (sym (literal_other p l) ∙ ap not (neither_first (literal_mentions p l) (list_any (literal_mentions p) ls) h))
    (literals_without p ls (neither_second (literal_mentions p l) (list_any (literal_mentions p) ls) h))

without : (p : Pos) (f : Fact) → is_mentioned f p ≡ false → Without p f
without p f h = record {
  equations = equations_without p f.positions
      (neither_first (list_any (λ q. equation_mentions p q.equation) f.positions) (list_any (literal_mentions p) f.literals) h);
  literals = literals_without p f.literals
      (neither_second (list_any (λ q. equation_mentions p q.equation) f.positions) (list_any (literal_mentions p) f.literals) h);
}

-- in a solved fact a position with an equation is not mentioned
solved_unmentioned : (f : Fact) (p : Pos) (qs : List FactPosition) → list_all (λ q. not (is_unsolved f q)) qs ≡ true → has_equation p qs ≡ true
    → is_mentioned f p ≡ false
solved_unmentioned f p [] h g = absurd (cc g)
solved_unmentioned f p (q ∷ qs) h g =
    by_test (not (is_none q.equation)) (same_pos p q.pos) refl (and_first (not (is_unsolved f q)) (list_all (λ q. not (is_unsolved f q)) qs) h) g
    (λ i. solved_unmentioned f p qs (and_second (not (is_unsolved f q)) (list_all (λ q. not (is_unsolved f q)) qs) h) i)
  where
    by_test : (a b : Bool) → same_pos p q.pos ≡ b → not (a && is_mentioned f q.pos) ≡ true → (a && b) || has_equation p qs ≡ true
        → (has_equation p qs ≡ true → is_mentioned f p ≡ false) → is_mentioned f p ≡ false
    by_test true true e s i next = ap (is_mentioned f) (pos_equal p q.pos e) ∙ not-true (is_mentioned f q.pos) s
    by_test true false e s i next = next i
    by_test false b e s i next = next i

-- the free positions differ from one that has an equation
other_than : (p q : Pos) (qs : List FactPosition) → has_equation p qs ≡ true → list_any (same_pos q) (places qs) ≡ false → same_pos p q ≡ false
other_than p q qs h g = by_test (same_pos p q) refl
  where
    has_place : (qs : List FactPosition) → has_equation p qs ≡ true → list_any (same_pos p) (places qs) ≡ true
    has_place [] h = absurd (cc h)
    has_place (r ∷ rs) h = by_tests (not (is_none r.equation)) (same_pos p r.pos) h (λ i. has_place rs i)
      where
        by_tests : (a b : Bool) → (a && b) || has_equation p rs ≡ true → (has_equation p rs ≡ true → list_any (same_pos p) (places rs) ≡ true)
            → b || list_any (same_pos p) (places rs) ≡ true
        by_tests a true i next = refl
        by_tests true false i next = next i
        by_tests false false i next = next i

    by_test : (b : Bool) → same_pos p q ≡ b → b ≡ false
    by_test true e =
        let k : p ≡ q = pos_equal p q e in
        let i : true ≡ false = sym (has_place qs h) ∙ ap (λ z. list_any (same_pos z) (places qs)) k ∙ g in
        absurd (cc i)
    by_test false e = refl

abbrev Other : Pos → Pos → Type 0
Other p q = not (same_pos p q) ≡ true

others : (p : Pos) (qs : List FactPosition) → list_any (same_pos p) (places qs) ≡ false → FreePass (λ s q. Other p q) qs
others p [] h = tt
others p (q ∷ qs) h = (
  (λ e. ap not (neither_first (same_pos p q.pos) (list_any (same_pos p) (places qs)) h)),
  others p qs (neither_second (same_pos p q.pos) (list_any (same_pos p) (places qs)) h),
)

free_others : (p : Pos) (qs : List FactPosition) → are_distinct_positions (places qs) ≡ true → has_equation p qs ≡ true → FreePass (λ s q. Other p q) qs
free_others p [] d h = tt
free_others p (q ∷ qs) d h =
    let fresh = not-true (list_any (same_pos q.pos) (places qs))
    (and_first (not (list_any (same_pos q.pos) (places qs))) (are_distinct_positions (places qs)) d) in
    by_test q.equation (same_pos p q.pos) refl h fresh
    (λ i. free_others p qs (and_second (not (list_any (same_pos q.pos) (places qs))) (are_distinct_positions (places qs)) d) i)
  where
    by_test : (o : Option Nf) (b : Bool) → same_pos p q.pos ≡ b → (not (is_none o) && b) || has_equation p qs ≡ true
        → list_any (same_pos q.pos) (places qs) ≡ false → (has_equation p qs ≡ true → FreePass (λ s q. Other p q) qs)
        → (o ≡ None → Other p q.pos) × FreePass (λ s q. Other p q) qs
    by_test None b e i fresh next = ((λ n. ap not (other_than p q.pos qs i fresh)), next i)
    by_test (Some f) true e i fresh next =
        let k : p ≡ q.pos = pos_equal p q.pos e in
        ((λ n. absurd (cc n)), others p qs (ap (λ z. list_any (same_pos z) (places qs)) k ∙ fresh))
    by_test (Some f) false e i fresh next = ((λ n. absurd (cc n)), next i)

-- a fact is solved where its symbols are its free positions
all_solved : (f : Fact) → ((p : Pos) → has_equation p f.positions ≡ true → is_mentioned f p ≡ false) → (qs : List FactPosition)
    → ((p : Pos) → has_equation p qs ≡ true → has_equation p f.positions ≡ true) → list_all (λ q. not (is_unsolved f q)) qs ≡ true
all_solved f h [] g = refl
all_solved f h (q ∷ qs) g =
    and_from (not (is_unsolved f q)) (list_all (λ q. not (is_unsolved f q)) qs) (by_equation (is_none q.equation) refl)
    (all_solved f h qs (λ p i. g p (or_right (not (is_none q.equation) && same_pos p q.pos) (has_equation p qs) i)))
  where
    by_equation : (b : Bool) → is_none q.equation ≡ b → not (not b && is_mentioned f q.pos) ≡ true
    by_equation true e = refl
    by_equation false e =
        let i : has_equation q.pos (q ∷ qs) ≡ true = ap₂ (λ x y. (not x && y) || has_equation q.pos qs) e (own_pos q.pos) in
        ap not (h q.pos (g q.pos i))

solved_by : (f : Fact) → are_distinct_positions (places f.positions) ≡ true
    → ((p : Pos) → has_equation p f.positions ≡ true → FreePass (λ s q. Other p q) f.positions → Without p f) → is_solved f ≡ true
solved_by f d h = all_solved f (λ p i. unmentioned p f (h p i (free_others p f.positions d i))) f.positions (λ p i. i)

pub rebase_solved : (post : Post) (ps : List Position) (f : Fact) → rebase post ps ≡ Done f → are_distinct_positions (places f.positions) ≡ true
    → is_solved f ≡ true
rebase_solved post ps f e d = solved_by f d (λ p i m. let r = rebase_within (is_other p) post ps f e m in record { equations = r.0; literals = r.1 })

-- ---- the positions of a join are the old ones, and each that has an equation had one
abbrev pub Shape : List FactPosition → List FactPosition → Type 0
Shape [] [] = Unit {0}
Shape [] (q ∷ qs) = ⊥
Shape (p ∷ ps) [] = ⊥
Shape (p ∷ ps) (q ∷ qs) = ((q.pos ≡ p.pos) × (q.sort ≡ p.sort) × (p.equation ≡ None → q.equation ≡ None)) × Shape ps qs

shape_step :
    (v : List (Pos × Nf)) (b : Bool) (p : FactPosition) (o : Option Nf) → p.equation ≡ o
    → (fs : List Freed) (later : List Freed → Computed (List FactPosition)) (ps qs : List FactPosition)
    → ((gs : List Freed) (rs : List FactPosition) → later gs ≡ Done rs → Shape ps rs)
    → position_joined v b p o fs later ≡ Done qs → Shape (p ∷ ps) qs
shape_step v false p o s fs later ps qs next e =
    let t = goes_done (later fs) (λ rest. Done (p ∷ rest)) qs e in
    let k : p ∷ t.middle ≡ qs = cc t.next in
    subst (Shape (p ∷ ps)) k ((refl, refl, λ i. i), next fs t.middle t.first)
shape_step v true p None s fs later ps qs next e =
    let t = goes_done (later fs) (λ rest. Done (p ∷ rest)) qs e in
    let k : p ∷ t.middle ≡ qs = cc t.next in
    subst (Shape (p ∷ ps)) k ((refl, refl, λ i. i), next fs t.middle t.first)
shape_step v true p (Some f) s fs later ps qs next e =
    let i = goes_done (tied_equation v p.pos f fs) (λ r. after (later (freed_with p.pos f r fs)) (λ rest. Done (with_equation p r ∷ rest))) qs e in
    let t = goes_done (later (freed_with p.pos f i.middle fs)) (λ rest. Done (with_equation p i.middle ∷ rest)) qs i.next in
    let k : with_equation p i.middle ∷ t.middle ≡ qs = cc t.next in
    subst (Shape (p ∷ ps)) k ((refl, refl, λ n. absurd (let m : Some f ≡ None = sym s ∙ n in cc m)), next (freed_with p.pos f i.middle fs) t.middle t.first)

shape_of : (v : List (Pos × Nf)) (k : ℕ) (missing : List ℕ) (fs : List Freed) (ps qs : List FactPosition)
    → positions_joined v k missing fs ps ≡ Done qs → Shape ps qs
shape_of v k missing fs [] qs e = let s : [] ≡ qs = cc e in subst (Shape []) s tt
shape_of v k missing fs (p ∷ ps) qs e = shape_step v (is_among k missing) p p.equation refl fs (λ gs. positions_joined v (k + 1) missing gs ps) ps qs
    (λ gs rs i. shape_of v (k + 1) missing gs ps rs i) e

pub join_shape : (old new : Fact) (post : Post) (missing : Missing) → join old post missing ≡ Done new → Shape old.positions new.positions
join_shape old new post missing e =
    let j = joining old new post missing e in
    subst (λ (z : Fact). Shape old.positions z.positions) j.whole (shape_of post.vector 0 missing.equations [] old.positions j.positions j.joined)

same_places : (p : Pos) (ps qs : List FactPosition) → Shape ps qs → list_any (same_pos p) (places qs) ≡ list_any (same_pos p) (places ps)
same_places p [] [] h = refl
same_places p [] (q ∷ qs) h = absurd h
same_places p (r ∷ ps) [] h = absurd h
same_places p (r ∷ ps) (q ∷ qs) h = ap₂ (λ x y. same_pos p x || y) h.0.0 (same_places p ps qs h.1)

still_differ : (ps qs : List FactPosition) → Shape ps qs → are_distinct_positions (places qs) ≡ are_distinct_positions (places ps)
still_differ [] [] h = refl
still_differ [] (q ∷ qs) h = absurd h
still_differ (r ∷ ps) [] h = absurd h
still_differ (r ∷ ps) (q ∷ qs) h =
    ap₂ (λ x y. not x && y) (ap (λ z. list_any (same_pos z) (places qs)) h.0.0 ∙ same_places r.pos ps qs h.1) (still_differ ps qs h.1)

had_equation : (p : Pos) (ps qs : List FactPosition) → Shape ps qs → has_equation p qs ≡ true → has_equation p ps ≡ true
had_equation p [] [] h e = e
had_equation p [] (q ∷ qs) h e = absurd h
had_equation p (r ∷ ps) [] h e = absurd h
had_equation p (r ∷ ps) (q ∷ qs) h e = by_tests r.equation q.equation h.0.2 (same_pos p q.pos) (same_pos p r.pos)
    (ap (same_pos p) h.0.0) e (λ i. had_equation p ps qs h.1 i)
  where
    by_tests : (o n : Option Nf) → (o ≡ None → n ≡ None) → (b c : Bool) → b ≡ c → (not (is_none n) && b) || has_equation p qs ≡ true
        → (has_equation p qs ≡ true → has_equation p ps ≡ true) → (not (is_none o) && c) || has_equation p ps ≡ true
    by_tests None None f b c s i next = next i
    by_tests None (Some x) f b c s i next = absurd (cc (f refl))
    by_tests (Some y) n f b true s i next = refl
    by_tests (Some y) None f b false s i next = next i
    by_tests (Some y) (Some x) f true false s i next = absurd (cc s)
    by_tests (Some y) (Some x) f false false s i next = next i

own_others : (p : Pos) (qs : List FactPosition) → AllEquations (OwnPasses (is_other p) (Other p)) qs
own_others p [] = tt
own_others p (q ∷ qs) = (one q.pos q.equation, own_others p qs)
  where
    one : (q : Pos) (o : Option Nf) → OwnPasses (is_other p) (Other p) q o
    one q None = tt
    one q (Some f) = λ h. h

pub join_solved : (old new : Fact) (post : Post) (missing : Missing) → join old post missing ≡ Done new → are_distinct_positions (places old.positions) ≡ true
    → is_solved old ≡ true → is_solved new ≡ true
join_solved old new post missing e d h =
    let s = join_shape old new post missing e in
    solved_by new (still_differ old.positions new.positions s ∙ d) (λ p i m.
    let was = without p old (solved_unmentioned old p old.positions h (had_equation p old.positions new.positions s i)) in
    let r = join_within (is_other p) (Other p) old new post missing e was.equations (own_others p old.positions) was.literals m in
    record { equations = r.0; literals = r.1 })
