-- A join as it is made is the join.
use Rattle.std.proofs.Common.{◌≡◌, ℕ, ◌+◌, Bool, true, false, cond, refl, ap, sym, ◌∙◌, List, [], ◌∷◌, Option, Some, None}
use Rattle.nf_terms.specs.Computed.{Computed, Done, after}
use Rattle.fs_model.specs.declared.sides.Pos.{Pos}
use Rattle.nf_terms.specs.declared.form.Nf.{Nf}
use Rattle.nf_rel.specs.Literals.{NormalLiteral}
use Rattle.sym_paths.specs.Execution.{Post}
use Rattle.sym_facts.specs.Facts.{FactPosition, Fact}
use Rattle.sym_facts.specs.Entailment.{Missing, entails}
use Rattle.propagate.specs.Joins.{Freed, tied_equation, freed_with, with_equation, position_joined, is_among, positions_joined}
use Rattle.propagate.specs.Joins.{literals_kept, join}
use Rattle.propagate.specs.JoinSteps.{equation_joined, freed_by_join, is_first_place, left_behind, joined_from, literals_from}
use Rattle.propagate.proofs.Rising.{AreLeft, all_left, tells_among, goes_on, missing_rise}

step : (v : List (Pos × Nf)) (b : Bool) (p : FactPosition) (o : Option Nf) → p.equation ≡ o
    → (fs : List Freed) (next later : List Freed → Computed (List FactPosition)) → ((gs : List Freed) → next gs ≡ later gs)
    → after (equation_joined v b p.pos o fs) (λ n. after (next (freed_by_join b p.pos o n fs)) (λ rest. Done (with_equation p n ∷ rest)))
    ≡ position_joined v b p o fs later
step v false p o e fs next later h = ap (λ n. after (next fs) (λ rest. Done (with_equation p n ∷ rest))) (sym e)
    ∙ ap (λ c. after c (λ rest. Done (p ∷ rest))) (h fs)
step v true p None e fs next later h = ap (λ n. after (next fs) (λ rest. Done (with_equation p n ∷ rest))) (sym e)
    ∙ ap (λ c. after c (λ rest. Done (p ∷ rest))) (h fs)
step v true p (Some t) e fs next later h = λ j. after (tied_equation v p.pos t fs)
    (λ n. after (h (freed_with p.pos t n fs) j) (λ rest. Done (with_equation p n ∷ rest)))

-- the positions, where the places that are missing rise
pub joins_in_turn : (v : List (Pos × Nf)) (k : ℕ) (left missing : List ℕ) (fs : List Freed) (ps : List FactPosition) → AreLeft k left missing
    → joined_from v k left fs ps ≡ positions_joined v k missing fs ps
joins_in_turn v k left missing fs [] a = refl
joins_in_turn v k left missing fs (p ∷ ps) a =
    let later = λ (gs : List Freed). positions_joined v (k + 1) missing gs ps in
    step v (is_first_place k left) p p.equation refl fs (λ gs. joined_from v (k + 1) (left_behind k left) gs ps) later
    (λ gs. joins_in_turn v (k + 1) (left_behind k left) missing gs ps (goes_on k left missing a))
    ∙ ap (λ b. position_joined v b p p.equation fs later) (tells_among k left missing a)

-- the literals, where the indices that are missing rise
pub keeps_in_turn : (k : ℕ) (left missing : List ℕ) (ls : List NormalLiteral) → AreLeft k left missing → literals_from k left ls ≡ literals_kept k missing ls
keeps_in_turn k left missing [] a = refl
keeps_in_turn k left missing (l ∷ ls) a =
    ap (λ b. cond b (literals_from (k + 1) (left_behind k left) ls) (l ∷ literals_from (k + 1) (left_behind k left) ls)) (tells_among k left missing a)
    ∙ ap (λ z. cond (is_among k missing) z (l ∷ z)) (keeps_in_turn (k + 1) (left_behind k left) missing ls (goes_on k left missing a))

abbrev pub made : List NormalLiteral → List FactPosition → Computed Fact
made ls qs = Done (record { positions = qs; literals = ls })

-- the join of what is missing
pub join_in_turn : (old : Fact) (post : Post) (missing : Missing) → entails post old ≡ Done missing
    → after (joined_from post.vector 0 missing.equations [] old.positions) (λ qs. made (literals_from 0 missing.literals old.literals) qs)
    ≡ join old post missing
join_in_turn old post missing e =
    let r = missing_rise old post missing e in
    ap (λ c. after c (λ qs. made (literals_from 0 missing.literals old.literals) qs))
    (joins_in_turn post.vector 0 missing.equations missing.equations [] old.positions (all_left missing.equations r.0))
    ∙ ap (λ ls. after (positions_joined post.vector 0 missing.equations [] old.positions) (λ qs. made ls qs))
    (keeps_in_turn 0 missing.literals missing.literals old.literals (all_left missing.literals r.1))
