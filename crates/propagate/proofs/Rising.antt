-- Places that rise: the first that is left tells whether a place is among all.
use Rattle.std.proofs.Common.{◌≡◌, ℕ, ◌+◌, ◌≤◌, ◌<◌, ◌==◌, Bool, true, false, cond, refl, sym, ap, subst, ◌∙◌, arith, List, [], ◌∷◌}
use Rattle.std.specs.Prelude.{◌||◌}
use Rattle.std.proofs.lemmas.Bool.Decides.{nat_tests}
use Rattle.std.proofs.lemmas.Bool.{or_from, eqb-true}
use Rattle.nf_terms.specs.Computed.{Done, after}
use Rattle.nf_sums.proofs.Values.{goes_done}
use Rattle.sym_paths.specs.Execution.{Post}
use Rattle.sym_paths.specs.Sequences.{each}
use Rattle.sym_facts.specs.Facts.{Fact}
use Rattle.sym_facts.specs.Entailment.{Missing, entails, equation_met, literal_met, false_places}
use Rattle.propagate.specs.Joins.{is_among}
use Rattle.propagate.specs.JoinSteps.{is_first_place, left_behind}

-- each place is above those before it, and none is below k
abbrev pub Rises : ℕ → List ℕ → Type 0
Rises k [] = Unit {0}
Rises k (j ∷ js) = k ≤ j × Rises (j + 1) js

-- ---- a place and the first that is left
none_below : (i k : ℕ) (js : List ℕ) → i < k → Rises k js → is_among i js ≡ false
none_below i k [] h r = refl
none_below i k (j ∷ js) h r = or_from (j == i) (is_among i js) (other i j (omega (arith, h, r.0))) (none_below i (j + 1) js (omega (arith, h, r.0)) r.1)
  where
    other : (i j : ℕ) → i < j → (j == i) ≡ false
    other i j h = grind (arith, nat_tests)

first_tells : (k : ℕ) (js : List ℕ) → Rises k js → is_first_place k js ≡ is_among k js
first_tells k [] r = refl
first_tells k (j ∷ js) r = by_test (j == k) (none_below k (j + 1) js (omega (arith, r.0)) r.1)
  where
    by_test : (b : Bool) → is_among k js ≡ false → b ≡ b || is_among k js
    by_test true e = refl
    by_test false e = sym e

another : (j k : ℕ) → (j == k) ≡ false → k ≤ j → k + 1 ≤ j
another j k e h = grind (arith, nat_tests)

rises_behind : (k : ℕ) (js : List ℕ) → Rises k js → Rises (k + 1) (left_behind k js)
rises_behind k [] r = tt
rises_behind k (j ∷ js) r = by_test (j == k) refl
  where
    by_test : (b : Bool) → (j == k) ≡ b → Rises (k + 1) (cond b js (j ∷ js))
    by_test true e = subst (λ z. Rises (z + 1) js) (eqb-true j k e) r.1
    by_test false e = (another j k e r.0, r.1)

among_behind : (i k : ℕ) (js : List ℕ) → k < i → is_among i (left_behind k js) ≡ is_among i js
among_behind i k [] h = refl
among_behind i k (j ∷ js) h = by_test (j == k) refl
  where
    passed : (i j k : ℕ) → (j == k) ≡ true → k < i → (j == i) ≡ false
    passed i j k e h = grind (arith, nat_tests)

    by_test : (b : Bool) → (j == k) ≡ b → is_among i (cond b js (j ∷ js)) ≡ is_among i (j ∷ js)
    by_test true e = ap (λ b. b || is_among i js) (sym (passed i j k e h))
    by_test false e = refl

-- what is left at place k of all places
pub record AreLeft (k : ℕ) (left all : List ℕ) : Type 0 where
  pub rise : Rises k left
  pub same : (i : ℕ) → k ≤ i → is_among i left ≡ is_among i all

pub all_left : (js : List ℕ) → Rises 0 js → AreLeft 0 js js
all_left js r = record { rise = r; same = λ i h. refl }

pub tells_among : (k : ℕ) (left all : List ℕ) → AreLeft k left all → is_first_place k left ≡ is_among k all
tells_among k left all a = first_tells k left a.rise ∙ a.same k (omega arith)

pub goes_on : (k : ℕ) (left all : List ℕ) → AreLeft k left all → AreLeft (k + 1) (left_behind k left) all
goes_on k left all a = record { rise = rises_behind k left a.rise; same = λ i h. among_behind i k left (omega (arith, h)) ∙ a.same i (omega (arith, h)) }

-- ---- the places that are missing rise
sooner : (k : ℕ) (js : List ℕ) → Rises (k + 1) js → Rises k js
sooner k [] r = tt
sooner k (j ∷ js) r = (omega (arith, r.0), r.1)

falses_rise : (k : ℕ) (bs : List Bool) → Rises k (false_places k bs)
falses_rise k [] = tt
falses_rise k (true ∷ bs) = sooner k (false_places (k + 1) bs) (falses_rise (k + 1) bs)
falses_rise k (false ∷ bs) = (omega arith, falses_rise (k + 1) bs)

pub missing_rise : (f : Fact) (post : Post) (missing : Missing) → entails post f ≡ Done missing → Rises 0 missing.equations × Rises 0 missing.literals
missing_rise f post missing e =
    let a = goes_done (each (λ p. equation_met post.vector p.pos p.equation) f.positions)
    (λ es. after (each (λ l. literal_met post l) f.literals) (λ ls. Done (record { equations = false_places 0 es; literals = false_places 0 ls }))) missing e in
    let b = goes_done (each (λ l. literal_met post l) f.literals)
    (λ ls. Done (record { equations = false_places 0 a.middle; literals = false_places 0 ls })) missing a.next in
    let m : record { equations = false_places 0 a.middle; literals = false_places 0 b.middle } ≡ missing = cc b.next in
    subst (λ (z : Missing). Rises 0 z.equations × Rises 0 z.literals) m (falses_rise 0 a.middle, falses_rise 0 b.middle)
