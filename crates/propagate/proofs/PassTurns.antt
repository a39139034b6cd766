-- One turn of the loops of a rebase and of a join: what it leaves for those behind it, and that its event is that of the whole.
use Rattle.std.proofs.Common.{◌≡◌, ℕ, ◌+◌, ◌<◌, ◌≤◌, Bool, List, [], ◌∷◌, ◌++◌, map, drop, length, get_or}
use Rattle.std.proofs.Common.{Option, is_some, Result, Ok, Err, refl, ap, sym, subst, ◌∙◌}
use Rattle.std.proofs.lemmas.List.{append_assoc, append-nil, map-append, drop_all}
use Rattle.std.specs.Result.{IsErrAnd}
use Rattle.fs_model.proofs.Lists.{drop_next}
use Rattle.fs_model.specs.declared.sides.Pos.{Pos}
use Rattle.fs_pair.specs.declared.positions.Position.{Position}
use Rattle.nf_terms.specs.Computed.{Computed, Done, Wide, Large, Answers, after}
use Rattle.nf_terms.specs.declared.form.Nf.{Nf}
use Rattle.nf_terms.specs.declared.stop.NfStop.{NfStop}
use Rattle.nf_substitution.proofs.Following.{stops}
use Rattle.sym_paths.specs.View.{answer_in_data}
use Rattle.sym_paths.proofs.Loops.{followed, more_done}
use Rattle.sym_facts.specs.Facts.{FactPosition}
use Rattle.propagate.specs.Joins.{Freed, with_equation as with_joined}
use Rattle.propagate.specs.JoinSteps.{equation_joined, freed_by_join, is_first_place, left_behind, joined_from}
use Rattle.propagate.specs.Rebases.{RebaseState, symbol_found, position_with_equation, with_mark}
use Rattle.propagate.specs.RebaseSteps.{with_found, first_pass_from, RebaseTurn, second_turn, second_from, before_others}
use Rattle.propagate.specs.RebaseSteps.{equation_given, freed_by_rebase, third_from}
use Rattle.propagate.specs.declared.rebases.Marked.{Marked}

-- a map of a list with one more
pub pushed_map : {A B : Type 0} (f : A → B) (old new : List A) (x : A) → new ≡ old ++ x ∷ [] → map f new ≡ map f old ++ f x ∷ []
pushed_map f old new x e = ap (map f) e ∙ map-append f old (x ∷ [])

-- an event that is passed on, where answers are told in other words
pub told_stop : {S T : Type 0} (f : S → T) (r : Result S NfStop) (event : NfStop) (whole : Computed T) → IsErrAnd r (λ e. e ≡ event)
    → Answers {T = T} (Err event) whole → Answers (answer_in_data f r) whole
told_stop f (Ok x) event whole h a = absurd h
told_stop {T = T} f (Err d) event whole h a = subst (λ e. Answers {T = T} (Err e) whole) (sym h) a

-- what is done with one more, and what the rest gives
more_marked : (done : List Bool) (b : Bool) (rest : Computed RebaseState)
    → after rest (λ h. Done (before_others (done ++ b ∷ []) h)) ≡ after (after rest (λ h. Done (with_mark b h))) (λ h. Done (before_others done h))
more_marked done b (Done h) = ap (λ bs. Done (record { free = bs; meanings = h.meanings })) (append_assoc done (b ∷ []) h.free)
more_marked done b (Wide left right) = refl
more_marked done b (Large units depth) = refl

pub first_goes : (v : List (Pos × Nf)) (ps : List Position) (i : ℕ) (p : Position) → i < length ps → p ≡ get_or ps i p
    → (done : List Bool) (b : Bool) (ms new : List (Pos × Nf)) → b ≡ is_some (symbol_found v ms p.sort p.pos)
    → new ≡ with_found (symbol_found v ms p.sort p.pos) p.sort p.pos ms
    → before_others (done ++ b ∷ []) (first_pass_from v (drop (i + 1) ps) new) ≡ before_others done (first_pass_from v (drop i ps) ms)
first_goes v ps i p inside is done b ms new f m =
    let rest = first_pass_from v (drop (i + 1) ps) new in
    ap (λ bs. record { free = bs; meanings = rest.meanings }) (append_assoc done (b ∷ []) rest.free)
    ∙ ap (λ c. before_others done (with_mark c rest)) f
    ∙ ap (λ ns. before_others done (with_mark (is_some (symbol_found v ms p.sort p.pos)) (first_pass_from v (drop (i + 1) ps) ns))) m
    ∙ sym (ap (λ qs. before_others done (first_pass_from v qs ms)) (drop_next ps i p inside is))

-- where nothing is left, all is done
pub first_ends : (v ms : List (Pos × Nf)) (ps : List Position) (i : ℕ) (done : List Bool) → length ps ≤ i
    → before_others done (first_pass_from v (drop i ps) ms) ≡ record { free = done; meanings = ms }
first_ends v ms ps i done h =
    ap (λ qs. before_others done (first_pass_from v qs ms)) (drop_all i ps h) ∙ ap (λ bs. record { free = bs; meanings = ms }) (append-nil done)

pub second_ends : (v ms : List (Pos × Nf)) (xs : List Marked) (i : ℕ) (done : List Bool) → length xs ≤ i
    → after (second_from v (map (λ m. m.position) (drop i xs)) (map (λ m. m.is_free) (drop i xs)) ms) (λ h. Done (before_others done h))
    ≡ Done (record { free = done; meanings = ms })
second_ends v ms xs i done h =
    ap (λ ys. after (second_from v (map (λ m. m.position) ys) (map (λ m. m.is_free) ys) ms) (λ h. Done (before_others done h))) (drop_all i xs h)
    ∙ ap (λ bs. Done (record { free = bs; meanings = ms })) (append-nil done)

pub third_ends : (v ms : List (Pos × Nf)) (xs : List Marked) (i : ℕ) (done : List FactPosition) (qs : List Position) → length xs ≤ i
    → followed done (third_from v ms (map (λ m. m.position) (drop i xs)) (map (λ m. m.is_free) (drop i xs)) qs) ≡ Done done
third_ends v ms xs i done qs h =
    ap (λ ys. followed done (third_from v ms (map (λ m. m.position) ys) (map (λ m. m.is_free) ys) qs)) (drop_all i xs h) ∙ ap Done (append-nil done)

pub join_ends : {X : Type 0} (view : X → FactPosition) (v : List (Pos × Nf)) (xs : List X) (i : ℕ) (left : List ℕ) (done : List FactPosition) (fs : List Freed)
    → length xs ≤ i → followed done (joined_from v i left fs (map view (drop i xs))) ≡ Done done
join_ends view v xs i left done fs h = ap (λ ys. followed done (joined_from v i left fs (map view ys))) (drop_all i xs h) ∙ ap Done (append-nil done)

module _ (v : List (Pos × Nf)) (xs : List Marked) (i : ℕ) (x : Marked) (inside : i < length xs) (is : x ≡ get_or xs i x) where
  abbrev second_over : List Marked → List (Pos × Nf) → Computed RebaseState
  second_over ys ms = second_from v (map (λ m. m.position) ys) (map (λ m. m.is_free) ys) ms

  pub second_goes : (done : List Bool) (t : RebaseTurn) (ms : List (Pos × Nf))
      → second_turn x.is_free v ms x.position.sort x.position.pos ≡ Done t
      → after (second_over (drop (i + 1) xs) t.meanings) (λ h. Done (before_others (done ++ t.is_free ∷ []) h))
      ≡ after (second_over (drop i xs) ms) (λ h. Done (before_others done h))
  second_goes done t ms a =
      let next : RebaseTurn → Computed RebaseState = λ u. after (second_over (drop (i + 1) xs) u.meanings) (λ h. Done (with_mark u.is_free h)) in
      more_marked done t.is_free (second_over (drop (i + 1) xs) t.meanings)
      ∙ sym (ap (λ ys. after (second_over ys ms) (λ h. Done (before_others done h))) (drop_next xs i x inside is)
      ∙ ap (λ c. after (after c next) (λ h. Done (before_others done h))) a)

  pub second_stops : (done : List Bool) (ms : List (Pos × Nf)) (event : NfStop)
      → Answers {T = RebaseTurn} (Err event) (second_turn x.is_free v ms x.position.sort x.position.pos)
      → Answers {T = RebaseState} (Err event) (after (second_over (drop i xs) ms) (λ h. Done (before_others done h)))
  second_stops done ms event a =
      let turn = second_turn x.is_free v ms x.position.sort x.position.pos in
      let next : RebaseTurn → Computed RebaseState = λ u. after (second_over (drop (i + 1) xs) u.meanings) (λ h. Done (with_mark u.is_free h)) in
      subst (λ ys. Answers {T = RebaseState} (Err event) (after (second_over ys ms) (λ h. Done (before_others done h)))) (sym (drop_next xs i x inside is))
      (stops event (after turn next) (λ h. Done (before_others done h)) (stops event turn next a))

  module _ (ms : List (Pos × Nf)) where
    abbrev third_over : List Marked → List Position → Computed (List FactPosition)
    third_over ys qs = third_from v ms (map (λ m. m.position) ys) (map (λ m. m.is_free) ys) qs

    pub third_goes : (done : List FactPosition) (o : Option Nf) (qs new : List Position)
        → equation_given x.is_free v ms x.position qs ≡ Done o → new ≡ freed_by_rebase x.is_free x.position o qs
        → followed (done ++ position_with_equation x.position o ∷ []) (third_over (drop (i + 1) xs) new) ≡ followed done (third_over (drop i xs) qs)
    third_goes done o qs new a f =
        let behind : Option Nf → List Position → Computed (List FactPosition) =
        λ p gs. after (third_over (drop (i + 1) xs) gs) (λ ys. Done (position_with_equation x.position p ∷ ys)) in
        more_done done (position_with_equation x.position o) (third_over (drop (i + 1) xs) new)
        ∙ ap (λ gs. followed done (behind o gs)) f
        ∙ sym (ap (λ ys. followed done (third_over ys qs)) (drop_next xs i x inside is)
        ∙ ap (λ c. followed done (after c (λ p. behind p (freed_by_rebase x.is_free x.position p qs)))) a)

    pub third_stops : (done : List FactPosition) (qs : List Position) (event : NfStop)
        → Answers {T = Option Nf} (Err event) (equation_given x.is_free v ms x.position qs)
        → Answers {T = List FactPosition} (Err event) (followed done (third_over (drop i xs) qs))
    third_stops done qs event a =
        let given = equation_given x.is_free v ms x.position qs in
        let next : Option Nf → Computed (List FactPosition) =
        λ p. after (third_over (drop (i + 1) xs) (freed_by_rebase x.is_free x.position p qs)) (λ ys. Done (position_with_equation x.position p ∷ ys)) in
        subst (λ ys. Answers {T = List FactPosition} (Err event) (followed done (third_over ys qs))) (sym (drop_next xs i x inside is))
        (stops event (after given next) (λ ys. Done (done ++ ys)) (stops event given next a))

-- the same of a join, whose positions are seen as plain data
module _ {X : Type 0} (view : X → FactPosition) (v : List (Pos × Nf)) (xs : List X) (i : ℕ) (x : X) (inside : i < length xs) (is : x ≡ get_or xs i x)
    (left : List ℕ) where
  abbrev joined_over : ℕ → List ℕ → List X → List Freed → Computed (List FactPosition)
  joined_over k js ys fs = joined_from v k js fs (map view ys)

  pub join_goes : (done : List FactPosition) (o : Option Nf) (fs new : List Freed)
      → equation_joined v (is_first_place i left) (view x).pos (view x).equation fs ≡ Done o
      → new ≡ freed_by_join (is_first_place i left) (view x).pos (view x).equation o fs
      → followed (done ++ with_joined (view x) o ∷ []) (joined_over (i + 1) (left_behind i left) (drop (i + 1) xs) new)
      ≡ followed done (joined_over i left (drop i xs) fs)
  join_goes done o fs new a f =
      let behind : Option Nf → List Freed → Computed (List FactPosition) =
      λ p gs. after (joined_over (i + 1) (left_behind i left) (drop (i + 1) xs) gs) (λ ys. Done (with_joined (view x) p ∷ ys)) in
      more_done done (with_joined (view x) o) (joined_over (i + 1) (left_behind i left) (drop (i + 1) xs) new)
      ∙ ap (λ gs. followed done (behind o gs)) f
      ∙ sym (ap (λ ys. followed done (joined_over i left ys fs)) (drop_next xs i x inside is)
      ∙ ap (λ c. followed done (after c (λ p. behind p (freed_by_join (is_first_place i left) (view x).pos (view x).equation p fs)))) a)

  pub join_stops : (done : List FactPosition) (fs : List Freed) (event : NfStop)
      → Answers {T = Option Nf} (Err event) (equation_joined v (is_first_place i left) (view x).pos (view x).equation fs)
      → Answers {T = List FactPosition} (Err event) (followed done (joined_over i left (drop i xs) fs))
  join_stops done fs event a =
      let given = equation_joined v (is_first_place i left) (view x).pos (view x).equation fs in
      let next : Option Nf → Computed (List FactPosition) =
      λ p. after (joined_over (i + 1) (left_behind i left) (drop (i + 1) xs) (freed_by_join (is_first_place i left) (view x).pos (view x).equation p fs))
      (λ ys. Done (with_joined (view x) p ∷ ys)) in
      subst (λ ys. Answers {T = List FactPosition} (Err event) (followed done (joined_over i left ys fs))) (sym (drop_next xs i x inside is))
      (stops event (after given next) (λ ys. Done (done ++ ys)) (stops event given next a))
