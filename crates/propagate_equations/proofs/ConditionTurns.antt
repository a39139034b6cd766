-- The conditions that are kept, one after the other, are those that are kept of all of them.
use Rattle.std.proofs.Common.{◌≡◌, ℕ, ◌+◌, ◌<◌, Bool, true, false, cond, refl, ap, sym, subst, ◌∙◌, List, [], ◌∷◌, ◌++◌, map, take, drop, filter, length}
use Rattle.std.proofs.Common.{get_or, ◌≤◌, Result, Ok, Err}
use Rattle.std.proofs.Math.ListN.{drop_of_length-le}
use Rattle.std.specs.Result.{IsErrAnd}
use Rattle.fs_model.proofs.Lists.{map_drop_next}
use Rattle.fs_model.specs.declared.sides.Pos.{Pos}
use Rattle.nf_terms.specs.Computed.{Computed, Done, Wide, Large, Answers, after}
use Rattle.nf_terms.specs.declared.form.Nf.{Nf}
use Rattle.nf_terms.specs.declared.stop.NfStop.{NfStop}
use Rattle.nf_substitution.proofs.Following.{stops, after_after}
use Rattle.nf_rel.specs.Literals.{NormalLiteral}
use Rattle.sym_paths.specs.Sequences.{each}
use Rattle.sym_paths.specs.View.{answer_in_data}
use Rattle.sym_facts.specs.Facts.{most_literals}
use Rattle.sym_facts.specs.Entailment.{literal_substituted}
use Rattle.propagate_equations.specs.Equations.{literal_held, is_needless, with_needed, conditions_over}
use Rattle.propagate_equations.specs.EquationSteps.{with_condition, conditions_from, conditions_kept}

module _ (ms : List (Pos × Nf)) where
  abbrev with_one_needed : List NormalLiteral → NormalLiteral → List NormalLiteral
  with_one_needed before m = cond (is_needless before m) before (before ++ m ∷ [])

  abbrev over_all : List NormalLiteral → Computed (List NormalLiteral)
  over_all ls = each (literal_substituted ms) ls

  needed_behind : (before ls rest : List NormalLiteral)
      → ((ks : List NormalLiteral) → conditions_from ms ks ls ≡ after (over_all rest) (λ ys. Done (with_needed ks ys))) → (c : Computed NormalLiteral)
      → after (after c (λ m. Done (with_one_needed before m))) (λ ks. conditions_from ms ks ls)
      ≡ after (after c (λ m. after (over_all rest) (λ ys. Done (m ∷ ys)))) (λ ys. Done (with_needed before ys))
  needed_behind before ls rest h (Done m) = h (with_one_needed before m)
      ∙ sym (after_after (over_all rest) (λ ys. Done (m ∷ ys)) (λ ys. Done (with_needed before ys)))
  needed_behind before ls rest h (Wide l r) = refl
  needed_behind before ls rest h (Large u d) = refl

  needed_in_turn : (ls before : List NormalLiteral) → conditions_from ms before ls ≡ after (conditions_over ms ls) (λ ys. Done (with_needed before ys))
  needed_in_turn [] before = refl
  needed_in_turn (l ∷ ls) before = by_test (literal_held ms l) (λ ks. needed_in_turn ls ks)
    where
      held : List NormalLiteral
      held = filter (literal_held ms) ls

      by_test : (b : Bool) → ((ks : List NormalLiteral) → conditions_from ms ks ls ≡ after (over_all held) (λ ys. Done (with_needed ks ys)))
          → after (cond b (after (literal_substituted ms l) (λ m. Done (with_one_needed before m))) (Done before)) (λ ks. conditions_from ms ks ls)
          ≡ after (over_all (cond b (l ∷ held) held)) (λ ys. Done (with_needed before ys))
      by_test true h = needed_behind before ls held h (literal_substituted ms l)
      by_test false h = h before

  pub kept_in_turn : (ls : List NormalLiteral) → after (conditions_from ms [] ls) (λ ks. Done (take most_literals ks)) ≡ conditions_kept ms ls
  kept_in_turn ls = ap (λ c. after c (λ ks. Done (take most_literals ks))) (needed_in_turn ls [])
      ∙ after_after (conditions_over ms ls) (λ ys. Done (with_needed [] ys)) (λ ks. Done (take most_literals ks))

  -- the turn at a place of a list
  module _ {X : Type 0} (view : X → NormalLiteral) (xs : List X) (i : ℕ) (x : X) (before : List NormalLiteral) (inside : i < length xs)
      (is : x ≡ get_or xs i x) (kept : conditions_from ms before (map view (drop i xs)) ≡ conditions_from ms [] (map view xs)) where
    turn : after (with_condition ms (view x) before) (λ ks. conditions_from ms ks (map view (drop (i + 1) xs))) ≡ conditions_from ms [] (map view xs)
    turn = sym (ap (conditions_from ms before) (map_drop_next view xs i x inside is)) ∙ kept

    pub turn_done : (ks : List NormalLiteral) → with_condition ms (view x) before ≡ Done ks
        → conditions_from ms ks (map view (drop (i + 1) xs)) ≡ conditions_from ms [] (map view xs)
    turn_done ks e = sym (ap (λ c. after c (λ us. conditions_from ms us (map view (drop (i + 1) xs)))) e) ∙ turn

    pub turn_stops : {S : Type 0} (f : S → List NormalLiteral) (r : Result S NfStop) (event : NfStop) → IsErrAnd r (λ d. d ≡ event)
        → Answers {T = List NormalLiteral} (Err event) (with_condition ms (view x) before)
        → Answers (answer_in_data f r) (conditions_kept ms (map view xs))
    turn_stops f (Ok s) event is a = absurd is
    turn_stops f (Err d) event is a = subst (λ (e : NfStop). Answers {T = List NormalLiteral} (Err e) (conditions_kept ms (map view xs))) (sym is)
        (subst (Answers {T = List NormalLiteral} (Err event)) (kept_in_turn (map view xs))
        (stops event (conditions_from ms [] (map view xs)) (λ ks. Done (take most_literals ks))
        (subst (Answers {T = List NormalLiteral} (Err event)) turn
        (stops event (with_condition ms (view x) before) (λ ks. conditions_from ms ks (map view (drop (i + 1) xs))) a))))

  pub turns_end : {X : Type 0} (view : X → NormalLiteral) (xs : List X) (i : ℕ) (before : List NormalLiteral) → length xs ≤ i
      → conditions_from ms before (map view (drop i xs)) ≡ conditions_from ms [] (map view xs)
      → conditions_kept ms (map view xs) ≡ Done (take most_literals before)
  turns_end view xs i before h kept = sym (kept_in_turn (map view xs))
      ∙ ap (λ c. after c (λ ks. Done (take most_literals ks)))
      (sym kept ∙ ap (λ us. conditions_from ms before (map view us)) (drop_of_length-le xs h))

  -- ---- one condition
  pub condition_not_held : (l : NormalLiteral) (before : List NormalLiteral) → literal_held ms l ≡ false → with_condition ms l before ≡ Done before
  condition_not_held l before h = ap (λ b. cond b (after (literal_substituted ms l) (λ m. Done (with_one_needed before m))) (Done before)) h

  module _ (v : List (Pos × Nf)) (l : NormalLiteral) (before : List NormalLiteral) (same : v ≡ ms) (held : literal_held ms l ≡ true) where
    over_this : with_condition ms l before ≡ after (literal_substituted ms l) (λ m. Done (with_one_needed before m))
    over_this = ap (λ b. cond b (after (literal_substituted ms l) (λ m. Done (with_one_needed before m))) (Done before)) held

    pub condition_over : (m : NormalLiteral) (needless : Bool) → literal_substituted v l ≡ Done m → needless ≡ is_needless before m
        → with_condition ms l before ≡ Done (cond needless before (before ++ m ∷ []))
    condition_over m needless e n = over_this
        ∙ ap (λ w. after (literal_substituted w l) (λ k. Done (with_one_needed before k))) (sym same)
        ∙ ap (λ c. after c (λ k. Done (with_one_needed before k))) e
        ∙ ap (λ b. Done (cond b before (before ++ m ∷ []))) (sym n)

    pub condition_stops : {S : Type 0} (f : S → List NormalLiteral) (r : Result S NfStop) (event : NfStop) → IsErrAnd r (λ d. d ≡ event)
        → Answers {T = NormalLiteral} (Err event) (literal_substituted v l) → Answers (answer_in_data f r) (with_condition ms l before)
    condition_stops f (Ok s) event is a = absurd is
    condition_stops f (Err d) event is a = subst (λ (e : NfStop). Answers {T = List NormalLiteral} (Err e) (with_condition ms l before)) (sym is)
        (subst (Answers {T = List NormalLiteral} (Err event)) (sym over_this)
        (stops event (literal_substituted ms l) (λ m. Done (with_one_needed before m))
        (subst (λ w. Answers {T = NormalLiteral} (Err event) (literal_substituted w l)) same a)))
