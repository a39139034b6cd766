-- Marks, changed.
use Rattle.std.proofs.Common.{◌≡◌, ℕ, suc, ◌+◌, ◌≤◌, max, inl, inr, refl, sym, ◌∙◌, ap, subst, arith, List, [], ◌∷◌, take}
use Rattle.std.proofs.lemmas.List.{length-set}
use Rattle.std.proofs.lemmas.List.Sums.{sum_by-set}
use Rattle.std.proofs.lemmas.Option.{get_or_from_slice_get, slice_get_within}
use Rattle.std.specs.List.{AllByRecursion}
use Rattle.std.specs.Prelude.{◌≢◌, Some, slice_get, slice_set, slice_index}
use Rattle.base_laws.proofs.Lists.{slice_get-of_map}
use Rattle.search_tables.specs.Graphs.{above}
use Rattle.search_tables.specs.declared.marks.Mark.{Mark}
use Rattle.search_tables.specs.declared.marks.Mark.TheVariants.{New, Open, Ranked}
use Rattle.search_tables.specs.declared.marks.Frame.{Frame}
use Rattle.search_tables.specs.Walks.{rank_of, ranks_in, one_if_ranked, ranked_count, IsRanked, AreRight, Looks, Extends}
use Rattle.search_tables.proofs.RankLists.{set_same, set_other, same_or_not}

pub rank_at : (M : List Mark) (j r : ℕ) → slice_get M j ≡ Some (Ranked r) → slice_index (ranks_in M) j ≡ r
rank_at M j r g = get_or_from_slice_get (ranks_in M) j r 0 (slice_get-of_map rank_of M j (Ranked r) g)

pub ranked_on : (M M' : List Mark) (js : List ℕ) → Extends M M' → AllByRecursion (IsRanked M) js → AllByRecursion (IsRanked M') js
ranked_on M M' [] e h = tt
ranked_on M M' (j ∷ js) e h = (record { rank = h.0.rank; mark = e.kept j h.0.rank h.0.mark }, ranked_on M M' js e h.1)

pub above_on : (M M' : List Mark) (js : List ℕ) → Extends M M' → AllByRecursion (IsRanked M) js → above (ranks_in M) js ≡ above (ranks_in M') js
above_on M M' [] e h = refl
above_on M M' (j ∷ js) e h =
    let a = rank_at M j h.0.rank h.0.mark in
    let b = rank_at M' j h.0.rank (e.kept j h.0.rank h.0.mark) in
    let s : slice_index (ranks_in M) j ≡ slice_index (ranks_in M') j = a ∙ sym b in
    ap (λ x. max (suc x) (above (ranks_in M) js)) s ∙ ap (λ x. max (suc (slice_index (ranks_in M') j)) x) (above_on M M' js e h.1)

-- a node without rank is marked
pub extends_set : (M : List Mark) (i : ℕ) (old new : Mark) → slice_get M i ≡ Some old → ((r : ℕ) → old ≢ Ranked r) → Extends M (slice_set M i new)
extends_set M i old new g d = record {
  kept = λ j r h. elim (same_or_not j i) [
    | inl e ↦ absurd (d r (let a : slice_get M i ≡ Some (Ranked r) = subst (λ k. slice_get M k ≡ Some (Ranked r)) e h in cc))
    | inr n ↦ set_other M i j new n ∙ h
  ];
}

pub ranked_set : (M : List Mark) (i : ℕ) (old new : Mark) → slice_get M i ≡ Some old
    → ranked_count (slice_set M i new) + one_if_ranked old ≡ ranked_count M + one_if_ranked new
ranked_set M i old new g = subst (λ o. ranked_count (slice_set M i new) + one_if_ranked o ≡ ranked_count M + one_if_ranked new)
    (get_or_from_slice_get M i old old g)
    (sum_by-set one_if_ranked M i new old (slice_get_within M i old g))

pub looks_on : (E : List (List ℕ)) (M M' : List Mark) (f : Frame) → Extends M M' → ranked_count M ≤ ranked_count M' → Looks E M f → Looks E M' f
looks_on E M M' f e le l = record {
  targets = l.targets;
  from = l.from;
  within = l.within;
  done = ranked_on M M' (take f.next l.targets) e l.done;
  best = l.best ∙ above_on M M' (take f.next l.targets) e l.done;
  low = omega (arith, l.low, le);
}

-- an open node gets its rank
pub right_ranked : (E : List (List ℕ)) (M : List Mark) (i d r : ℕ) (js : List ℕ) → AreRight E M → slice_get M i ≡ Some (Open d) → slice_get E i ≡ Some js
    → AllByRecursion (IsRanked M) js → r ≡ above (ranks_in M) js → r ≤ ranked_count M → AreRight E (slice_set M i (Ranked r))
right_ranked E M i d r js right g h all e low =
    let M' = slice_set M i (Ranked r) in
    let ext : Extends M M' = extends_set M i (Open d) (Ranked r) g (λ q z. cc) in
    let more : ranked_count M' ≡ ranked_count M + 1 = (let s = ranked_set M i (Open d) (Ranked r) g in omega (arith, s)) in
    record {
      count = length-set M i (Ranked r) ∙ right.count;
      targets = λ j q ks a b. elim (same_or_not j i) [
        | inl s ↦
            (let t : js ≡ ks = (let u = subst (λ z. slice_get E z ≡ Some ks) s b in cc) in
            ranked_on M M' ks ext (subst (λ z. AllByRecursion (IsRanked M) z) t all))
        | inr n ↦ (let u = sym (set_other M i j (Ranked r) n) ∙ a in ranked_on M M' ks ext (right.targets j q ks u b))
      ];
      rank = λ j q ks a b. elim (same_or_not j i) [
        | inl s ↦ (let t : js ≡ ks = (let u = subst (λ z. slice_get E z ≡ Some ks) s b in cc) in
            let v : slice_get M' i ≡ Some (Ranked q) = subst (λ z. slice_get M' z ≡ Some (Ranked q)) s a in
            let x : slice_get M' i ≡ Some (Ranked r) = set_same M i (Open d) (Ranked r) g in
            let y : q ≡ r = cc in
            y ∙ e ∙ above_on M M' js ext all ∙ ap (above (ranks_in M')) t)
        | inr n ↦ (let u = sym (set_other M i j (Ranked r) n) ∙ a in right.rank j q ks u b ∙ above_on M M' ks ext (right.targets j q ks u b))
      ];
      low = λ j q a. elim (same_or_not j i) [
        | inl s ↦ (let v : slice_get M' i ≡ Some (Ranked q) = subst (λ z. slice_get M' z ≡ Some (Ranked q)) s a in
            let x : slice_get M' i ≡ Some (Ranked r) = set_same M i (Open d) (Ranked r) g in
            let y : q ≡ r = cc in
            omega (arith, y, low, more))
        | inr n ↦ (let u = sym (set_other M i j (Ranked r) n) ∙ a in let z = right.low j q u in omega (arith, z, more))
      ];
    }

-- a new node is opened
pub right_opened : (E : List (List ℕ)) (M : List Mark) (i d : ℕ) → AreRight E M → slice_get M i ≡ Some New → AreRight E (slice_set M i (Open d))
right_opened E M i d right g =
    let M' = slice_set M i (Open d) in
    let ext : Extends M M' = extends_set M i New (Open d) g (λ q z. cc) in
    let more : ranked_count M' ≡ ranked_count M = (let s = ranked_set M i New (Open d) g in omega (arith, s)) in
    let back = λ (j q : ℕ) (a : slice_get M' j ≡ Some (Ranked q)). open_other M i j d q g a in
    record {
      count = length-set M i (Open d) ∙ right.count;
      targets = λ j q ks a b. ranked_on M M' ks ext (right.targets j q ks (back j q a) b);
      rank = λ j q ks a b. right.rank j q ks (back j q a) b ∙ above_on M M' ks ext (right.targets j q ks (back j q a) b);
      low = λ j q a. (let z = right.low j q (back j q a) in omega (arith, z, more));
    } where
      open_other : (M : List Mark) (i j d q : ℕ) → slice_get M i ≡ Some New → slice_get (slice_set M i (Open d)) j ≡ Some (Ranked q)
          → slice_get M j ≡ Some (Ranked q)
      open_other M i j d q g a = elim (same_or_not j i) [
        | inl s ↦
            absurd (let v : slice_get (slice_set M i (Open d)) i ≡ Some (Ranked q) = subst (λ z. slice_get (slice_set M i (Open d)) z ≡ Some (Ranked q)) s a in
            let x : slice_get (slice_set M i (Open d)) i ≡ Some (Open d) = set_same M i New (Open d) g in cc)
        | inr n ↦ sym (set_other M i j (Open d) n) ∙ a
      ]
