-- The walk from each node.
use Rattle.std.proofs.Common.{◌≡◌, ℕ, zero, suc, ◌+◌, ◌≤◌, inl, inr, refl, sym, ◌∙◌, subst, arith, List, [], ◌∷◌, length, map}
use Rattle.std.proofs.lemmas.List.{length-map}
use Rattle.std.specs.Prelude.{Some, slice_get, slice_index}
use Rattle.std.proofs.lemmas.Option.{slice_get_within}
use Rattle.search_tables.specs.Graphs.{AreRanks}
use Rattle.search_tables.specs.declared.marks.Mark.{Mark}
use Rattle.search_tables.specs.declared.marks.Mark.TheVariants.{New, Open, Ranked}
use Rattle.search_tables.specs.Walks.{rank_of, ranks_in, IsRanked, AreRight, InRange, NoneOpen, Visited, AreRanked}
use Rattle.search_tables.proofs.RankLists.{same_or_not}
use Rattle.search_tables.proofs.Marking.{rank_at}
use Rattle.search_tables.proofs.Steps.{rank_low}

only_new : {A : Type 0} (xs : List A) (i : ℕ) (m : Mark) → slice_get (map (λ _. New) xs) i ≡ Some m → m ≡ New
only_new [] i m g = cc
only_new (x ∷ xs) zero m g = cc
only_new (x ∷ xs) (suc i) m g = only_new xs i m g

pub new_right : {A : Type 0} (E : List (List ℕ)) (xs : List A) (M : List Mark) → M ≡ map (λ _. New) xs → length xs ≡ length E → AreRight E M
new_right E xs M e n = subst (AreRight E) (sym e) (record {
  count = length-map xs (λ _. New) ∙ n;
  targets = λ i r js g h. absurd (let z = only_new xs i (Ranked r) g in cc);
  rank = λ i r js g h. absurd (let z = only_new xs i (Ranked r) g in cc);
  low = λ i r g. absurd (let z = only_new xs i (Ranked r) g in cc);
})

pub new_closed : {A : Type 0} (xs : List A) (M : List Mark) → M ≡ map (λ _. New) xs → NoneOpen M
new_closed xs M e i d g = let z = only_new xs i (Open d) (subst (λ N. slice_get N i ≡ Some (Open d)) e g) in cc

pub none_ranked : (M : List Mark) → AreRanked M 0
none_ranked M = record { each = λ i lt. absurd (omega arith) }

pub one_ranked : (E : List (List ℕ)) (M N : List Mark) (n : ℕ) → AreRanked M n → Visited E M N n → AreRanked N (n + 1)
one_ranked E M N n a v = record {
  each = λ i lt. elim (same_or_not i n) [
    | inl e ↦ subst (IsRanked N) (sym e) v.ranked
    | inr d ↦ (let r = a.each i (omega arith) in record { rank = r.rank; mark = v.extends.kept i r.rank r.mark })
  ];
}

low_by : (M : List Mark) (n : ℕ) → ((i r : ℕ) → slice_get M i ≡ Some (Ranked r) → r ≤ n) → (i : ℕ) → slice_index (ranks_in M) i ≤ n
low_by [] n h i = omega arith
low_by (New ∷ M) n h zero = omega arith
low_by (Open d ∷ M) n h zero = omega arith
low_by (Ranked r ∷ M) n h zero = h 0 r refl
low_by (m ∷ M) n h (suc i) = low_by M n (λ j r g. h (suc j) r g) i

pub all_ranked : (E : List (List ℕ)) (M : List Mark) (n : ℕ) (ranks : List ℕ) → InRange E → AreRight E M → AreRanked M n → length E ≤ n → ranks ≡ ranks_in M
    → AreRanks E ranks × ((i : ℕ) → slice_index ranks i ≤ 4096)
all_ranked E M n ranks range right all le e =
    let are : AreRanks E (ranks_in M) = record {
      count = length-map M rank_of ∙ right.count;
      each = λ i js g. let w = slice_get_within E i js g in let r = all.each i (omega arith) in rank_at M i r.rank r.mark ∙ right.rank i r.rank js r.mark g;
    } in
    let low : (i : ℕ) → slice_index (ranks_in M) i ≤ 4096 = low_by M 4096 (λ i r g. let z = rank_low E M i r range right g in omega (arith, z)) in
    subst (λ rs. AreRanks E rs × ((i : ℕ) → slice_index rs i ≤ 4096)) (sym e) (are, low)
