-- A graph that was tested is in range.
use Rattle.std.proofs.Common.{◌≡◌, ℕ, zero, suc, ◌≤◌, Bool, true, ◌&&◌, List, [], ◌∷◌, length, Some, nat_lt, nat_le, sym, subst, ◌∙◌, arith, rules}
use Rattle.std.specs.Prelude.{slice_get, IsTrue}
use Rattle.std.specs.List.{list_all}
use Rattle.search_tables.specs.Walks.{InRange}
use Rattle.search_strengthening_tables.specs.Edges.{are_edges}

-- what all members pass, the one at a place passes
pub passed : {A : Type 0} (f : A → Bool) (xs : List A) → list_all f xs ≡ true → (i : ℕ) (x : A) → slice_get xs i ≡ Some x → f x ≡ true
passed f [] h i x e = grind arith
passed f (y ∷ ys) h zero x e = grind arith
passed f (y ∷ ys) h (suc i) x e = let rest : list_all f ys ≡ true = grind arith in passed f ys rest i x e

-- the targets of a node are few, and are nodes
few_below : (count : ℕ) (js : List ℕ) → (nat_le (length js) 4096 && list_all (λ t. nat_lt t count) js) ≡ true →
    (length js ≤ 4096) × (list_all (λ t. nat_lt t count) js ≡ true)
few_below count js h = (grind arith, grind arith)

pub in_range : (E : List (List ℕ)) → length E ≤ 4096 → are_edges (length E) E ≡ true → InRange E
in_range E few h = record {
  few = few;
  short = λ i js e. (few_below (length E) js (passed (λ (ks : List ℕ). nat_le (length ks) 4096 && list_all (λ t. nat_lt t (length E)) ks) E h i js e)).0;
  targets = λ i p j js e g.
      let tested : (length js ≤ 4096) × (list_all (λ t. nat_lt t (length E)) js ≡ true) =
      few_below (length E) js (passed (λ (ks : List ℕ). nat_le (length ks) 4096 && list_all (λ t. nat_lt t (length E)) ks) E h i js e) in
      let below : nat_lt j (length E) ≡ true = passed (λ t. nat_lt t (length E)) js tested.1 p j g in
      grind arith;
}

-- the same, where the number of nodes is known otherwise
pub in_range_by : (E : List (List ℕ)) (count : ℕ) (b : Bool) → count ≡ length E → count ≤ 4096 → b ≡ are_edges count E → IsTrue b → InRange E
in_range_by E count b same few is h =
    let tested : b ≡ true = search rules in
    in_range E (subst (λ n. n ≤ 4096) same few) (subst (λ n. are_edges n E ≡ true) same (sym is ∙ tested))
