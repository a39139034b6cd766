-- Where there are ranks, there is no cycle.
use Rattle.std.proofs.Common.{◌≡◌, ℕ, zero, suc, ◌<◌, subst, arith, List, [], ◌∷◌}
use Rattle.std.specs.Prelude.{Some, slice_get, slice_index}
use Rattle.search_tables.specs.Graphs.{HasEdge, Follow, IsCycle, above, AreRanks}

below : (ranks js : List ℕ) (p j : ℕ) → slice_get js p ≡ Some j → slice_index ranks j < above ranks js
below ranks [] p j g = cc
below ranks (a ∷ js) zero j g = let e : a ≡ j = cc in subst (λ k. slice_index ranks k < above ranks (a ∷ js)) e (omega arith)
below ranks (a ∷ js) (suc p) j g = let h = below ranks js p j g in omega arith

pub edge_falls : (E : List (List ℕ)) (ranks : List ℕ) (i j : ℕ) → AreRanks E ranks → HasEdge E i j → slice_index ranks j < slice_index ranks i
edge_falls E ranks i j a h = let r = a.each i h.targets h.from in let b = below ranks h.targets h.place j h.is_in in omega (arith, r, b)

falls : (E : List (List ℕ)) (ranks : List ℕ) (x : ℕ) (xs : List ℕ) (z : ℕ) → AreRanks E ranks → Follow E (x ∷ xs) z → slice_index ranks z < slice_index ranks x
falls E ranks x [] z a h = edge_falls E ranks x z a h.0
falls E ranks x (y ∷ ys) z a h = let b = edge_falls E ranks x y a h.0 in let c = falls E ranks y ys z a h.1 in omega (arith, b, c)

pub no_cycle : (E : List (List ℕ)) (ranks xs : List ℕ) → AreRanks E ranks → IsCycle E xs → ⊥
no_cycle E ranks [] a h = h
no_cycle E ranks (x ∷ xs) a h = let f = falls E ranks x xs x a h in absurd (omega (arith, f))
