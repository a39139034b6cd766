-- No valid placing is shorter than the chain.
use Rattle.std.proofs.Common.{◌≡◌, ℕ, suc, ◌+◌, ◌<◌, ◌≤◌, List, [], ◌∷◌, arith, Bool, true, false}
use Rattle.std.specs.Prelude.{not, nat_lt, cond, max}
use Rattle.std.specs.List.{list_all}
use Rattle.std.proofs.lemmas.Bool.Decides.{nat_tests}
use Rattle.std.proofs.lemmas.Bool.{ltb-true}
use Rattle.fs_model.proofs.Booleans.{and_first, and_second}
use Rattle.hls_block_filling.specs.Items.{is_strict, is_weak}
use Rattle.hls_block_filling.specs.Placings.{Placed, items_of, respects_edge, is_valid, all_below}
use Rattle.hls_block_filling.specs.Heights.{strict_edges_through, height_over, heights, chain_of}

-- each item's row and height together are below n
abbrev pub Room : ℕ → List Placed → List ℕ → Type 0
Room n [] hs = Unit {0}
Room n (p ∷ ps) [] = Unit {0}
Room n (p ∷ ps) (h ∷ hs) = (p.row + h < n) × Room n ps hs

edge_room : (n r s h : ℕ) (a b : Bool) → r < n → s + h < n → cond a (nat_lt r s) (cond b (not (nat_lt s r)) true) ≡ true → r + cond a (suc h) (cond b h 0) < n
edge_room n r s h true b i j e = let k : r < s = grind (arith, nat_tests) in omega (arith, k, j)
edge_room n r s h false true i j e = let k : r ≤ s = grind (arith, nat_tests) in omega (arith, k, j)
edge_room n r s h false false i j e = omega (arith, i)

max_room : (n r a b : ℕ) → r + a < n → r + b < n → r + max a b < n
max_room n r a b i j = omega (arith, i, j)

over_room : (n : ℕ) (p : Placed) (ps : List Placed) (hs : List ℕ) → p.row < n → list_all (respects_edge p) ps ≡ true → Room n ps hs
    → p.row + height_over p.item (items_of ps) hs < n
over_room n p [] hs i v w = omega (arith, i)
over_room n p (q ∷ ps) [] i v w = omega (arith, i)
over_room n p (q ∷ ps) (h ∷ hs) i v w =
    max_room n p.row (strict_edges_through p.item q.item h) (height_over p.item (items_of ps) hs)
    (edge_room n p.row q.row h (is_strict p.item q.item) (is_weak p.item q.item) i w.0 (and_first (respects_edge p q) (list_all (respects_edge p) ps) v))
    (over_room n p ps hs i (and_second (respects_edge p q) (list_all (respects_edge p) ps) v) w.1)

room : (n : ℕ) (ps : List Placed) → is_valid ps ≡ true → all_below n ps ≡ true → Room n ps (heights (items_of ps))
room n [] v b = tt
room n (p ∷ ps) v b =
    let rest = room n ps (and_second (list_all (respects_edge p) ps) (is_valid ps) v) (and_second (nat_lt p.row n) (all_below n ps) b) in
    let i : p.row < n = ltb-true p.row n (and_first (nat_lt p.row n) (all_below n ps) b) in
    (over_room n p ps (heights (items_of ps)) i (and_first (list_all (respects_edge p) ps) (is_valid ps) v) rest, rest)

all_room : (n : ℕ) (ps : List Placed) → Room n ps (heights (items_of ps)) → chain_of (items_of ps) ≤ n
all_room n [] w = omega arith
all_room n (p ∷ ps) w = omega (arith, w.0, all_room n ps w.1)

pub no_shorter : (ps : List Placed) (n : ℕ) → is_valid ps ≡ true → all_below n ps ≡ true → chain_of (items_of ps) ≤ n
no_shorter ps n v b = all_room n ps (room n ps v b)
