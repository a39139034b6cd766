-- The moves of a node, by the branches of their paths.
use Rattle.std.proofs.Common.{◌≡◌, ℕ, zero, suc, ◌+◌, ◌*◌, ◌≤◌, refl, ap, sym, subst, ◌∙◌, arith, List, [], ◌∷◌, ◌++◌, length, map, Some, None}
use Rattle.std.proofs.lemmas.List.{length-append, length-map, map-append}
use Rattle.std.specs.Prelude.{slice_get}
use Rattle.std.specs.List.{flat_map, range_with_len, AllByRecursion}
use Rattle.fs_model.proofs.Quantifiers.{each_weaker, each_at}
use Rattle.fs_model.proofs.Lists.{map_map}
use Rattle.fs_model.specs.SoundMachines.{branch_count}
use Rattle.fs_model.specs.Machines.{Fsmd}
use Rattle.fs_model.specs.Limits.{most_branches}
use Rattle.fs_cut.specs.Paths.{Point, Start, At, Done, Path}
use Rattle.fs_cut.specs.Covers.{path_by, paths_of}
use Rattle.cert_bisimulation.specs.declared.mode.Mode.{Mode}
use Rattle.cert_bisimulation.specs.declared.mode.Mode.TheVariants.{Both, Left, Right, End}
use Rattle.search_tables.specs.SearchTables.{MachinePair, SearchNode, PathPair}
use Rattle.search_tables.specs.Next.{paths_in, move_by}
use Rattle.search_tables.proofs.Lists.{all_in, all_from, all_flat}
use Rattle.search_tables.proofs.RankLists.{get_map_back}
use Rattle.search_places.specs.Moves.{most_moves, move, rights_beside, lefts_alone, pairs, moves_in_mode, paths_at}

-- ---- each path of a point stands at the place of its branch
range_at : (i n k j : ℕ) → slice_get (range_with_len i n) k ≡ Some j → j ≡ i + k
range_at i zero k j e = absurd (cc e)
range_at i (suc n) zero j e = let s : i ≡ j = cc e in omega (arith, s)
range_at i (suc n) (suc k) j e = let s = range_at (i + 1) n k j e in omega (arith, s)

abbrev StandsIn : List Path → Path → Type 0
StandsIn ps p = slice_get ps p.branch ≡ Some p

paths_stand_by : (m : Fsmd) (P : Point) (q : ℕ) (n : ℕ)
    → AllByRecursion (StandsIn (map (path_by m P q) (range_with_len 0 n))) (map (path_by m P q) (range_with_len 0 n))
paths_stand_by m P q n =
    all_in (StandsIn (map (path_by m P q) (range_with_len 0 n))) (map (path_by m P q) (range_with_len 0 n)) (λ k p e.
    let b = get_map_back (path_by m P q) (range_with_len 0 n) k p e in
    let at : b.0 ≡ 0 + k = range_at 0 n k b.0 b.1 in
    let branch : p.branch ≡ b.0 = sym (ap (λ (r : Path). r.branch) b.2) in
    let here : k ≡ p.branch = omega (arith, at, branch) in
    subst (λ j. slice_get (map (path_by m P q) (range_with_len 0 n)) j ≡ Some p) here e)

paths_stand : (m : Fsmd) (P : Point) → AllByRecursion (StandsIn (paths_of m P)) (paths_of m P)
paths_stand m Start = paths_stand_by m Start m.reset (branch_count m m.reset)
paths_stand m (At q) = paths_stand_by m (At q) q (branch_count m q)
paths_stand m Done = tt

-- the paths of a move are found again
abbrev Again : MachinePair → ℕ → SearchNode → PathPair → Type 0
Again m i n x = paths_at m n (move_by i x) ≡ x

all_again : (m : MachinePair) (i : ℕ) (n : SearchNode) (x : Mode) → AllByRecursion (Again m i n) (paths_in m n x)
all_again m i n Both =
    all_flat (Again m i n) (λ p. map (λ q. record { left = Some p; right = Some q }) (paths_of m.right n.right)) (paths_of m.left n.left)
    (each_weaker (StandsIn (paths_of m.left n.left))
    (λ p. AllByRecursion (Again m i n) (map (λ q. record { left = Some p; right = Some q }) (paths_of m.right n.right))) (paths_of m.left n.left)
    (λ p g. all_from (StandsIn (paths_of m.right n.right)) (Again m i n) (λ q. record { left = Some p; right = Some q }) (paths_of m.right n.right)
    (λ q h. λ k. record { left = g k; right = h k }) (paths_stand m.right n.right)) (paths_stand m.left n.left))
all_again m i n Left = all_from (StandsIn (paths_of m.left n.left)) (Again m i n) (λ p. record { left = Some p; right = None }) (paths_of m.left n.left)
    (λ p g. λ k. record { left = g k; right = None }) (paths_stand m.left n.left)
all_again m i n Right = all_from (StandsIn (paths_of m.right n.right)) (Again m i n) (λ q. record { left = None; right = Some q }) (paths_of m.right n.right)
    (λ q g. λ k. record { left = None; right = g k }) (paths_stand m.right n.right)
all_again m i n End = tt

pub again : (m : MachinePair) (i : ℕ) (n : SearchNode) (x : Mode) (p : ℕ) (y : PathPair) → slice_get (paths_in m n x) p ≡ Some y
    → paths_at m n (move_by i y) ≡ y
again m i n x p y e = each_at (Again m i n) (paths_in m n x) p y (all_again m i n x) e

-- ---- lists of moves

map_flat : {X Y Z : Type 0} (f : Y → Z) (g : X → List Y) (h : X → List Z) → ((x : X) → map f (g x) ≡ h x) → (xs : List X)
    → map f (flat_map g xs) ≡ flat_map h xs
map_flat f g h e [] = refl
map_flat f g h e (x ∷ xs) = map-append f (g x) (flat_map g xs) ∙ ap (λ ys. ys ++ map f (flat_map g xs)) (e x) ∙ ap (λ ys. h x ++ ys) (map_flat f g h e xs)

both_moves : (m : MachinePair) (i : ℕ) (n : SearchNode) → map (move_by i) (paths_in m n Both) ≡ pairs i (paths_of m.left n.left) (paths_of m.right n.right)
both_moves m i n =
    map_flat (move_by i) (λ p. map (λ q. record { left = Some p; right = Some q }) (paths_of m.right n.right))
    (λ p. rights_beside i (Some p.branch) (paths_of m.right n.right))
    (λ p. map_map (move_by i) (λ q. record { left = Some p; right = Some q }) (paths_of m.right n.right)) (paths_of m.left n.left)

left_moves : (m : MachinePair) (i : ℕ) (n : SearchNode) → map (move_by i) (paths_in m n Left) ≡ lefts_alone i (paths_of m.left n.left)
left_moves m i n = map_map (move_by i) (λ p. record { left = Some p; right = None }) (paths_of m.left n.left)

right_moves : (m : MachinePair) (i : ℕ) (n : SearchNode) → map (move_by i) (paths_in m n Right) ≡ rights_beside i None (paths_of m.right n.right)
right_moves m i n = map_map (move_by i) (λ q. record { left = None; right = Some q }) (paths_of m.right n.right)

pub moves_are : (m : MachinePair) (i : ℕ) (n : SearchNode) (x : Mode)
    → map (move_by i) (paths_in m n x) ≡ moves_in_mode i (paths_of m.left n.left) (paths_of m.right n.right) x
moves_are m i n Both = both_moves m i n
moves_are m i n Left = left_moves m i n
moves_are m i n Right = right_moves m i n
moves_are m i n End = refl

-- ---- how many moves there are
rows_few : {X Y : Type 0} (f : X → List Y) → ((x : X) → length (f x) ≤ 64) → (xs : List X) → length (flat_map f xs) ≤ 64 * length xs
rows_few f h [] = omega arith
rows_few f h (x ∷ xs) =
    let a = h x in
    let b = rows_few f h xs in
    omega (arith, length-append (f x) (flat_map f xs))

pairs_few : (i : ℕ) (ps qs : List Path) → length ps ≤ most_branches → length qs ≤ most_branches → length (pairs i ps qs) ≤ most_moves
pairs_few i ps qs h g =
    let row : (p : Path) → length (rights_beside i (Some p.branch) qs) ≤ 64 =
    λ p. (let e = length-map qs (λ (q : Path). move i (Some p.branch) (Some q.branch)) in omega (arith, e, g)) in
    let all : length (pairs i ps qs) ≤ 64 * length ps = rows_few (λ (p : Path). rights_beside i (Some p.branch) qs) row ps in
    omega (arith, all, h)

pub moves_few : (i : ℕ) (ps qs : List Path) (x : Mode) → length ps ≤ most_branches → length qs ≤ most_branches → length (moves_in_mode i ps qs x) ≤ most_moves
moves_few i ps qs Both h g = pairs_few i ps qs h g
moves_few i ps qs Left h g = let e = length-map ps (λ (p : Path). move i (Some p.branch) None) in omega (arith, e, h)
moves_few i ps qs Right h g = let e = length-map qs (λ (q : Path). move i None (Some q.branch)) in omega (arith, e, g)
moves_few i ps qs End h g = omega arith
