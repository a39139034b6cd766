-- What loops keep: what is done, followed by what is left.
use Rattle.std.proofs.Common.{◌≡◌, ℕ, zero, suc, ◌+◌, ◌-◌, ◌<◌, ◌≤◌, List, [], ◌∷◌, ◌++◌, length, map, ap, sym, refl, ◌∙◌, subst, arith, append_assoc}
use Rattle.std.proofs.Common.{append-nil, Bool, true, false}
use Rattle.std.specs.Prelude.{cond, filter}
use Rattle.std.specs.List.{slice_index_or, range_with_len}
use Rattle.std.proofs.lemmas.List.{get_or-map, length-map}
use Rattle.fs_model.specs.SoundMachines.{IsSound, branch_count, is_cutpoint}
use Rattle.fs_model.specs.declared.parts.Branch.{Branch as CodeBranch}
use Rattle.fs_model.specs.Machines.{Fsmd, transitions_of}
use Rattle.fs_model.specs.Trees.{Branch, branches_of}
use Rattle.fs_model.specs.View.{branch_of}
use Rattle.fs_cut.specs.Paths.{Point, At, Done, Path, is_fork, target_of}
use Rattle.fs_cut.specs.Covers.{passed_states, state_reached, PointPaths, points_with_paths, has_point, paths_from, points_of}
use Rattle.fs_cut.specs.View.{listed_paths, ListsPoints}
use Rattle.fs_cut.proofs.Branches.{target_in, some_branch, no_branch}
use Rattle.fs_cut.proofs.Listed.{found, missing, none_past}

-- ---- a branch of the code
pub count_is : (m : Fsmd) (q : ℕ) (bs : List CodeBranch) → map branch_of bs ≡ branches_of (transitions_of m q) → length bs ≡ branch_count m q
count_is m q bs e = sym (length-map bs branch_of) ∙ ap length e

target_at : (m : Fsmd) (q k : ℕ) (bs : List CodeBranch) (b : CodeBranch) → map branch_of bs ≡ branches_of (transitions_of m q) → k < branch_count m q
    → (slice_index_or bs k b).target.0 ≡ target_of m q k
target_at m q k bs b e h =
    ap (λ (x : Branch). x.target) (sym (get_or-map branch_of bs k b no_branch (omega (arith, count_is m q bs e))))
    ∙ ap (λ (l : List Branch). (slice_index_or l k no_branch).target) e

pub target_is_in :
    (m : Fsmd) (q k : ℕ) (bs : List CodeBranch) (b : CodeBranch) → IsSound m → map branch_of bs ≡ branches_of (transitions_of m q)
    → k < branch_count m q → (slice_index_or bs k b).target.0 < length m.states
target_is_in m q k bs b sound e h = subst (λ n. n < length m.states) (sym (target_at m q k bs b e h)) (target_in m sound q k h)

pub first_target_at :
    (m : Fsmd) (q : ℕ) (bs : List CodeBranch) (b : CodeBranch) → IsSound m → q < length m.states
    → map branch_of bs ≡ branches_of (transitions_of m q) → (slice_index_or bs 0 b).target.0 ≡ target_of m q 0
first_target_at m q bs b sound h e = target_at m q 0 bs b e (some_branch m sound q h)

pub first_target_is_in : (m : Fsmd) (q : ℕ) (bs : List CodeBranch) (b : CodeBranch) → IsSound m → q < length m.states
    → map branch_of bs ≡ branches_of (transitions_of m q) → (slice_index_or bs 0 b).target.0 < length m.states
first_target_is_in m q bs b sound h e = target_is_in m q 0 bs b sound e (some_branch m sound q h)

pub has_first : (m : Fsmd) (q : ℕ) (bs : List CodeBranch) → IsSound m → q < length m.states → map branch_of bs ≡ branches_of (transitions_of m q)
    → 0 < length bs
has_first m q bs sound h e = omega (arith, count_is m q bs e, some_branch m sound q h)

-- ---- one more
more_by : {X Y : Type 0} (g : X → Y) (old : List X) (x : X) (rest : List Y) → map g (old ++ x ∷ []) ++ rest ≡ map g old ++ g x ∷ rest
more_by g [] x rest = refl
more_by g (y ∷ old) x rest = ap (λ l. g y ∷ l) (more_by g old x rest)

pub more : {X Y : Type 0} (g : X → Y) (old new : List X) (x : X) (y : Y) (rest whole : List Y) → new ≡ old ++ x ∷ [] → g x ≡ y → whole ≡ y ∷ rest
    → map g new ++ rest ≡ map g old ++ whole
more g old new x y rest whole e f h =
    ap (λ l. map g l ++ rest) e ∙ more_by g old x rest ∙ ap (λ z. map g old ++ z ∷ rest) f ∙ ap (λ l. map g old ++ l) (sym h)

pub range_step : (k n : ℕ) → k < n → range_with_len k (n - k) ≡ k ∷ range_with_len (k + 1) (n - (k + 1))
range_step k n h =
    let e : n - k ≡ suc (n - (k + 1)) = omega arith in
    ap (range_with_len k) e

pub range_map_step : {Y : Type 0} (f : ℕ → Y) (k n : ℕ) → k < n → map f (range_with_len k (n - k)) ≡ f k ∷ map f (range_with_len (k + 1) (n - (k + 1)))
range_map_step f k n h = ap (map f) (range_step k n h)

pub range_done : {Y : Type 0} (f : ℕ → Y) (out : List Y) (k n : ℕ) → n - k ≡ 0 → out ++ map f (range_with_len k (n - k)) ≡ map f (range_with_len 0 n)
    → out ≡ map f (range_with_len 0 n)
range_done f out k n e h = sym (append-nil out) ∙ sym (ap (λ j. out ++ map f (range_with_len k j)) e) ∙ h

-- ---- the states that are passed
pub passed_more : (m : Fsmd) (n k q t : ℕ) → k < n → is_cutpoint m q ≡ false → t ≡ target_of m q 0
    → passed_states m (n - k) q ≡ q ∷ passed_states m (n - (k + 1)) t
passed_more m n k q t h c e =
    let j : n - k ≡ suc (n - (k + 1)) = omega arith in
    ap (λ i. passed_states m i q) j ∙ ap (λ b. cond b [] (q ∷ passed_states m (n - (k + 1)) (target_of m q 0))) c
    ∙ ap (λ x. q ∷ passed_states m (n - (k + 1)) x) (sym e)

pub reached_more : (m : Fsmd) (n k q t : ℕ) → k < n → is_cutpoint m q ≡ false → t ≡ target_of m q 0
    → state_reached m (n - k) q ≡ state_reached m (n - (k + 1)) t
reached_more m n k q t h c e =
    let j : n - k ≡ suc (n - (k + 1)) = omega arith in
    ap (λ i. state_reached m i q) j ∙ ap (λ b. cond b q (state_reached m (n - (k + 1)) (target_of m q 0))) c ∙ ap (λ x. state_reached m (n - (k + 1)) x) (sym e)

pub passed_none : (m : Fsmd) (j q : ℕ) → is_cutpoint m q ≡ true → passed_states m j q ≡ []
passed_none m zero q c = refl
passed_none m (suc j) q c = ap (λ b. cond b [] (q ∷ passed_states m j (target_of m q 0))) c

pub reached_here : (m : Fsmd) (j q : ℕ) → is_cutpoint m q ≡ true → state_reached m j q ≡ q
reached_here m zero q c = refl
reached_here m (suc j) q c = ap (λ b. cond b q (state_reached m j (target_of m q 0))) c

pub all_passed : (out whole rest : List ℕ) → rest ≡ [] → out ++ rest ≡ whole → out ≡ whole
all_passed out whole rest e h = sym (append-nil out) ∙ ap (λ l. out ++ l) (sym e) ∙ h

-- ---- points
forks_by : (m : Fsmd) (k : ℕ) (b : Bool) (xs : List ℕ) (done : List Point) → map At (cond b (k ∷ xs) xs) ++ done ≡ cond b (At k ∷ []) [] ++ (map At xs ++ done)
forks_by m k true xs done = refl
forks_by m k false xs done = refl

-- the points of the states from one on, and the end
abbrev pub points_left : Fsmd → ℕ → ℕ → List Point
points_left m k n = map At (filter (is_fork m) (range_with_len k (n - k))) ++ Done ∷ []

pub points_more : (m : Fsmd) (old new : List Point) (k n : ℕ) → k < n → new ≡ old ++ cond (is_fork m k) (At k ∷ []) []
    → new ++ points_left m (k + 1) n ≡ old ++ points_left m k n
points_more m old new k n h e =
    let rest = filter (is_fork m) (range_with_len (k + 1) (n - (k + 1))) in
    ap (λ l. l ++ points_left m (k + 1) n) e
    ∙ append_assoc old (cond (is_fork m k) (At k ∷ []) []) (points_left m (k + 1) n)
    ∙ ap (λ l. old ++ l) (sym (forks_by m k (is_fork m k) rest (Done ∷ [])))
    ∙ ap (λ l. old ++ (map At (filter (is_fork m) l) ++ Done ∷ [])) (sym (range_step k n h))

pub points_done : (m : Fsmd) (old : List Point) (k n : ℕ) → n - k ≡ 0 → old ++ points_left m k n ≡ points_of m → old ++ Done ∷ [] ≡ points_of m
points_done m old k n e h = sym (ap (λ j. old ++ (map At (filter (is_fork m) (range_with_len k j)) ++ Done ∷ [])) e) ∙ h

-- ---- what is found in a cover
found_by : (start : List Path) (forks : List (List Path)) (ps : List Point) (P : Point) (t : Bool) → ListsPoints ps start forks
    → has_point (points_with_paths (listed_paths start forks) ps) P ≡ t
    → paths_from (points_with_paths (listed_paths start forks) ps) P ≡ listed_paths start forks P
found_by start forks ps P true i h = found (listed_paths start forks) ps P h
found_by start forks ps P false i h = missing (listed_paths start forks) ps P h ∙ sym (i.no_other P h)

pub found_in : (start : List Path) (forks : List (List Path)) (ps : List Point) (es : List PointPaths) (P Q : Point) → ListsPoints ps start forks
    → points_with_paths (listed_paths start forks) ps ≡ es → P ≡ Q → listed_paths start forks Q ≡ paths_from es P
found_in start forks ps es P Q i e d =
    ap (listed_paths start forks) (sym d) ∙ sym (found_by start forks ps P (has_point (points_with_paths (listed_paths start forks) ps) P) i refl)
    ∙ ap (λ (l : List PointPaths). paths_from l P) e

pub some_at : {X Y : Type 0} (g : X → List Y) (xs ys : List X) (q : ℕ) (x : X) → ys ≡ xs → q < length ys → x ≡ slice_index_or ys q x
    → slice_index_or (map g xs) q [] ≡ g x
some_at g xs ys q x e h f = ap (λ l. slice_index_or (map g l) q []) (sym e) ∙ get_or-map g ys q x [] h ∙ ap g (sym f)

pub none_at : {X Y : Type 0} (g : X → List Y) (xs ys : List X) (q : ℕ) → ys ≡ xs → length ys ≤ q → slice_index_or (map g xs) q [] ≡ []
none_at g xs ys q e h = none_past g xs q (subst (λ l. length l ≤ q) e h)
