-- The cover lists the points and the paths of a machine.
use Rattle.std.proofs.Common.{◌≡◌, ℕ, zero, suc, ◌+◌, ◌<◌, ◌≤◌, ◌==◌, List, [], ◌∷◌, ◌++◌, length, map, ap, ap₂, sym, refl, ◌∙◌, subst, arith, Bool, true}
use Rattle.std.proofs.Common.{false}
use Rattle.std.specs.Prelude.{◌≢◌, ◌&&◌, ◌||◌, cond, nat_lt, filter, Contains}
use Rattle.std.specs.List.{list_all, list_any, slice_index_or, range_with_len}
use Rattle.std.proofs.lemmas.Bool.Decides.{nat_tests}
use Rattle.std.proofs.lemmas.List.FromFn.{get_or-map-range_with_len, length-map-range_with_len, length-range_with_len}
use Rattle.std.proofs.lemmas.Bool.{and_from, eqb-true}
use Rattle.fs_model.proofs.Booleans.{and_first, and_second, or_other}
use Rattle.fs_model.specs.SoundMachines.{IsSound, branch_count, is_cutpoint, first_transition_target, reaches_cutpoint}
use Rattle.fs_model.specs.Limits.{most_branches}
use Rattle.fs_model.specs.Machines.{State, Fsmd, transitions_of}
use Rattle.fs_model.specs.Trees.{branches_of}
use Rattle.fs_cut.specs.Paths.{Point, Start, At, Done, Path, IsPath, is_fork, is_point, state_of, end_at, target_of, Passes}
use Rattle.fs_cut.specs.Covers.{passed_states, state_reached, path_by, paths_by, paths_of, points_of, PointPaths, points_with_paths, cover_of, same_point}
use Rattle.fs_cut.specs.Covers.{has_point}
use Rattle.fs_cut.specs.Covers.{paths_from}
use Rattle.fs_cut.specs.View.{listed_paths, ListsPoints}
use Rattle.fs_cut.proofs.Branches.{target_in, some_branch, first_target}

-- ---- points
fork_in : (ss : List State) (q : ℕ) → 0 < length (branches_of (slice_index_or ss q (record { name = []; transitions = [] })).transitions) → q < length ss
fork_in [] q h = absurd (omega arith)
fork_in (s ∷ ss) zero h = omega arith
fork_in (s ∷ ss) (suc q) h = omega (arith, fork_in ss q h)

pub fork_state : (m : Fsmd) (q : ℕ) → is_fork m q ≡ true → q < length m.states
fork_state m q h = fork_in m.states q (grind (arith, nat_tests))

pub point_state : (m : Fsmd) (P : Point) → IsSound m → is_point m P ≡ true → state_of m P < length m.states
point_state m Start sound h = sound.reset_in
point_state m (At q) sound h = fork_state m q h
point_state m Done sound h = sound.reset_in

end_by : (m : Fsmd) (q : ℕ) (b : Bool) → (q == m.reset) ≡ b → is_cutpoint m q ≡ true → is_point m (cond b Done (At q)) ≡ true
end_by m q true e c = refl
end_by m q false e c = grind (arith, nat_tests)

-- where a path ends is a point
pub end_point : (m : Fsmd) (q : ℕ) → is_cutpoint m q ≡ true → is_point m (end_at m q) ≡ true
end_point m q c = end_by m q (q == m.reset) refl c

pub passes_end : (m : Fsmd) (xs : List ℕ) (q : ℕ) (P : Point) → Passes m q xs P → is_point m P ≡ true
passes_end m [] q P w = subst (λ (X : Point). is_point m X ≡ true) (sym w.1) (end_point m q w.0)
passes_end m (x ∷ xs) q P w = passes_end m xs (target_of m q 0) P w.2

-- ---- the states of a path
passes_by : (m : Fsmd) (n q : ℕ) (b : Bool) → is_cutpoint m q ≡ b
    → (is_cutpoint m q ≡ false → Passes m (target_of m q 0) (passed_states m n (target_of m q 0)) (end_at m (state_reached m n (target_of m q 0))))
    → Passes m q (cond b [] (q ∷ passed_states m n (target_of m q 0))) (end_at m (cond b q (state_reached m n (target_of m q 0))))
passes_by m n q true e next = (e, refl)
passes_by m n q false e next = (e, refl, next e)

pub passes : (m : Fsmd) → IsSound m → (n q : ℕ) → q < length m.states → reaches_cutpoint m n q ≡ true
    → Passes m q (passed_states m n q) (end_at m (state_reached m n q))
passes m sound zero q h c = (c, refl)
passes m sound (suc n) q h c =
    passes_by m n q (is_cutpoint m q) refl (λ e. passes m sound n (target_of m q 0) (target_in m sound q 0 (some_branch m sound q h))
    (subst (λ (r : ℕ). reaches_cutpoint m n r ≡ true) (first_target m sound q h e)
    (or_other (is_cutpoint m q) (reaches_cutpoint m n (first_transition_target (transitions_of m q))) e c)))

pub passes_unique : (m : Fsmd) (xs ys : List ℕ) (q : ℕ) (P Q : Point) → Passes m q xs P → Passes m q ys Q → (xs ≡ ys) × (P ≡ Q)
passes_unique m [] [] q P Q v w = (refl, v.1 ∙ sym w.1)
passes_unique m [] (y ∷ ys) q P Q v w = absurd (cc (v.0, w.0))
passes_unique m (x ∷ xs) [] q P Q v w = absurd (cc (v.0, w.0))
passes_unique m (x ∷ xs) (y ∷ ys) q P Q v w =
    let r = passes_unique m xs ys (target_of m q 0) P Q v.2 w.2 in
    (ap₂ (λ (a : ℕ) (l : List ℕ). a ∷ l) (v.1 ∙ sym w.1) r.0, r.1)

-- the path of a branch
pub path_is : (m : Fsmd) (P : Point) (k : ℕ) → IsSound m → is_point m P ≡ true → P ≢ Done → k < branch_count m (state_of m P)
    → IsPath m (path_by m P (state_of m P) k)
path_is m P k sound h d i =
    let first = target_of m (state_of m P) k in
    let n = length m.states in
    let here = target_in m sound (state_of m P) k i in
    record { point = h; goes = d; numbered = i; rest = passed_states m n first; left = refl; passes = passes m sound n first here (sound.cut first here) }

-- a path is determined by its point and its branch
pub path_unique : (m : Fsmd) (p r : Path) → IsPath m p → IsPath m r → p.from ≡ r.from → p.branch ≡ r.branch → p ≡ r
path_unique m p r v w e f =
    let first : target_of m (state_of m p.from) p.branch ≡ target_of m (state_of m r.from) r.branch =
    ap₂ (λ (P : Point) (k : ℕ). target_of m (state_of m P) k) e f in
    let u = passes_unique m v.rest w.rest (target_of m (state_of m r.from) r.branch) p.to r.to
    (subst (λ (q : ℕ). Passes m q v.rest p.to) first v.passes) w.passes in
    let same : p.states ≡ r.states = v.left ∙ ap₂ (λ (P : Point) (l : List ℕ). state_of m P ∷ l) e u.0 ∙ sym w.left in
    λ j. record { from = e j; branch = f j; states = same j; to = u.1 j }

-- ---- lists over a range
contains_at : {X : Type 0} (f : ℕ → X) (n k : ℕ) → k < n → Contains (map f (range_with_len 0 n)) (f k)
contains_at f n k h = (k, omega (arith, length-map-range_with_len f 0 n), get_or-map-range_with_len f 0 n k k (f k) h (omega arith))

at_contains : {X : Type 0} (f : ℕ → X) (n : ℕ) (x : X) → Contains (map f (range_with_len 0 n)) x → (k : ℕ) × (k < n) × (f k ≡ x)
at_contains f n x c =
    let h : c.0 < n = omega (arith, length-map-range_with_len f 0 n, c.1) in
    (c.0, h, sym (get_or-map-range_with_len f 0 n c.0 c.0 x h (omega arith)) ∙ c.2)

-- ---- the paths of a point
pub paths_are : (m : Fsmd) (P : Point) → P ≢ Done → paths_of m P ≡ paths_by m P (state_of m P)
paths_are m Start d = refl
paths_are m (At q) d = refl
paths_are m Done d = absurd (d refl)

pub paths_count : (m : Fsmd) (P : Point) → P ≢ Done → length (paths_of m P) ≡ branch_count m (state_of m P)
paths_count m P d = ap length (paths_are m P d) ∙ length-map-range_with_len (path_by m P (state_of m P)) 0 (branch_count m (state_of m P))

pub few_paths : (m : Fsmd) (P : Point) → IsSound m → length (paths_of m P) ≤ most_branches
few_paths m Start sound = omega (arith, paths_count m Start (λ e. cc e), sound.few_branches m.reset)
few_paths m (At q) sound = omega (arith, paths_count m (At q) (λ e. cc e), sound.few_branches q)
few_paths m Done sound = omega arith

pub paths_in_order : (m : Fsmd) (P : Point) (k : ℕ) (p : Path) → P ≢ Done → k < branch_count m (state_of m P)
    → slice_index_or (paths_of m P) k p ≡ path_by m P (state_of m P) k
paths_in_order m P k p d h =
    ap (λ (l : List Path). slice_index_or l k p) (paths_are m P d)
    ∙ get_or-map-range_with_len (path_by m P (state_of m P)) 0 (branch_count m (state_of m P)) k k p h (omega arith)

goes_on : (m : Fsmd) (P : Point) (p : Path) → Contains (paths_of m P) p → P ≢ Done
goes_on m Start p c = λ e. cc e
goes_on m (At q) p c = λ e. cc e
goes_on m Done p c = absurd (omega (arith, c.1))

number_of : (m : Fsmd) (P : Point) (p : Path) → Contains (paths_of m P) p → (k : ℕ) × (k < branch_count m (state_of m P)) × (path_by m P (state_of m P) k ≡ p)
number_of m P p c = at_contains (path_by m P (state_of m P)) (branch_count m (state_of m P)) p
    (subst (λ (l : List Path). Contains l p) (paths_are m P (goes_on m P p c)) c)

pub listed_is_path : (m : Fsmd) (P : Point) (p : Path) → IsSound m → is_point m P ≡ true → Contains (paths_of m P) p → IsPath m p
listed_is_path m P p sound h c =
    let k = number_of m P p c in
    subst (λ (x : Path). IsPath m x) k.2 (path_is m P k.0 sound h (goes_on m P p c) k.1)

pub listed_from : (m : Fsmd) (P : Point) (p : Path) → Contains (paths_of m P) p → p.from ≡ P
listed_from m P p c = ap (λ (x : Path). x.from) (sym (number_of m P p c).2)

pub path_is_listed : (m : Fsmd) (p : Path) → IsSound m → IsPath m p → Contains (paths_of m p.from) p
path_is_listed m p sound w =
    let q = state_of m p.from in
    let same : path_by m p.from q p.branch ≡ p = path_unique m (path_by m p.from q p.branch) p
    (path_is m p.from p.branch sound w.point w.goes w.numbered) w refl refl in
    subst (λ (l : List Path). Contains l p) (sym (paths_are m p.from w.goes))
    (subst (λ (x : Path). Contains (paths_by m p.from q) x) same (contains_at (path_by m p.from q) (branch_count m q) p.branch w.numbered))

-- ---- the points that are listed
mix_true : (e f a : Bool) → (e ≡ true → f ≡ true) → (e || (f && a)) ≡ (f && (e || a))
mix_true true f a h = sym (ap (λ (b : Bool). b && true) (h refl))
mix_true false f a h = refl

mix_false : (e f a : Bool) → (e ≡ true → f ≡ false) → (f && a) ≡ (f && (e || a))
mix_false true f a h = ap (λ (b : Bool). b && a) (h refl) ∙ sym (ap (λ (b : Bool). b && true) (h refl))
mix_false false f a h = refl

and_false : (b : Bool) → false ≡ (b && false)
and_false true = refl
and_false false = refl

module _ (m : Fsmd) (f : Point → List Path) where
  abbrev lists : List Point → Point → Bool
  lists ps P = has_point (points_with_paths f ps) P

  fork_by : (x q : ℕ) (b : Bool) (ps : List Point) (a : Bool) → is_fork m x ≡ b → lists ps (At q) ≡ (is_fork m q && a)
      → lists (cond b (At x ∷ ps) ps) (At q) ≡ (is_fork m q && ((x == q) || a))
  fork_by x q true ps a e h = ap (λ (b : Bool). (x == q) || b) h ∙ mix_true (x == q) (is_fork m q) a (λ s. ap (is_fork m) (sym (eqb-true x q s)) ∙ e)
  fork_by x q false ps a e h = h ∙ mix_false (x == q) (is_fork m q) a (λ s. ap (is_fork m) (sym (eqb-true x q s)) ∙ e)

  tail_by : (x : ℕ) (b : Bool) (xs : List ℕ) → map At (cond b (x ∷ xs) xs) ++ Done ∷ [] ≡ cond b (At x ∷ (map At xs ++ Done ∷ [])) (map At xs ++ Done ∷ [])
  tail_by x true xs = refl
  tail_by x false xs = refl

  forks_listed : (xs : List ℕ) (q : ℕ) → lists (map At (filter (is_fork m) xs) ++ Done ∷ []) (At q) ≡ (is_fork m q && list_any (λ x. x == q) xs)
  forks_listed [] q = and_false (is_fork m q)
  forks_listed (x ∷ xs) q =
      ap (λ (ps : List Point). lists ps (At q)) (tail_by x (is_fork m x) (filter (is_fork m) xs))
      ∙ fork_by x q (is_fork m x) (map At (filter (is_fork m) xs) ++ Done ∷ []) (list_any (λ y. y == q) xs) refl (forks_listed xs q)

  done_by : (x : ℕ) (b : Bool) (xs : List ℕ) → lists (map At xs ++ Done ∷ []) Done ≡ true → lists (map At (cond b (x ∷ xs) xs) ++ Done ∷ []) Done ≡ true
  done_by x true xs h = h
  done_by x false xs h = h

  done_listed : (xs : List ℕ) → lists (map At (filter (is_fork m) xs) ++ Done ∷ []) Done ≡ true
  done_listed [] = refl
  done_listed (x ∷ xs) = done_by x (is_fork m x) (filter (is_fork m) xs) (done_listed xs)

range_by : (a q : ℕ) (rest : Bool) (t : Bool) → (a == q) ≡ t → (a ≢ q → rest ≡ true) → (t || rest) ≡ true
range_by a q rest true e next = refl
range_by a q rest false e next = next (grind (arith, nat_tests))

range_has : (a n q : ℕ) → a ≤ q → q < a + n → list_any (λ x. x == q) (range_with_len a n) ≡ true
range_has a zero q h i = absurd (omega arith)
range_has a (suc n) q h i = range_by a q (list_any (λ x. x == q) (range_with_len (a + 1) n))
    (a == q) refl (λ d. range_has (a + 1) n q (omega (arith, d)) (omega arith))

fork_ranges : (m : Fsmd) (q : ℕ) (b : Bool) → is_fork m q ≡ b → (is_fork m q && list_any (λ x. x == q) (range_with_len 0 (length m.states))) ≡ is_fork m q
fork_ranges m q true e = and_from _ _ e (range_has 0 (length m.states) q (omega arith) (omega (arith, fork_state m q e))) ∙ sym e
fork_ranges m q false e = ap (λ (b : Bool). b && list_any (λ x. x == q) (range_with_len 0 (length m.states))) e ∙ sym e

pub points_listed_by : (m : Fsmd) (f : Point → List Path) (P : Point) → has_point (points_with_paths f (points_of m)) P ≡ is_point m P
points_listed_by m f Start = refl
points_listed_by m f (At q) = forks_listed m f (range_with_len 0 (length m.states)) q ∙ fork_ranges m q (is_fork m q) refl
points_listed_by m f Done = done_listed m f (range_with_len 0 (length m.states))

pub points_listed : (m : Fsmd) (P : Point) → has_point (cover_of m) P ≡ is_point m P
points_listed m P = points_listed_by m (paths_of m) P

-- ---- what is found for a point
pub same_is : (P Q : Point) → same_point P Q ≡ true → P ≡ Q
same_is Start Start h = refl
same_is Start (At r) h = absurd (cc h)
same_is Start Done h = absurd (cc h)
same_is (At q) Start h = absurd (cc h)
same_is (At q) (At r) h = ap At (eqb-true q r h)
same_is (At q) Done h = absurd (cc h)
same_is Done Start h = absurd (cc h)
same_is Done (At r) h = absurd (cc h)
same_is Done Done h = refl

found_by : (f : Point → List Path) (p P : Point) (ps : List Point) (t : Bool) → same_point p P ≡ t
    → (same_point p P || has_point (points_with_paths f ps) P) ≡ true
    → (has_point (points_with_paths f ps) P ≡ true → paths_from (points_with_paths f ps) P ≡ f P)
    → cond t (f p) (paths_from (points_with_paths f ps) P) ≡ f P
found_by f p P ps true e h next = ap f (same_is p P e)
found_by f p P ps false e h next = next (or_other (same_point p P) (has_point (points_with_paths f ps) P) e h)

pub found : (f : Point → List Path) (ps : List Point) (P : Point) → has_point (points_with_paths f ps) P ≡ true → paths_from (points_with_paths f ps) P ≡ f P
found f [] P h = absurd (cc h)
found f (p ∷ ps) P h = found_by f p P ps (same_point p P) refl h (found f ps P)

missing_by : (f : Point → List Path) (p P : Point) (ps : List Point) (t : Bool) → same_point p P ≡ t
    → (same_point p P || has_point (points_with_paths f ps) P) ≡ false
    → (has_point (points_with_paths f ps) P ≡ false → paths_from (points_with_paths f ps) P ≡ [])
    → cond t (f p) (paths_from (points_with_paths f ps) P) ≡ []
missing_by f p P ps true e h next = absurd (cc (sym (ap (λ (b : Bool). b || has_point (points_with_paths f ps) P) e) ∙ h))
missing_by f p P ps false e h next = next (sym (ap (λ (b : Bool). b || has_point (points_with_paths f ps) P) e) ∙ h)

pub missing : (f : Point → List Path) (ps : List Point) (P : Point) → has_point (points_with_paths f ps) P ≡ false → paths_from (points_with_paths f ps) P ≡ []
missing f [] P h = refl
missing f (p ∷ ps) P h = missing_by f p P ps (same_point p P) refl h (missing f ps P)

pub others_missing : (m : Fsmd) (P : Point) → is_point m P ≡ false → paths_from (cover_of m) P ≡ []
others_missing m P h = missing (paths_of m) (points_of m) P (points_listed m P ∙ h)

pub paths_listed : (m : Fsmd) (P : Point) → is_point m P ≡ true → paths_from (cover_of m) P ≡ paths_of m P
paths_listed m P h = found (paths_of m) (points_of m) P (points_listed m P ∙ h)

pub points_are : (f : Point → List Path) (ps : List Point) → map (λ (e : PointPaths). e.point) (points_with_paths f ps) ≡ ps
points_are f [] = refl
points_are f (p ∷ ps) = ap (λ (l : List Point). p ∷ l) (points_are f ps)

-- ---- the cover that is made
entries_same : (f g : Point → List Path) (test : Point → Bool) (ps : List Point) → list_all test ps ≡ true → ((P : Point) → test P ≡ true → f P ≡ g P)
    → points_with_paths f ps ≡ points_with_paths g ps
entries_same f g test [] h s = refl
entries_same f g test (p ∷ ps) h s =
    ap₂ (λ (l : List Path) (es : List PointPaths). record { point = p; paths = l } ∷ es) (s p (and_first (test p) (list_all test ps) h))
    (entries_same f g test ps (and_second (test p) (list_all test ps) h) s)

all_by : (m : Fsmd) (x : ℕ) (b : Bool) (xs : List ℕ) → is_fork m x ≡ b → list_all (is_point m) (map At xs ++ Done ∷ []) ≡ true
    → list_all (is_point m) (map At (cond b (x ∷ xs) xs) ++ Done ∷ []) ≡ true
all_by m x true xs e h = and_from (is_fork m x) _ e h
all_by m x false xs e h = h

pub all_points : (m : Fsmd) (xs : List ℕ) → list_all (is_point m) (map At (filter (is_fork m) xs) ++ Done ∷ []) ≡ true
all_points m [] = refl
all_points m (x ∷ xs) = all_by m x (is_fork m x) (filter (is_fork m) xs) refl (all_points m xs)

-- the paths of a state that is a point
abbrev pub paths_at : Fsmd → ℕ → List Path
paths_at m q = cond (is_fork m q) (paths_of m (At q)) []

listed_is : (m : Fsmd) (start : List Path) (forks : List (List Path)) → start ≡ paths_by m Start m.reset
    → forks ≡ map (paths_at m) (range_with_len 0 (length m.states)) → (P : Point) → is_point m P ≡ true → listed_paths start forks P ≡ paths_of m P
listed_is m start forks e f Start h = e
listed_is m start forks e f (At q) h =
    let i = fork_state m q h in
    ap (λ (l : List (List Path)). slice_index_or l q []) f ∙ get_or-map-range_with_len (paths_at m) 0 (length m.states) q q [] i (omega arith)
    ∙ ap (λ (b : Bool). cond b (paths_of m (At q)) []) h
listed_is m start forks e f Done h = refl

pub cover_is : (m : Fsmd) (start : List Path) (forks : List (List Path)) (ps : List Point) → start ≡ paths_by m Start m.reset
    → forks ≡ map (paths_at m) (range_with_len 0 (length m.states)) → ps ≡ points_of m → points_with_paths (listed_paths start forks) ps ≡ cover_of m
cover_is m start forks ps e f p =
    ap (points_with_paths (listed_paths start forks)) p ∙ entries_same (listed_paths start forks) (paths_of m) (is_point m) (points_of m)
    (all_points m (range_with_len 0 (length m.states))) (listed_is m start forks e f)

-- what stands past the end of a list
pub none_past : {X Y : Type 0} (g : X → List Y) (xs : List X) (q : ℕ) → length xs ≤ q → slice_index_or (map g xs) q [] ≡ []
none_past g [] q h = refl
none_past g (x ∷ xs) zero h = absurd (omega arith)
none_past g (x ∷ xs) (suc q) h = none_past g xs q (omega arith)

none_by : (m : Fsmd) (q : ℕ) (t : Bool) → nat_lt q (length m.states) ≡ t → is_fork m q ≡ false
    → slice_index_or (map (paths_at m) (range_with_len 0 (length m.states))) q [] ≡ []
none_by m q true e h =
    let i : q < length m.states = grind (arith, nat_tests) in
    get_or-map-range_with_len (paths_at m) 0 (length m.states) q q [] i (omega arith) ∙ ap (λ (b : Bool). cond b (paths_of m (At q)) []) h
none_by m q false e h =
    let i : length m.states ≤ q = grind (arith, nat_tests) in
    none_past (paths_at m) (range_with_len 0 (length m.states)) q (omega (arith, i, length-range_with_len 0 (length m.states)))

none_listed : (m : Fsmd) (start : List Path) (forks : List (List Path)) → forks ≡ map (paths_at m) (range_with_len 0 (length m.states)) → (P : Point)
    → is_point m P ≡ false → listed_paths start forks P ≡ []
none_listed m start forks f Start h = absurd (cc h)
none_listed m start forks f (At q) h = ap (λ (l : List (List Path)). slice_index_or l q []) f ∙ none_by m q (nat_lt q (length m.states)) refl h
none_listed m start forks f Done h = refl

pub lists_points : (m : Fsmd) (start : List Path) (forks : List (List Path)) (ps : List Point) → forks ≡ map (paths_at m) (range_with_len 0 (length m.states))
    → ps ≡ points_of m → ListsPoints ps start forks
lists_points m start forks ps f p = record {
  no_other = λ P h. none_listed m start forks f P
      (sym (points_listed_by m (listed_paths start forks) P)
      ∙ ap (λ (l : List Point). has_point (points_with_paths (listed_paths start forks) l) P) (sym p) ∙ h);
}

-- ---- what the cover has of one point
pub start_listed : (m : Fsmd) → paths_by m Start m.reset ≡ paths_from (cover_of m) Start
start_listed m = sym (paths_listed m Start refl)

pub done_missing : (m : Fsmd) → paths_from (cover_of m) Done ≡ []
done_missing m = paths_listed m Done refl

fork_listed_by : (m : Fsmd) (q : ℕ) (b : Bool) → is_fork m q ≡ b → cond b (paths_of m (At q)) [] ≡ paths_from (cover_of m) (At q)
fork_listed_by m q true e = sym (paths_listed m (At q) e)
fork_listed_by m q false e = sym (others_missing m (At q) e)

pub fork_listed : (m : Fsmd) (q : ℕ) → cond (is_fork m q) (paths_of m (At q)) [] ≡ paths_from (cover_of m) (At q)
fork_listed m q = fork_listed_by m q (is_fork m q) refl

past_by : (m : Fsmd) (q : ℕ) (b : Bool) → is_fork m q ≡ b → length m.states ≤ q → is_fork m q ≡ false
past_by m q true e h = absurd (omega (arith, fork_state m q e, h))
past_by m q false e h = e

pub past_missing : (m : Fsmd) (q : ℕ) → length m.states ≤ q → paths_from (cover_of m) (At q) ≡ []
past_missing m q h = others_missing m (At q) (past_by m q (is_fork m q) refl h)
