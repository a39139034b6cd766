-- A run is cut at the points that it comes to, and nowhere else.
use Rattle.std.proofs.Common.{◌≡◌, ℕ, zero, suc, ◌<◌, ◌==◌, List, [], ◌∷◌, ◌++◌, length, map, ap, ap₂, sym, refl, ◌∙◌, subst, arith, cond, Bool, true, false}
use Rattle.std.specs.Prelude.{◌≢◌, Contains}
use Rattle.std.specs.List.{slice_index_or}
use Rattle.std.proofs.lemmas.Bool.Decides.{nat_tests}
use Rattle.fs_model.specs.SoundMachines.{IsSound, is_cutpoint}
use Rattle.fs_model.specs.Machines.{Fsmd}
use Rattle.fs_model.specs.Stores.{Store}
use Rattle.fs_model.specs.Runs.{ReachesReset, FirstReturn}
use Rattle.fs_cut.specs.Paths.{Point, Start, At, Done, Path, IsPath, BranchStep, is_point, is_fork, state_of, target_of, Passes, steps_in, store_after}
use Rattle.fs_cut.specs.Paths.{store_after_steps}
use Rattle.fs_cut.specs.Covers.{cover_of, paths_from}
use Rattle.fs_cut.specs.Cuts.{branch_taken, steps_of, Chain, join_paths, IsCut, CutsInOneWay}
use Rattle.fs_cut.proofs.Branches.{step_at, target_in, takes_branch, only_branch, step_down}
use Rattle.fs_cut.proofs.Listed.{path_unique, paths_listed, path_is_listed}
use Rattle.fs_cut.proofs.Legs.{only_step, steps_are}

-- the states up to the next point, and the paths from there
record Front (m : Fsmd) (q : ℕ) (steps : List BranchStep) : Type 0 where
  rest : List ℕ
  to : Point
  paths : List Path
  passes : Passes m q rest to
  chain : Chain m to paths
  all : map only_step rest ++ join_paths paths ≡ steps

cancel : {X : Type 0} (a b c : List X) → a ++ b ≡ a ++ c → b ≡ c
cancel [] b c e = e
cancel (x ∷ a) b c e = cancel a b c (cc e)

module _ (m : Fsmd) where
  at_reset : (q : ℕ) → q ≡ m.reset → Front m q []
  at_reset q e =
      let t : (q == m.reset) ≡ true = grind (arith, nat_tests) in
      let cut : is_cutpoint m q ≡ true = grind (arith, nat_tests) in
      record { rest = []; to = Done; paths = []; passes = (cut, sym (ap (λ (b : Bool). cond b Done (At q)) t)); chain = refl; all = refl }

  module _ (sound : IsSound m) where
    front_path : (P : Point) (s : Store) (rest : List BranchStep) → is_point m P ≡ true → P ≢ Done → state_of m P < length m.states
        → Front m (target_of m (state_of m P) (branch_taken m (state_of m P) s)) rest
        → (p : Path) × (ps : List Path) × (p.from ≡ P) × IsPath m p × Chain m p.to ps × (join_paths (p ∷ ps) ≡ step_at m (state_of m P) s ∷ rest)
    front_path P s rest h d i f =
        let q = state_of m P in
        let p : Path = record { from = P; branch = branch_taken m q s; states = q ∷ f.rest; to = f.to } in
        let is_p : IsPath m p = record { point = h; goes = d; numbered = (takes_branch m sound q s i).within; rest = f.rest; left = refl; passes = f.passes } in
        (p, f.paths, refl, is_p, f.chain, ap (λ (l : List BranchStep). step_at m q s ∷ l) f.all)

    front_with_step_before : (q : ℕ) (s : Store) (rest : List BranchStep) (b : Bool) → q < length m.states → q ≢ m.reset → is_cutpoint m q ≡ b
        → Front m (target_of m q (branch_taken m q s)) rest → Front m q (step_at m q s ∷ rest)
    front_with_step_before q s rest true h r c f =
        let t : (q == m.reset) ≡ false = grind (arith, nat_tests) in
        let fork : is_fork m q ≡ true = grind (arith, nat_tests) in
        let d = front_path (At q) s rest fork (λ e. cc e) h f in
        record { rest = []; to = At q; paths = d.0 ∷ d.1; passes = (c, sym (ap (λ (b : Bool). cond b Done (At q)) t)); chain = (d.2, d.3, d.4); all = d.5 }
    front_with_step_before q s rest false h r c f =
        let z = only_branch m sound q s h c in
        let same : only_step q ≡ step_at m q s = ap (λ (b : ℕ). record { state = q; branch = b }) (sym z) in
        record {
          rest = q ∷ f.rest;
          to = f.to;
          paths = f.paths;
          passes = (c, refl, subst (λ (b : ℕ). Passes m (target_of m q b) f.rest f.to) z f.passes);
          chain = f.chain;
          all = ap₂ (λ (x : BranchStep) (l : List BranchStep). x ∷ l) same f.all;
        }

    front : (n q : ℕ) (s t : Store) → q < length m.states → ReachesReset m n q s t → Front m q (steps_of m n q s)
    front zero q s t h r = at_reset q r.0
    front (suc n) q s t h r =
        let k = branch_taken m q s in
        front_with_step_before q s _ (is_cutpoint m q) h r.0 refl
        (front n (target_of m q k) (store_after m (step_at m q s) s) t (target_in m sound q k (takes_branch m sound q s h).within)
        (step_down m sound q s (λ x u. ReachesReset m n x u t) h r.1))

    cut_of : (s t : Store) (n : ℕ) → FirstReturn m n m.reset s t → (ps : List Path) × IsCut m (steps_of m n m.reset s) ps
    cut_of s t zero g = absurd g
    cut_of s t (suc n) g =
        let q = m.reset in
        let h = sound.reset_in in
        let k = branch_taken m q s in
        let f = front n (target_of m q k) (store_after m (step_at m q s) s) t (target_in m sound q k (takes_branch m sound q s h).within)
        (step_down m sound q s (λ x u. ReachesReset m n x u t) h g) in
        let d = front_path Start s _ refl (λ e. cc e) h f in
        (d.0 ∷ d.1, record { chain = (d.2, d.3, d.4); all = d.5 })

    leads_on : (n q : ℕ) (s t : Store) → q < length m.states → ReachesReset m n q s t → store_after_steps m (steps_of m n q s) s ≡ t
    leads_on zero q s t h r = r.1
    leads_on (suc n) q s t h r =
        let k = branch_taken m q s in
        leads_on n (target_of m q k) (store_after m (step_at m q s) s) t (target_in m sound q k (takes_branch m sound q s h).within)
        (step_down m sound q s (λ x u. ReachesReset m n x u t) h r.1)

    leads : (s t : Store) (n : ℕ) → FirstReturn m n m.reset s t → store_after_steps m (steps_of m n m.reset s) s ≡ t
    leads s t zero g = absurd g
    leads s t (suc n) g =
        let q = m.reset in
        let h = sound.reset_in in
        let k = branch_taken m q s in
        leads_on n (target_of m q k) (store_after m (step_at m q s) s) t (target_in m sound q k (takes_branch m sound q s h).within)
        (step_down m sound q s (λ x u. ReachesReset m n x u t) h g)

  same_branch : (p r : Path) (a b : List BranchStep) → IsPath m p → IsPath m r → steps_in p ++ a ≡ steps_in r ++ b → p.branch ≡ r.branch
  same_branch p r a b v w e =
      let u = sym (ap (λ (l : List BranchStep). l ++ a) (steps_are m p v)) ∙ e ∙ ap (λ (l : List BranchStep). l ++ b) (steps_are m r w) in
      let x : record { state = state_of m p.from; branch = p.branch } ≡ record { state = state_of m r.from; branch = r.branch } = cc u in
      ap (λ (y : BranchStep). y.branch) x

  cut_unique : (ps qs : List Path) (P : Point) → Chain m P ps → Chain m P qs → join_paths ps ≡ join_paths qs → ps ≡ qs
  cut_unique [] [] P c d e = refl
  cut_unique [] (y ∷ qs) P c d e = absurd (d.1.goes (d.0 ∙ c))
  cut_unique (x ∷ ps) [] P c d e = absurd (c.1.goes (c.0 ∙ d))
  cut_unique (x ∷ ps) (y ∷ qs) P c d e =
      let same : x ≡ y = path_unique m x y c.1 d.1 (c.0 ∙ sym d.0) (same_branch x y (join_paths ps) (join_paths qs) c.1 d.1 e) in
      let left : join_paths ps ≡ join_paths qs = cancel (steps_in x) (join_paths ps) (join_paths qs)
      (e ∙ ap (λ (z : Path). steps_in z ++ join_paths qs) (sym same)) in
      ap₂ (λ (z : Path) (l : List Path). z ∷ l) same (cut_unique ps qs x.to c.2 (subst (λ (z : Path). Chain m z.to qs) (sym same) d.2) left)

  pub cuts_in_one_way : IsSound m → CutsInOneWay m
  cuts_in_one_way sound = record {
    leads = leads sound;
    some = cut_of sound;
    one = λ steps ps qs c d. cut_unique ps qs Start c.chain d.chain (c.all ∙ sym d.all);
  }

  chain_is : (ps : List Path) (P : Point) → Chain m P ps → (k : ℕ) (d : Path) → k < length ps → IsPath m (slice_index_or ps k d)
  chain_is [] P c k d h = absurd (omega arith)
  chain_is (x ∷ ps) P c zero d h = c.1
  chain_is (x ∷ ps) P c (suc k) d h = chain_is ps x.to c.2 k d (omega arith)

  -- the cover lists the paths of a cut
  pub cut_is_listed : (steps : List BranchStep) (ps : List Path) (p : Path) → IsSound m → IsCut m steps ps → Contains ps p
      → Contains (paths_from (cover_of m) p.from) p
  cut_is_listed steps ps p sound cut c =
      let v : IsPath m p = subst (λ (x : Path). IsPath m x) c.2 (chain_is ps Start cut.chain c.0 p c.1) in
      subst (λ (l : List Path). Contains l p) (sym (paths_listed m p.from v.point)) (path_is_listed m p sound v)
