-- Machines that differ only in the names of their states have the same paths.
use Rattle.std.proofs.Common.{◌≡◌, ℕ, zero, suc, ◌<◌, ◌==◌, refl, ap, ap₂, sym, subst, ◌∙◌, true, cond, List, [], ◌∷◌, length, Some}
use Rattle.std.specs.Prelude.{◌&&◌, ◌||◌, not, nat_lt, slice_get}
use Rattle.std.specs.List.{list_all, slice_index_or}
use Rattle.fs_model.specs.SoundMachines.{IsSound, branch_count, is_cutpoint}
use Rattle.fs_model.specs.Machines.{Fsmd, transitions_of}
use Rattle.fs_model.specs.Expressions.{Transition}
use Rattle.fs_model.specs.Trees.{Branch, branches_of}
use Rattle.fs_ast.specs.Branches.{is_sound_literal, is_sound_assignment}
use Rattle.fs_ast.proofs.Lifted.{branch_sound}
use Rattle.fs_cut.specs.Paths.{Point, Start, At, Done, Path, IsPath, is_point, is_fork, state_of, end_at, branch_at, target_of, Passes, BranchStep}
use Rattle.cert_bisimulation.specs.PathExpressions.{ExpressionVector, acted_all, left_by}
use Rattle.cert_bisimulation.specs.Alike.{literals_of}
use Rattle.alike_searches.specs.RenamedStates.{DifferInNames}
use Rattle.alike_searches.proofs.OwnExpressions.{AreOwn, own_all}

-- ---- branches of a sound machine

at_or : {X : Type 0} (P : X → Type 0) (xs : List X) (k : ℕ) (d : X) → ((j : ℕ) (x : X) → slice_get xs j ≡ Some x → P x) → P d → P (slice_index_or xs k d)
at_or P [] k d h g = g
at_or P (x ∷ xs) zero d h g = h 0 x refl
at_or P (x ∷ xs) (suc k) d h g = at_or P xs k d (λ j y e. h (suc j) y e) g

module _ (m : Fsmd) (sound : IsSound m) where
  pub record IsFine (b : Branch) : Type 0 where
    pub literals_fine : list_all (is_sound_literal m.variables) b.literals ≡ true
    pub assignments_fine : list_all (is_sound_assignment m.variables) b.assignments ≡ true

  pub branch_fine : (q k : ℕ) → IsFine (branch_at m q k)
  branch_fine q k =
      at_or IsFine (branches_of (transitions_of m q)) k (record { literals = []; assignments = []; target = 0 })
      (λ j b e. let s = branch_sound m sound q j b e in record { literals_fine = s.literals; assignments_fine = s.assignments })
      (record { literals_fine = refl; assignments_fine = refl })

-- ---- the same paths

module _ (a b : Fsmd) (same : DifferInNames a b) where
  pub same_count : (q : ℕ) → branch_count a q ≡ branch_count b q
  same_count q = ap (λ (ls : List (Transition ℕ ℕ)). length (branches_of ls)) (same.transitions q)

  same_branch : (q k : ℕ) → branch_at a q k ≡ branch_at b q k
  same_branch q k = ap (λ (ls : List (Transition ℕ ℕ)). slice_index_or (branches_of ls) k (record { literals = []; assignments = []; target = 0 }))
      (same.transitions q)

  same_target : (q k : ℕ) → target_of a q k ≡ target_of b q k
  same_target q k = ap (λ (x : Branch). x.target) (same_branch q k)

  same_cut : (q : ℕ) → is_cutpoint a q ≡ is_cutpoint b q
  same_cut q = ap₂ (λ (r n : ℕ). (q == r) || nat_lt 1 n) same.reset (same_count q)

  same_fork : (q : ℕ) → is_fork a q ≡ is_fork b q
  same_fork q = ap₂ (λ (r n : ℕ). not (q == r) && nat_lt 1 n) same.reset (same_count q)

  same_end : (q : ℕ) → end_at a q ≡ end_at b q
  same_end q = ap (λ (r : ℕ). cond (q == r) Done (At q)) same.reset

  pub same_point : (P : Point) → is_point a P ≡ is_point b P
  same_point Start = refl
  same_point (At q) = same_fork q
  same_point Done = refl

  pub same_state : (P : Point) → state_of a P ≡ state_of b P
  same_state Start = same.reset
  same_state (At q) = refl
  same_state Done = same.reset

  passes_back : (xs : List ℕ) (q : ℕ) (P : Point) → Passes b q xs P → Passes a q xs P
  passes_back [] q P (c, e) = (same_cut q ∙ c, e ∙ sym (same_end q))
  passes_back (x ∷ xs) q P (c, e, w) = (same_cut q ∙ c, e, subst (λ t. Passes a t xs P) (sym (same_target q 0)) (passes_back xs (target_of b q 0) P w))

  -- a path of the second machine is one of the first
  pub path_back : (p : Path) → IsPath b p → IsPath a p
  path_back p w =
      let s = same_state p.from in
      let count : branch_count b (state_of b p.from) ≡ branch_count a (state_of a p.from) = sym (ap (branch_count a) s ∙ same_count (state_of b p.from)) in
      let target : target_of b (state_of b p.from) p.branch ≡ target_of a (state_of a p.from) p.branch =
      sym (ap (λ q. target_of a q p.branch) s ∙ same_target (state_of b p.from) p.branch) in
      record {
        point = same_point p.from ∙ w.point;
        goes = w.goes;
        numbered = subst (λ n. p.branch < n) count w.numbered;
        rest = w.rest;
        left = w.left ∙ ap (λ q. q ∷ w.rest) (sym s);
        passes = subst (λ t. Passes a t w.rest p.to) target (passes_back w.rest (target_of b (state_of b p.from) p.branch) p.to w.passes);
      }

  pub same_literals : (p : Path) → literals_of a p ≡ literals_of b p
  same_literals p = ap (λ q. (branch_at a q p.branch).literals) (same_state p.from) ∙ ap (λ (x : Branch). x.literals) (same_branch (state_of b p.from) p.branch)

  pub same_left : (xs : List BranchStep) (s : ExpressionVector) → left_by a xs s ≡ left_by b xs s
  same_left [] s = refl
  same_left (x ∷ xs) s =
      same_left xs (acted_all (branch_at a x.state x.branch).assignments s s)
      ∙ ap (λ (z : Branch). left_by b xs (acted_all z.assignments s s)) (same_branch x.state x.branch)

  -- ---- what steps of the first machine leave

  pub own_left : IsSound a → (xs : List BranchStep) (s : ExpressionVector) → AreOwn a b same.variables s → AreOwn a b same.variables (left_by a xs s)
  own_left sound [] s own = own
  own_left sound (x ∷ xs) s own =
      let fine = branch_fine a sound x.state x.branch in
      own_left sound xs (acted_all (branch_at a x.state x.branch).assignments s s)
      (own_all a b same.variables (branch_at a x.state x.branch).assignments s s own own fine.assignments_fine)
