-- Machines that differ only in the names of their states are alike.
use Rattle.std.proofs.Common.{◌≡◌, ℕ, refl, ap, sym, subst, ◌∙◌, Bool, true, Some}
use Rattle.std.specs.Prelude.{map, slice_get}
use Rattle.fs_model.specs.declared.parts.Sort.{Sort}
use Rattle.fs_model.specs.declared.parts.Sort.TheVariants as sort
use Rattle.fs_model.specs.Machines.{Fsmd}
use Rattle.fs_model.specs.Runs.{is_scalar, is_array, is_port}
use Rattle.fs_model.specs.SoundMachines.{has_sort, names_differ, IsSound, branch_count}
use Rattle.fs_cut.specs.Paths.{Point, Path, IsPath, state_of, target_of, steps_in}
use Rattle.fs_cut.proofs.Listed.{path_unique, passes_end}
use Rattle.cert_bisimulation.specs.PathExpressions.{ExpressionVector, initial}
use Rattle.cert_bisimulation.specs.ExpressionSameness.{AreTwins, Same, SameArray, SameListExpression, SameLiterals, SameLeft}
use Rattle.cert_bisimulation.specs.Alike.{DeclareTheSame, literals_of, left_after, AlikePaths, AlikePoints, Alike}
use Rattle.alike_searches.proofs.Coupled.{one_name}
use Rattle.alike_searches.specs.RenamedStates.{DifferInNames, own_pairs}
use Rattle.alike_searches.proofs.Pairs.{own, stands_once, paired}
use Rattle.alike_searches.proofs.OwnExpressions.{AreOwn, own_initial, own_literals}
use Rattle.alike_searches.proofs.SamePaths.{branch_fine, same_count, same_point, same_state, path_back, same_literals, same_left, own_left}

module _ (a b : Fsmd) (differ : names_differ (map (λ v. v.name) a.variables) ≡ true) (same : a.variables ≡ b.variables) where
  -- twins have one number
  one_number : (σ : Sort) (x y : ℕ) → AreTwins a b σ x y → x ≡ y
  one_number σ x y t = one_name a.variables x y t.variable t.variable differ t.left (ap (λ vs. slice_get vs y) same ∙ t.right) refl

  there : (test : Sort → Bool) (σ : Sort) → test σ ≡ true → (x y : ℕ) → AreTwins a b σ x y → has_sort test (slice_get a.variables x) ≡ true
  there test σ h x y t = ap (has_sort test) t.left ∙ ap test t.sorted ∙ h

  pub same_to_twin : (s : ExpressionVector) → AreOwn a b same s → SameLeft a b s s
  same_to_twin s own = record {
    scalars = λ x y t. subst (λ z. Same a b (s.scalar x) (s.scalar z)) (one_number sort.Scalar x y t) (own.scalar x (there is_scalar sort.Scalar refl x y t));
    arrays = λ x y t. subst (λ z. SameArray a b (s.array x) (s.array z)) (one_number sort.Array x y t) (own.array x (there is_array sort.Array refl x y t));
    ports = λ x y t. subst (λ z. SameListExpression a b (s.port x) (s.port z)) (one_number sort.Port x y t) (own.port x (there is_port sort.Port refl x y t));
  }

  pub declare_the_same : DeclareTheSame a b
  declare_the_same = record {
    forth = λ x v e. (x, sym (ap (λ vs. slice_get vs x) same) ∙ e);
    back = λ x v e. (x, ap (λ vs. slice_get vs x) same ∙ e);
  }

module _ (a b : Fsmd) (sound : IsSound a) (same : DifferInNames a b) where
  its_literals : (p : Path) → SameLiterals a b (literals_of a p) (literals_of b p)
  its_literals p =
      let ls = literals_of a p in
      let fine = branch_fine a sound (state_of a p.from) p.branch in
      subst (SameLiterals a b ls) (same_literals a b same p) (own_literals a b same.variables ls fine.literals_fine)

  its_values : (p : Path) → SameLeft a b (left_after a p) (left_after b p)
  its_values p =
      let s = left_after a p in
      subst (SameLeft a b s) (same_left a b same (steps_in p) initial)
      (same_to_twin a b sound.variables_differ same.variables s (own_left a b same sound (steps_in p) initial (own_initial a b same.variables)))

  its_path : (p : Path) → IsPath a p → AlikePaths a b (own_pairs a) p p
  its_path p w = record {
    literals = its_literals p;
    values = its_values p;
    ends = paired a p.to (passes_end a w.rest (target_of a (state_of a p.from) p.branch) p.to w.passes);
  }

  alike_paths : (P : Point) (p q : Path) → IsPath a p → IsPath b q → p.from ≡ P → q.from ≡ P → p.branch ≡ q.branch → AlikePaths a b (own_pairs a) p q
  alike_paths P p q is js e f g =
      let one : p ≡ q = path_unique a p q is (path_back a b same q js) (e ∙ sym f) g in
      subst (AlikePaths a b (own_pairs a) p) one (its_path p is)

  alike_point : (k : ℕ) (P : Point) → slice_get (own_pairs a) k ≡ Some (P, P) → AlikePoints a b (own_pairs a) P P
  alike_point k P e =
      let o = own a k P P e in
      record {
        left_point = o.point;
        right_point = sym (same_point a b same P) ∙ o.point;
        left_goes = o.goes;
        right_goes = o.goes;
        same_count = ap (branch_count a) (same_state a b same P) ∙ same_count a b same (state_of b P);
        paths = alike_paths P;
      }

  alike_points : (k : ℕ) (P Q : Point) → slice_get (own_pairs a) k ≡ Some (P, Q) → AlikePoints a b (own_pairs a) P Q
  alike_points k P Q e =
      let s : P ≡ Q = (own a k P Q e).same in
      subst (AlikePoints a b (own_pairs a) P) s (alike_point k P (e ∙ ap (λ z. Some (P, z)) (sym s)))

  pub alike : Alike a b (own_pairs a)
  alike = record {
    declare_the_same = declare_the_same a b sound.variables_differ same.variables;
    left_once = λ i j P Q R e g. stands_once a i j P Q P R e g refl;
    right_once = λ i j P Q R e g. stands_once a i j P R Q R e g ((own a i P R e).same ∙ sym (own a j Q R g).same);
    starts = (0, refl);
    points = alike_points;
  }
