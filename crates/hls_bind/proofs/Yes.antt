-- The parts with registers and their machine are right.
use Rattle.std.proofs.Common.{◌≡◌, ℕ, List, ap, sym, ◌∙◌, subst, inl, inr}
use Rattle.std.specs.Prelude.{IsTrue}
use Rattle.fs_model.specs.Machines.{Fsmd}
use Rattle.fs_model.specs.Source.{Source}
use Rattle.fs_model.specs.Runs.{SameBehaviour}
use Rattle.fs_model.specs.WellFormed.{is_well_formed}
use Rattle.fs_ast.specs.MachineOfParts.{machine_of, variables_of}
use Rattle.fs_model.specs.SoundMachines.{IsSound}
use Rattle.fs_ast.specs.Rules.{BreaksNoRule}
use Rattle.hls_bind.specs.Bindings.{IsBindingOf, bound_parts}
use Rattle.hls_bind.proofs.Formed.{bound_formed}
use Rattle.hls_bind.proofs.Whole.{bound_lawful}
use Rattle.hls_bind.proofs.Renamed.{bound_parts_behave}
use Rattle.hls_bind.specs.Results.{IsBuiltOf, IsBoundParts, HasNoConflict, IsYes}

module _ (p q : Source) (m : Fsmd) (b : List (ℕ × List ℕ)) (built : IsBuiltOf p m) (binds : IsBindingOf m.variables b) (free : HasNoConflict b m)
    (sound : IsSound m) (x : IsBoundParts b p q) where
  sound_p : IsSound (machine_of p)
  sound_p = subst (λ (k : Fsmd). IsSound k) built.spelled sound

  binds_p : IsBindingOf (variables_of p.declarations) b
  binds_p = subst (λ (k : Fsmd). IsBindingOf k.variables b) built.spelled binds

  free_p : HasNoConflict b (machine_of p)
  free_p = subst (λ (k : Fsmd). HasNoConflict b k) built.spelled free

  pub formed : IsTrue (is_well_formed q)
  formed = ap is_well_formed x.parts ∙ bound_formed b x.registers p built.formed

  pub lawful : BreaksNoRule q
  lawful = subst (λ (s : Source). BreaksNoRule s) (sym x.parts) (bound_lawful b x.registers p sound_p binds_p x.are (λ c t. free_p.none c (inl t)))

  pub is_yes : (k : Fsmd) → k ≡ machine_of q → IsSound k → IsYes p m b q k
  is_yes k e s =
      let at : k ≡ machine_of (bound_parts b x.registers p) = e ∙ ap machine_of x.parts in
      let same : SameBehaviour (machine_of p) (machine_of (bound_parts b x.registers p)) =
      bound_parts_behave b x.registers p sound_p binds_p x.are (subst (λ (z : Fsmd). IsSound z) at s) (λ c d. free_p.none c (inr d)) in
      record {
        free = free;
        parts = x;
        built = record { formed = formed; lawful = lawful; spelled = e };
        same = subst (λ (z : Fsmd). SameBehaviour m z) (sym at)
            (subst (λ (z : Fsmd). SameBehaviour z (machine_of (bound_parts b x.registers p))) (sym built.spelled) same);
      }
