-- What comes of binding locals to registers.
use Rattle.std.specs.Prelude.{◌≡◌, ℕ, Bool, IsTrue, List, Option, Some, None}
use Rattle.fs_model.specs.Machines.{Fsmd}
use Rattle.fs_model.specs.Runs.{SameBehaviour}
use Rattle.fs_model.specs.Source.{Source}
use Rattle.fs_model.specs.View.{source_of}
use Rattle.fs_model.specs.WellFormed.{is_well_formed}
use Rattle.fs_ast.specs.MachineOfParts.{machine_of}
use Rattle.fs_ast.specs.Rules.{BreaksNoRule}
use Rattle.hls_bind.specs.Bindings.{AreRegisters, bound_parts}
use Rattle.hls_bind.specs.Conflicts.{Conflict, IsConflict, IsFirstConflict}
use Rattle.hls_bind.specs.declared.outcome.Bound.{Bound}
use Rattle.hls_bind.specs.declared.outcome.Bound.TheVariants.{Yes, No}

-- the machine was built of the parts
pub record IsBuiltOf (p : Source) (m : Fsmd) : Type 0 where
  pub formed : IsTrue (is_well_formed p)
  pub lawful : BreaksNoRule p
  pub spelled : m ≡ machine_of p

-- the parts with each bound local replaced by its register
pub record IsBoundParts (b : List (ℕ × List ℕ)) (p q : Source) : Type 0 where
  pub registers : List (List ℕ)
  pub are : AreRegisters b registers
  pub parts : q ≡ bound_parts b registers p

pub record HasNoConflict (b : List (ℕ × List ℕ)) (m : Fsmd) : Type 0 where
  pub none : (c : Conflict) → IsConflict b m c → ⊥

-- the first conflict, or none where there is none
abbrev pub IsVerdict : List (ℕ × List ℕ) → Fsmd → Option (Conflict × Bool) → Type 0
IsVerdict b m None = HasNoConflict b m
IsVerdict b m (Some a) = IsFirstConflict b m a.0 a.1

-- no branch loses a local; these are the parts with registers and the machine that is built of them, which behaves as before
pub record IsYes (p : Source) (m : Fsmd) (b : List (ℕ × List ℕ)) (q : Source) (k : Fsmd) : Type 0 where
  pub free : HasNoConflict b m
  pub parts : IsBoundParts b p q
  pub built : IsBuiltOf q k
  pub same : SameBehaviour m k

-- the answer is right
abbrev pub IsRight : Source → Fsmd → List (ℕ × List ℕ) → Bound → Type 0
IsRight p m b (Yes parts machine) = IsYes p m b (source_of parts) machine
IsRight p m b (No state branch written other twice) =
    IsFirstConflict b m (record { state = state.0; branch = branch; written = written.0; other = other.0 }) twice
