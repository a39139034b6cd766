-- What is a pairing.
use Rattle.std.specs.Prelude.{◌≡◌, List, None}
use Rattle.fs_model.specs.SoundMachines.{IsSound}
use Rattle.fs_model.specs.Machines.{Fsmd}
use Rattle.fs_pair.specs.declared.positions.Position.{Position}
use Rattle.fs_pair.specs.Interfaces.{interface_fault}
use Rattle.fs_pair.specs.Positions.{positions}

-- the positions of two machines that keep all rules and have the same interface
pub record IsPairing (ps : List Position) : Type 0 where
  pub left : Fsmd
  pub right : Fsmd
  pub left_sound : IsSound left
  pub right_sound : IsSound right
  pub same : interface_fault left right ≡ None
  pub positions : ps ≡ positions left right
