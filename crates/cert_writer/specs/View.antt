-- What the types of names and of nodes promise.
use Rattle.std.specs.Prelude.{ℕ, List}
use Rattle.fs_pair.specs.Partners.{position_name}
use Rattle.fs_model.specs.declared.sides.Pos.{Pos}
use Rattle.cert_writer.specs.declared.names.MachineNames.{MachineNames}

abbrev pub names_in : MachineNames → Pos → List ℕ
names_in n = position_name n.a.now n.b.now
