use Rattle.std.proofs.Common.{arith, refl}
use Rattle.std.specs.Prelude.{Err}
use Rattle.fs_model.specs.Machines.{Fsmd}
use Rattle.fsmd_answers.specs.MachineFiles.{SpellsMachine}
use Rattle.fsmd_answers.specs.Refusals.{RefusesMachine}
use Rattle.fsmd_tool.specs.Loading.{RefusesNext}
use Rattle.fsmd_tool.proofs.FromFiles.{machine_held}
use Rattle.fsmd_tool.proofs.Later.{read_both}
use Rattle.fsmd_tool.proofs.Loads.{loads_on, at_most_on, fewer}
use Rattle.fsmd_tool.proofs.InOrder.{refused_on, refused_in_order, spelled_in_order}
use Rattle.fsmd_tool.proofs.load.load_pair.Goals as goal

pub returns-in_err-left-clause-refused : goal.returns-in_err-left-clause-refused
returns-in_err-left-clause-refused g c =
    refused_on _ c.from_residual.result _ c.from_residual.ensures.1
    (refused_in_order Fsmd RefusesMachine SpellsMachine RefusesNext 0 _ _ c.load.ensures.loads c.in_err-left.ensures.refused)

pub returns-in_err-machine-clause-refused : goal.returns-in_err-machine-clause-refused
returns-in_err-machine-clause-refused g c =
    refused_on _ c.from_residual-in_err-machine.result _ c.from_residual-in_err-machine.ensures.1
    (spelled_in_order Fsmd RefusesMachine SpellsMachine RefusesNext 0 _ _ _ (g.F.Files.told c.load_next.new.files) c.load.ensures.only_read
    c.load.ensures.loads c.in_ok-left.field-0.machine
    (machine_held _ _ _ _ refl c.in_ok-left.ensures.loaded) (Err c.in_err-machine.field-0.0) c.in_err-machine.ensures.refused)

pub returns-in_err-left-clause-at_most : goal.returns-in_err-left-clause-at_most
returns-in_err-left-clause-at_most g c = fewer _ 0 1 2 _ _ (omega arith) c.load.ensures.at_most

pub returns-in_err-machine-clause-at_most : goal.returns-in_err-machine-clause-at_most
returns-in_err-machine-clause-at_most g c = at_most_on _ 0 1 1 1 2 _ _ _ (omega arith) (omega arith) c.load.ensures.loads c.load_next.ensures.at_most

pub returns-clause-at_most : goal.returns-clause-at_most
returns-clause-at_most g c = at_most_on _ 0 1 1 1 2 _ _ _ (omega arith) (omega arith) c.load.ensures.loads c.load_next.ensures.at_most

pub returns-clause-loads : goal.returns-clause-loads
returns-clause-loads g c = loads_on _ 0 1 1 1 2 _ _ _ (omega arith) (omega arith) c.load.ensures.loads c.load_next.ensures.loads

pub returns-in_err-machine-clause-only_read : goal.returns-in_err-machine-clause-only_read
returns-in_err-machine-clause-only_read g c = read_both _ _ _ c.load.ensures.only_read c.load_next.ensures.only_read

pub returns-clause-only_read : goal.returns-clause-only_read
returns-clause-only_read g c = read_both _ _ _ c.load.ensures.only_read c.load_next.ensures.only_read
