use Rattle.std.proofs.Common.{ap}
use Rattle.fs_model.specs.View.{assignment_of}
use Rattle.sym_paths.proofs.Values.{assigned, written, emitted}
use Rattle.sym_paths.proofs.assignments.evaluate_assignment.Goals as goal

pub returns-in_ok-evaluate-in-Set : goal.returns-in_ok-evaluate-in-Set
returns-in_ok-evaluate-in-Set c = assigned c.args.side c.args.v.now _ _ _ _ (ap assignment_of c.in-Set.is) c.in_ok-evaluate-in-Set.ensures

pub returns-in_ok-value-in-Put : goal.returns-in_ok-value-in-Put
returns-in_ok-value-in-Put c =
    written c.args.side c.args.v.now _ _ _ _ _ _ (ap assignment_of c.in-Put.is) c.in_ok-index-in-Put.ensures c.in_ok-value-in-Put.ensures

pub returns-in_ok-evaluate-in-Emit : goal.returns-in_ok-evaluate-in-Emit
returns-in_ok-evaluate-in-Emit c = emitted c.args.side c.args.v.now _ _ _ _ (ap assignment_of c.in-Emit.is) c.in_ok-evaluate-in-Emit.ensures
