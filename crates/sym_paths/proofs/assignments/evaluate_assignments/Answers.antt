use Rattle.std.proofs.Common.{arith}
use Rattle.fs_model.specs.View.{assignment_of}
use Rattle.sym_paths.specs.View.{change_in}
use Rattle.sym_paths.specs.Evaluation.{evaluate_assignment}
use Rattle.sym_paths.proofs.Loops.{one_followed, all_followed}
use Rattle.sym_paths.proofs.assignments.evaluate_assignments.Goals as goal

pub loop-assignment-preserved : goal.loop-assignment-preserved
loop-assignment-preserved c = record {
  rest = one_followed assignment_of (λ a. evaluate_assignment c.args.side c.args.v.now a) change_in c.args.assignments.now
      c.loop-assignment.assignment-index c.assignment-item.result c.loop-assignment.out.items c.push.new.self.items c.in_ok-evaluate_assignment.field-0
      c.loop-assignment-test.true c.assignment-item.is c.in_ok-evaluate_assignment.ensures c.in_ok-push.ensures.items c.loop-assignment.invariant.rest;
}

pub returns : goal.returns
returns c =
    all_followed assignment_of (λ a. evaluate_assignment c.args.side c.args.v.now a) change_in c.args.assignments.now c.loop-assignment.assignment-index
    c.loop-assignment.out.items (omega (arith, c.loop-assignment-test.false)) c.loop-assignment.invariant.rest
