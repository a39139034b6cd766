use Rattle.std.proofs.Common.{arith}
use Rattle.fs_model.specs.View.{shared_literal_of}
use Rattle.nf_rel.specs.View.{literal_in}
use Rattle.sym_paths.specs.Evaluation.{evaluate_literal}
use Rattle.sym_paths.proofs.Loops.{one_followed, all_followed}
use Rattle.sym_paths.proofs.evaluation.evaluate_literals.Goals as goal

pub loop-literal-preserved : goal.loop-literal-preserved
loop-literal-preserved c =
    let given = rw c.deref.ensures at c.in_ok-evaluate_literal.ensures in
    record {
      rest = one_followed shared_literal_of (λ l. evaluate_literal c.args.side c.args.v.now l) literal_in c.args.literals.now
          c.loop-literal.literal-index c.literal-item.result c.loop-literal.out.items c.push.new.self.items c.in_ok-evaluate_literal.field-0
          c.loop-literal-test.true c.literal-item.is given c.in_ok-push.ensures.items c.loop-literal.invariant.rest;
    }

pub returns : goal.returns
returns c =
    all_followed shared_literal_of (λ l. evaluate_literal c.args.side c.args.v.now l) literal_in c.args.literals.now c.loop-literal.literal-index
    c.loop-literal.out.items (omega (arith, c.loop-literal-test.false)) c.loop-literal.invariant.rest
