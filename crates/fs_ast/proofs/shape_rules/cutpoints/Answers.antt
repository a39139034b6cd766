use Rattle.std.proofs.Common.{◌∙◌, length, ap, length-append, arith}
use Rattle.fs_ast.proofs.Shapes.{cut_more}
use Rattle.fs_ast.proofs.shape_rules.cutpoints.Goals as goal

pub loop-place-preserved : goal.loop-place-preserved
loop-place-preserved c =
    let cuts = c.push.new.self.items in
    record {
      count = omega (arith, ap length c.in_ok-push.ensures.items ∙ length-append c.loop-place.cut.items _);
      cuts = cut_more c.args.states.now c.args.reset c.loop-place.place c.index-states-place.result c.loop-place.cut.items cuts _ c.loop-place-test.true
          c.index-states-place.is c.loop-place.invariant.count c.loop-place.invariant.cuts c.in_ok-push.ensures.items c.cuts.ensures;
    }
