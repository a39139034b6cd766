use Rattle.std.proofs.Common.{cond, []}
use Rattle.fs_model.specs.Sides.{same_side}
use Rattle.fs_pair.specs.declared.positions.Position.{Position}
use Rattle.fs_pair.specs.Partners.{position_name}
use Rattle.cert_terms.proofs.NameTables.{one_taken}
use Rattle.cert_terms.proofs.names.names_on.Goals as goal

pub loop-position-preserved : goal.loop-position-preserved
loop-position-preserved c =
    let name = λ (p : Position). cond (same_side p.pos.side c.args.side) (position_name c.args.a.now c.args.b.now p.pos) [] in
    record {
      done = one_taken (λ n. n.now) name _ _ c.name_on.result c.args.positions.now c.loop-position.position-index _ c.loop-position-test.true
          c.loop-position.invariant.done c.in_ok-push.ensures.items c.name_on.ensures;
    }
