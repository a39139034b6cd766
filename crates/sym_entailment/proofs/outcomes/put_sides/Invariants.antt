use Rattle.std.proofs.Common.{◌≡◌, [], map, drop}
use Rattle.sym_facts.specs.View.{position_in}
use Rattle.sym_entailment.specs.Outcomes.{put_sides}
use Rattle.sym_entailment.proofs.outcomes.put_sides.Given as goal

abbrev pub invariant-loop-position : goal.invariant-loop-position
invariant-loop-position l = record {
  rest : put_sides (map position_in (drop l.position-index l.positions)) l.left l.right l.out
      ≡ put_sides (map position_in l.positions) l.left l.right [];
}
