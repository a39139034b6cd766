use Rattle.std.proofs.Common.{◌≡◌, ◌++◌, map, drop}
use Rattle.sym_facts.specs.Starts.{start_position}
use Rattle.sym_facts.specs.View.{position_in}
use Rattle.sym_facts.proofs.start.start_positions.Given as goal

abbrev pub invariant-loop-p : goal.invariant-loop-p
invariant-loop-p l = record {
  rest : map position_in l.out.items ++ map (start_position l.positions) (drop l.p-index l.positions) ≡ map (start_position l.positions) l.positions;
}
