use Rattle.std.proofs.Common.{◌≡◌, [], map, drop}
use Rattle.sym_paths.proofs.Loops.{followed}
use Rattle.sym_facts.specs.View.{position_in}
use Rattle.propagate.specs.RebaseSteps.{third_from}
use Rattle.propagate.proofs.rebases.third_pass.Given as goal

abbrev pub invariant-loop-marked : goal.invariant-loop-marked
invariant-loop-marked l = record {
  vector : l.s.vector ≡ l.initial.s.vector;
  rest : followed (map position_in l.out.items)
      (third_from l.v l.meanings (map (λ m. m.position) (drop l.marked-index l.positions))
      (map (λ m. m.is_free) (drop l.marked-index l.positions)) l.freed.items)
      ≡ third_from l.v l.meanings (map (λ m. m.position) l.positions) (map (λ m. m.is_free) l.positions) [];
}
