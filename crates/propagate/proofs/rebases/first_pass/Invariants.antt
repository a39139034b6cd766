use Rattle.std.proofs.Common.{◌≡◌, ◌++◌, map, drop}
use Rattle.propagate.specs.RebaseSteps.{first_pass_from, before_others}
use Rattle.propagate.proofs.rebases.first_pass.Given as goal

abbrev pub invariant-loop-p : goal.invariant-loop-p
invariant-loop-p l = record {
  positions : map (λ m. m.position) l.out.items ++ drop l.p-index l.positions ≡ l.positions;
  held : before_others (map (λ m. m.is_free) l.out.items) (first_pass_from l.v (drop l.p-index l.positions) l.meanings)
      ≡ first_pass_from l.v l.positions l.initial.meanings;
}
