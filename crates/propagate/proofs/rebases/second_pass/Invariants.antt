use Rattle.std.proofs.Common.{◌≡◌, ◌++◌, map, drop}
use Rattle.nf_terms.specs.Computed.{Done, after}
use Rattle.propagate.specs.RebaseSteps.{second_from, before_others}
use Rattle.propagate.proofs.rebases.second_pass.Given as goal

abbrev pub invariant-loop-marked : goal.invariant-loop-marked
invariant-loop-marked l = record {
  positions : map (λ m. m.position) l.out.items ++ map (λ m. m.position) (drop l.marked-index l.positions) ≡ map (λ m. m.position) l.positions;
  held : after (second_from l.v (map (λ m. m.position) (drop l.marked-index l.positions)) (map (λ m. m.is_free) (drop l.marked-index l.positions)) l.meanings)
      (λ h. Done (before_others (map (λ m. m.is_free) l.out.items) h))
      ≡ second_from l.v (map (λ m. m.position) l.positions) (map (λ m. m.is_free) l.positions) l.initial.meanings;
}
