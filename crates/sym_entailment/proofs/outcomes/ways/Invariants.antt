use Rattle.std.proofs.Common.{◌≡◌, ◌++◌, length, map, drop}
use Rattle.fs_cut.specs.View.{path_of}
use Rattle.sym_paths.specs.Execution.{execute}
use Rattle.sym_entailment.specs.Outcomes.{way_in}
use Rattle.sym_entailment.proofs.outcomes.ways.Given as goal

abbrev pub invariant-loop-path : goal.invariant-loop-path
invariant-loop-path l = record {
  many : length l.out.items ≡ l.path-index;
  rest : map way_in l.out.items ++ map (λ p. (p, execute l.m p l.side l.v)) (map path_of (drop l.path-index l.paths))
      ≡ map (λ p. (p, execute l.m p l.side l.v)) (map path_of l.paths);
}
