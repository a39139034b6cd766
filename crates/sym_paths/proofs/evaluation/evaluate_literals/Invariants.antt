use Rattle.std.proofs.Common.{◌≡◌, map, drop}
use Rattle.fs_model.specs.View.{shared_literal_of}
use Rattle.nf_rel.specs.View.{literal_in}
use Rattle.sym_paths.specs.Sequences.{each}
use Rattle.sym_paths.specs.Evaluation.{evaluate_literal}
use Rattle.sym_paths.proofs.Loops.{followed}
use Rattle.sym_paths.proofs.evaluation.evaluate_literals.Given as goal

abbrev pub invariant-loop-literal : goal.invariant-loop-literal
invariant-loop-literal l = record {
  rest : followed (map literal_in l.out.items) (each (λ x. evaluate_literal l.side l.v x) (map shared_literal_of (drop l.literal-index l.literals)))
      ≡ each (λ x. evaluate_literal l.side l.v x) (map shared_literal_of l.literals);
}
