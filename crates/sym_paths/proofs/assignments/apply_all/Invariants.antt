use Rattle.std.proofs.Common.{◌≡◌, map}
use Rattle.sym_paths.specs.View.{change_in}
use Rattle.sym_paths.specs.Evaluation.{change_all}
use Rattle.sym_paths.proofs.assignments.apply_all.Given as goal

abbrev pub invariant-loop-c : goal.invariant-loop-c
invariant-loop-c l = record {
  rest : change_all l.side (map change_in l.c-iterator.rest.items) l.v ≡ change_all l.side (map change_in l.fn.changes.items) l.initial.v;
}
