use Rattle.std.proofs.Common.{map, drop}
use Rattle.nf_rel.specs.View.{literal_in}
use Rattle.nf_refutation.proofs.Left.{Gathers}
use Rattle.nf_refutation.proofs.bound_table.BoundTable.of.Given as goal

abbrev pub invariant-loop-literal : goal.invariant-loop-literal
invariant-loop-literal l = Gathers l.table (map literal_in (drop l.literal-index l.list)) (map literal_in l.list)
