use Rattle.std.proofs.Common.{◌≡◌, List, map, drop}
use Rattle.std.specs.List.{list_any}
use Rattle.nf_rel.specs.Literals.{NormalLiteral, is_refuted_at}
use Rattle.nf_rel.specs.View.{literal_in}
use Rattle.nf_refutation.specs.BoundTables.{IsBoundTableOf}
use Rattle.nf_refutation.proofs.bound_table.BoundTable.refutes_any.Given as goal

abbrev pub invariant-loop-literal : goal.invariant-loop-literal
invariant-loop-literal l = (ls : List NormalLiteral) → IsBoundTableOf l.self ls
    → list_any (is_refuted_at ls) (map literal_in (drop l.literal-index l.list)) ≡ list_any (is_refuted_at ls) (map literal_in l.list)
