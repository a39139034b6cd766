use Rattle.std.proofs.Common.{map}
use Rattle.std.specs.List.{AllByRecursion}
use Rattle.sym_facts.specs.Pairings.{IsFactOf}
use Rattle.cert_model.specs.View.{node_of}
use Rattle.search_strengthening_tables.proofs.assembling.certificate_nodes.Given as goal

abbrev pub invariant-loop-place : goal.invariant-loop-place
invariant-loop-place l = AllByRecursion (λ n. IsFactOf l.p n.fact) (map node_of l.out.items)
