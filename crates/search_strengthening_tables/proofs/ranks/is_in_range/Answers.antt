use Rattle.std.proofs.Common.{ℕ, Vec, Global, length, arith}
use Rattle.std.proofs.lemmas.List.{length-map}
use Rattle.search_tables.specs.Walks.{lists_in}
use Rattle.search_strengthening_tables.proofs.Ranges.{in_range_by}
use Rattle.search_strengthening_tables.proofs.ranks.is_in_range.Goals as goal

pub returns-then-edges-le4096 : goal.returns-then-edges-le4096
returns-then-edges-le4096 c =
    λ h. in_range_by (lists_in c.args.edges.now) (length c.args.edges.now) c.are_edges.result
    (omega (arith, length-map c.args.edges.now (λ (v : Vec ℕ Global). v.items))) c.if-edges-le4096.true c.are_edges.ensures h
