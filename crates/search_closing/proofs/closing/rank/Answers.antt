use Rattle.std.proofs.Common.{sym, subst}
use Rattle.search_tables.specs.Walks.{lists_in, InRange}
use Rattle.search_closing.proofs.closing.rank.Goals as goal

pub rank_all-requires : goal.rank_all-requires
rank_all-requires c = subst (λ es. InRange (lists_in es)) (sym c.as_slice.ensures.value) c.in_ok-edges.ensures.range
