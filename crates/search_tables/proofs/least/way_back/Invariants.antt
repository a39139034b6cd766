use Rattle.search_tables.specs.Walks.{lists_in}
use Rattle.search_tables.specs.Ways.{IsSearch, way_work}
use Rattle.search_tables.proofs.least.way_back.Given as goal

abbrev pub invariant-search : goal.invariant-search
invariant-search l = IsSearch (lists_in l.edges) l.seen.items l.path.items l.root

abbrev pub decreases-search : goal.decreases-search
decreases-search l = way_work (lists_in l.edges) l.seen.items l.path.items
