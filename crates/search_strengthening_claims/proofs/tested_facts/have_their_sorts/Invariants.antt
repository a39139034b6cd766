use Rattle.std.proofs.Common.{◌≡◌, length}
use Rattle.std.specs.List.{list_all}
use Rattle.sym_facts.specs.Facts.{has_its_sort}
use Rattle.sym_facts.specs.FactParts.{with_equations}
use Rattle.search_strengthening_claims.proofs.tested_facts.have_their_sorts.Given as goal

abbrev pub invariant-pairs : goal.invariant-pairs
invariant-pairs l =
    list_all (λ q. has_its_sort q.sort q.equation) (with_equations l.left l.rest) ≡
    list_all (λ q. has_its_sort q.sort q.equation) (with_equations l.positions l.equations)

abbrev pub decreases-pairs : goal.decreases-pairs
decreases-pairs l = length l.left
