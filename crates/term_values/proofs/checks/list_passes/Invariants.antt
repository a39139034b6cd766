use Rattle.std.proofs.Common.{◌≡◌, map, drop}
use Rattle.term_text.specs.View.{written_polynomial_in, written_list_in}
use Rattle.term_values.specs.Checks.{list_passes}
use Rattle.term_values.specs.ListParts.{items_pass}
use Rattle.term_values.proofs.checks.list_passes.Given as goal

abbrev pub invariant-loop-item : goal.invariant-loop-item
invariant-loop-item g l = list_passes (g.C.Check.test l.check) (written_list_in l.list)
    ≡ items_pass (g.C.Check.test l.check) (map written_polynomial_in (drop l.item-index l.item-items))
