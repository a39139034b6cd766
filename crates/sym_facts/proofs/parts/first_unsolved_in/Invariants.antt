use Rattle.std.proofs.Common.{◌≡◌, drop, map}
use Rattle.std.specs.List.{position_from}
use Rattle.sym_facts.specs.PositionSets.{is_unsolved_in}
use Rattle.sym_facts.specs.View.{position_in, set_in}
use Rattle.sym_facts.proofs.parts.first_unsolved_in.Given as goal

abbrev pub invariant-loop-place : goal.invariant-loop-place
invariant-loop-place l = position_from (is_unsolved_in (set_in l.mentioned)) l.place (map position_in (drop l.place l.positions))
    ≡ position_from (is_unsolved_in (set_in l.mentioned)) 0 (map position_in l.positions)
