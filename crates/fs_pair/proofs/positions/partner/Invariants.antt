use Rattle.std.proofs.Common.{◌≡◌, drop, map}
use Rattle.std.specs.List.{position_from}
use Rattle.fs_pair.specs.SidedVariables.{is_partner}
use Rattle.fs_pair.specs.View.{sided_variable_of}
use Rattle.fs_pair.proofs.positions.partner.Given as goal

abbrev pub invariant-loop-number : goal.invariant-loop-number
invariant-loop-number l =
    position_from (is_partner (sided_variable_of l.member)) l.number (map sided_variable_of (drop l.number l.members))
    ≡ position_from (is_partner (sided_variable_of l.member)) 0 (map sided_variable_of l.members)
