use Rattle.std.proofs.Common.{◌≡◌, take, drop, []}
use Rattle.std.specs.Prelude.{map}
use Rattle.fs_rules.specs.declared.check.CheckRule.TheVariants.{TwiceNamed}
use Rattle.fs_rules.specs.Rules.{at_lines}
use Rattle.fs_rules.specs.FirstFault.{earliest}
use Rattle.fs_rules.specs.Places.{declared_of, declared_name_list, FindsFirst}
use Rattle.fs_rules.proofs.FirstFaults.{repeats}
use Rattle.fs_rules.proofs.names.first_places.Given as goal

abbrev pub invariant-loop-place : goal.invariant-loop-place
invariant-loop-place l = record {
  finds : FindsFirst l.places.entries (declared_name_list (map declared_of (take l.place l.declared)));
  noted : earliest l.faults.first
      (at_lines TwiceNamed (repeats (declared_name_list (map declared_of (take l.place l.declared))) (map declared_of (drop l.place l.declared))))
      ≡ earliest l.initial.faults.first (at_lines TwiceNamed (repeats [] (map declared_of l.declared)));
}
