use Rattle.std.proofs.Common.{◌≡◌, ◌-◌, ◌++◌, length}
use Rattle.std.specs.List.{flat_map, range_with_len}
use Rattle.show_machine_pictures.specs.Pictures.{state_lines}
use Rattle.show_machine_pictures.proofs.pictures.write_states.Given as goal

abbrev pub invariant-loop-state : goal.invariant-loop-state
invariant-loop-state l = record {
  all : l.state-end ≡ length l.machine.states;
  done : l.out.items ++ flat_map (state_lines l.machine) (range_with_len l.state (length l.machine.states - l.state)) ≡ l.fn.out.items
      ++ flat_map (state_lines l.machine) (range_with_len 0 (length l.machine.states));
}
