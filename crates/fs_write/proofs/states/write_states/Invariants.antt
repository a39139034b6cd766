use Rattle.std.proofs.Common.{◌≡◌, ◌++◌, map, drop, take, IsTrue}
use Rattle.std.specs.List.{flat_map, list_all}
use Rattle.fs_model.specs.View.{source_state_of}
use Rattle.fs_write.specs.Canonical.{state_text}
use Rattle.fs_write.specs.Spellable.{is_spellable_state}
use Rattle.fs_write.proofs.states.write_states.Given as goal

abbrev pub invariant-loop-state : goal.invariant-loop-state
invariant-loop-state l =
    (l.out.items ++ flat_map state_text (map source_state_of (drop l.state-index l.states)) ≡ l.fn.out.items
    ++ flat_map state_text (map source_state_of l.states))
    × IsTrue (list_all is_spellable_state (map source_state_of (take l.state-index l.states)))
