-- The parts of a scheduled machine.
use Rattle.std.specs.Prelude.{ℕ, cond, List, [], ◌∷◌, Option, Some, None}
use Rattle.std.specs.List.{flat_map}
use Rattle.fs_model.specs.Source.{SourceState, Source}
use Rattle.fs_model.specs.Machines.{Fsmd}
use Rattle.hls_block_filling.specs.BasicBlocks.{all_states, is_in_block}
use Rattle.hls_block_filling.specs.ItemUnits.{Units}
use Rattle.hls_block_filling.specs.SourceRows.{source_state, named_moves, RowEffect, first_row_effect}

-- a state with a row for its one transition, which stands at the block of the state
abbrev pub state_with_row : Source → SourceState → RowEffect → SourceState
state_with_row p s d = record {
  line = s.line;
  name = s.name;
  transitions = record {
    line = s.line;
    content = record { guard = None; target = (source_state p d.1).name; assignments = d.0 };
  } ∷ [];
}

-- a state as it will be: with its row where it has one, not at all where it has none and stands in a block, and else as it is
abbrev pub state_by : Source → Fsmd → ℕ → Option RowEffect → List SourceState
state_by p m q None = cond (is_in_block m q) [] (source_state p q ∷ [])
state_by p m q (Some d) = state_with_row p (source_state p q) d ∷ []

abbrev pub states_by : Source → Fsmd → (ℕ → Option RowEffect) → ℕ → List SourceState
states_by p m rows q = state_by p m q (rows q)

-- the parts with these rows
abbrev pub source_by_rows : Source → Fsmd → (ℕ → Option RowEffect) → Source
source_by_rows p m rows = record {
  declarations = p.declarations;
  reset_line = p.reset_line;
  reset = p.reset;
  states = flat_map (states_by p m rows) (all_states m);
}

-- the parts of which the machine is m, with each block in the rows of its filling
abbrev pub scheduled_source : Units → Source → Fsmd → Source
scheduled_source units p m = source_by_rows p m (first_row_effect (named_moves units p m))
