-- A machine with its blocks in the rows of their fillings.
use Rattle.std.specs.Prelude.{◌≡◌, ℕ, true, List, Some, slice_get}
use Rattle.fs_model.specs.Expressions.{Transition}
use Rattle.fs_model.specs.Machines.{Fsmd, transitions_of}
use Rattle.hls_block_filling.specs.Items.{Item}
use Rattle.hls_block_filling.specs.BasicBlocks.{items_at}
use Rattle.hls_block_filling.specs.MachineSelections.{selected_place}
use Rattle.hls_block_filling.specs.ScheduledMachines.{kept_states, scheduled_machine}
use Rattle.hls_block_filling.specs.ItemUnits.{Units, none_used, used_by, suffice}
use Rattle.hls_block_filling.specs.Filling.{new_rows}

-- no transition uses more than the units
abbrev pub IsWithin : Units → Fsmd → Type 0
IsWithin units m = (q k : ℕ) (l : Transition ℕ ℕ) → slice_get (transitions_of m q) k ≡ Some l
    → suffice units none_used (used_by l.assignments) ≡ true

-- the rows of the block from a state on
abbrev pub rows_by : Units → Fsmd → ℕ → List Item
rows_by units m q = new_rows units (items_at m q)

abbrev pub schedule_of : Units → Fsmd → Fsmd
schedule_of units m = scheduled_machine m (rows_by units m)

-- the number of a state in the scheduled machine, where it has one
abbrev pub scheduled_place : Units → Fsmd → ℕ → ℕ
scheduled_place units m q = selected_place (kept_states m (rows_by units m)) q
