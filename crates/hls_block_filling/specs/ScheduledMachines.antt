-- A machine with rows for its blocks, without the states that have no row.
use Rattle.std.specs.Prelude.{ℕ, ◌==◌, Bool, not, ◌||◌, List, filter}
use Rattle.std.specs.List.{list_any}
use Rattle.fs_model.specs.Machines.{Fsmd}
use Rattle.hls_block_filling.specs.Items.{Item}
use Rattle.hls_block_filling.specs.BasicBlocks.{all_states, is_in_block}
use Rattle.hls_block_filling.specs.RowMachines.{all_moves, machine_with_rows}
use Rattle.hls_block_filling.specs.MachineSelections.{machine_of_states}

-- whether a state has a row, or is in no block
abbrev pub is_kept : Fsmd → (ℕ → List Item) → ℕ → Bool
is_kept m rows q = not (is_in_block m q) || list_any (λ x. x.state == q) (all_moves m rows)

abbrev pub kept_states : Fsmd → (ℕ → List Item) → List ℕ
kept_states m rows = filter (is_kept m rows) (all_states m)

-- the machine in which the rows of each block stand for it, by the block's first state
abbrev pub scheduled_machine : Fsmd → (ℕ → List Item) → Fsmd
scheduled_machine m rows = machine_of_states (machine_with_rows m rows) (kept_states m rows)
