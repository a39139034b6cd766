-- A block of the code.
use Rattle.std.specs.Prelude.{◌≡◌, ℕ, ◌<◌, ◌≤◌, true, List, map, length}
use Rattle.std.specs.List.{All}
use Rattle.fs_model.specs.Machines.{Fsmd}
use Rattle.fs_model.specs.Source.{Source}
use Rattle.hls_block_filling.specs.ItemUnits.{Units}
use Rattle.hls_block_filling.specs.BasicBlocks.{is_first_of_block, basic_block_at, exit_of}
use Rattle.hls_block_filling.specs.RowMachines.{MoveOver, moves}
use Rattle.hls_sched.specs.declared.blocks.Block.{Block}
use Rattle.hls_block_filling.specs.SourceRows.{named_rows}

-- the block of a machine from a first state on
pub record IsBlockFrom (m : Fsmd) (first : ℕ) (l : Block) : Type 0 where
  pub within : first < length m.states
  pub starts : is_first_of_block m first ≡ true
  pub states : map (λ q. q.0) l.states.items ≡ basic_block_at m first
  pub inside : All (λ q. q.0 < length m.states) l.states.items
  pub few : length l.states.items ≤ length m.states
  pub exit : l.exit.0 ≡ exit_of m first
  pub leads : l.exit.0 < length m.states

-- its rows in their states
abbrev pub moves_from : Units → Source → Fsmd → ℕ → List (MoveOver (List ℕ))
moves_from units p m q = moves (exit_of m q) (basic_block_at m q) (named_rows units p m q)
