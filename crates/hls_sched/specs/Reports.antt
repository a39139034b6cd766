-- What is told of the blocks of a machine, and why it is not scheduled.
use Rattle.std.specs.Prelude.{◌≡◌, ℕ, ◌≤◌, true, List, map, length, Some}
use Rattle.fs_model.specs.Machines.{Fsmd}
use Rattle.hls_block_filling.specs.Placings.{Placed, items_of, is_valid, all_below}
use Rattle.hls_block_filling.specs.BasicBlocks.{basic_block_at, is_first_of_block, items_at, firsts}
use Rattle.hls_block_filling.specs.RowMachines.{state_at}
use Rattle.hls_block_filling.specs.ItemUnits.{Units, none_used, suffice}
use Rattle.hls_block_filling.specs.Heights.{chain_of}
use Rattle.hls_block_filling.specs.Filling.{graph_of, used_by_all}
use Rattle.hls_block_filling.specs.Schedules.{rows_by, schedule_of, scheduled_place}
use Rattle.hls_block_filling.specs.Over.{over_in}
use Rattle.hls_sched.specs.declared.scheduling.LineReport.{LineReport}
use Rattle.hls_sched.specs.declared.scheduling.SchedError.{SchedError}
use Rattle.hls_sched.specs.declared.scheduling.SchedError.TheVariants.{Over, NoMemory}

-- a block: its first state, its length, the number of its rows, and its chain
pub record Report : Type 0 where
  pub first : ℕ
  pub before : ℕ
  pub after : ℕ
  pub chain : ℕ

abbrev pub report_of : LineReport → Report
report_of r = record { first = r.first.0; before = r.before; after = r.after; chain = r.chain }

abbrev pub report_at : Units → Fsmd → ℕ → Report
report_at units m q = record {
  first = q;
  before = length (basic_block_at m q);
  after = length (rows_by units m q);
  chain = chain_of (items_at m q);
}

-- all blocks, in the order of their first states
abbrev pub reports : Units → Fsmd → List Report
reports units m = map (report_at units m) (firsts m)

-- the block of the scheduled machine that begins at the state of this name has so many states; it is no longer than before, and
-- as long as its chain at least; no valid placing of its items has fewer rows than the chain, and where the units suffice for all
-- of them the block is as long as that
pub record KeepsLengths (units : Units) (m : Fsmd) (r : Report) : Type 0 where
  pub name : (state_at (schedule_of units m) (scheduled_place units m r.first)).name ≡ (state_at m r.first).name
  pub begins : is_first_of_block (schedule_of units m) (scheduled_place units m r.first) ≡ true
  pub length_now : length (basic_block_at (schedule_of units m) (scheduled_place units m r.first)) ≡ r.after
  pub no_longer : r.after ≤ r.before
  pub no_shorter : r.chain ≤ r.after
  pub least : (ps : List Placed) (n : ℕ) → items_of ps ≡ items_at m r.first → is_valid ps ≡ true
      → all_below n ps ≡ true → r.chain ≤ n
  pub ample : suffice units none_used (used_by_all (graph_of (items_at m r.first)) (length (items_at m r.first))) ≡ true
      → r.after ≡ r.chain

-- why a machine is not scheduled; out of memory may come at any time
abbrev pub IsNotScheduled : Units → Fsmd → SchedError → Type 0
IsNotScheduled units m (Over state unit) = over_in units m ≡ Some (state.0, unit)
IsNotScheduled units m NoMemory = Unit {0}
