-- The rows of blocks in the code, as moves over the names of parts.
use Rattle.std.specs.Prelude.{◌≡◌, ℕ, ◌+◌, ◌<◌, ◌≤◌, nat_lt, true, cond, List, map, length, slice_index, None}
use Rattle.std.specs.List.{All, flat_map}
use Rattle.fs_model.specs.declared.parts.StateId.{StateId}
use Rattle.fs_model.specs.Expressions.{Assignment}
use Rattle.fs_model.specs.Source.{Source, SourceTransition}
use Rattle.hls_block_filling.specs.Filling.{Filled, is_before}
use Rattle.hls_block_filling.specs.RowMachines.{MoveOver}
use Rattle.hls_block_filling.specs.declared.plan.Plan.{Plan}
use Rattle.hls_block_filling.specs.WaitingItems.{rows_in}
use Rattle.hls_block_filling.specs.SourceRows.{named_item, row_of, source_state, RowEffect}
use Rattle.hls_sched.specs.declared.moves.Move.{Move}

-- the items of states, one after another
abbrev pub joined_items : Source → List StateId → List (Assignment (List ℕ))
joined_items p states = flat_map (named_item p) (map (λ q. q.0) states)

-- what a move does: the assignments of its items, and the state that comes after
abbrev pub done_by : Source → Move → RowEffect
done_by p x = (joined_items p x.items.items, x.target.0)

abbrev pub move_of : Source → Move → MoveOver (List ℕ)
move_of p x = record { state = x.state.0; assignments = joined_items p x.items.items; target = x.target.0 }

-- what a row does, as a transition of a block
abbrev pub transition_with_row : Source → ℕ → RowEffect → SourceTransition
transition_with_row p line d = record {
  line = line;
  content = record { guard = None; target = (source_state p d.1).name; assignments = d.0 };
}

-- a move among so many states
pub record IsMoveAmong (count : ℕ) (x : Move) : Type 0 where
  pub items : All (λ q. q.0 < count) x.items.items
  pub target : x.target.0 < count

-- a plan for so many items: each has a row, and there are no more rows than items
pub record IsPlanFor (count : ℕ) (p : Plan) : Type 0 where
  pub items : length p.rows.items ≡ count
  pub placed : (j : ℕ) → j < count → is_before p.count (rows_in p.rows.items j) ≡ true
  pub no_more : p.count ≤ count

-- the row of a number of a block that leads to a state, in the state where it stands: it leads to the state of the next row,
-- where there is one, else out of the block
abbrev pub target_of_row : ℕ → List ℕ → ℕ → ℕ → ℕ
target_of_row exit qs count k = cond (nat_lt (k + 1) count) (slice_index qs (k + 1)) exit

abbrev pub row_in_state : Source → ℕ → List ℕ → Filled → ℕ → MoveOver (List ℕ)
row_in_state p exit qs f k = record {
  state = slice_index qs k;
  assignments = row_of p qs f k;
  target = target_of_row exit qs f.count k;
}
