-- The rows of the blocks of a machine, over the names of the parts that spell it.
use Rattle.std.specs.Prelude.{ℕ, ◌==◌, cond, List, [], ◌∷◌, map, Option, Some, None}
use Rattle.std.specs.List.{slice_index_or}
use Rattle.fs_model.specs.Expressions.{Assignment}
use Rattle.fs_model.specs.Source.{SourceTransition, SourceState, Source}
use Rattle.fs_model.specs.Machines.{Fsmd}
use Rattle.hls_block_filling.specs.Placings.{PlacedOver, join_assignments, row_at, rows_of}
use Rattle.hls_block_filling.specs.ItemUnits.{Units}
use Rattle.hls_block_filling.specs.Filling.{Filled, graph_of, filling_of, placed_by}
use Rattle.hls_block_filling.specs.BasicBlocks.{basic_block_at, items_at}
use Rattle.hls_block_filling.specs.RowMachines.{MoveOver, all_moves}

abbrev pub source_state : Source → ℕ → SourceState
source_state p q = slice_index_or p.states q (record { line = 0; name = []; transitions = [] })

-- the assignments of the first of transitions, which is the only one of a state in a block
abbrev pub first_assignments : List SourceTransition → List (Assignment (List ℕ))
first_assignments [] = []
first_assignments (l ∷ ls) = l.content.assignments

-- the item of a state in a block
abbrev pub named_item : Source → ℕ → List (Assignment (List ℕ))
named_item p q = first_assignments (source_state p q).transitions

-- the items of a block of these states, with their rows
abbrev pub placed_in_block : Source → List ℕ → Filled → List (PlacedOver (List ℕ))
placed_in_block p qs f = placed_by (map (named_item p) qs) f

-- the row of a number, as one item
abbrev pub row_of : Source → List ℕ → Filled → ℕ → List (Assignment (List ℕ))
row_of p qs f k = join_assignments (row_at k (placed_in_block p qs f))

abbrev pub rows_in_block : Source → List ℕ → Filled → List (List (Assignment (List ℕ)))
rows_in_block p qs f = rows_of f.count (placed_in_block p qs f)

-- the rows of the block from a state on, by its filling
abbrev pub named_rows : Units → Source → Fsmd → ℕ → List (List (Assignment (List ℕ)))
named_rows units p m q = rows_in_block p (basic_block_at m q) (filling_of (graph_of (items_at m q)) units)

-- the rows of all blocks in their states
abbrev pub named_moves : Units → Source → Fsmd → List (MoveOver (List ℕ))
named_moves units p m = all_moves m (named_rows units p m)

-- what a state does by a row: the assignments, and the state that comes after
abbrev pub RowEffect : Type 0
RowEffect = List (Assignment (List ℕ)) × ℕ

-- what the first of moves that is of a state does
abbrev pub first_row_effect : List (MoveOver (List ℕ)) → ℕ → Option RowEffect
first_row_effect [] q = None
first_row_effect (x ∷ xs) q = cond (x.state == q) (Some (x.assignments, x.target)) (first_row_effect xs q)
