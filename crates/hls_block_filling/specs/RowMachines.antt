-- A machine whose blocks are replaced by rows.
use Rattle.std.specs.Prelude.{◌≡◌, ◌≢◌, ℕ, ◌==◌, ◌≤◌, cond, List, [], ◌∷◌, map, length, None, true, ◌<◌}
use Rattle.std.specs.List.{slice_index_or, flat_map}
use Rattle.fs_model.specs.Expressions.{Assignment, Transition}
use Rattle.fs_model.specs.Machines.{State, Fsmd, transitions_of}
use Rattle.fs_model.specs.Stores.{Store}
use Rattle.hls_block_filling.specs.Items.{Item, store_after_items}
use Rattle.hls_block_filling.specs.BasicBlocks.{all_states, is_first_of_block, firsts, basic_block_at, exit_of, items_at}

-- a state whose one transition has no guard. X tells variables apart: numbers of a machine, or names of a text
pub record MoveOver (X : Type 0) : Type 0 where
  pub state : ℕ
  pub assignments : List (Assignment X)
  pub target : ℕ

abbrev pub Move : Type 0
Move = MoveOver ℕ

-- where a row leads: to the next state where there is another row, else out of the block
abbrev pub after_row : {X : Type 0} → ℕ → List ℕ → List (List (Assignment X)) → ℕ
after_row exit qs [] = exit
after_row exit [] (a ∷ rows) = exit
after_row exit (q ∷ qs) (a ∷ rows) = q

-- rows in the first states of a block
abbrev pub moves : {X : Type 0} → ℕ → List ℕ → List (List (Assignment X)) → List (MoveOver X)
moves exit [] rows = []
moves exit (q ∷ qs) [] = []
moves exit (q ∷ qs) (a ∷ rows) = record { state = q; assignments = a; target = after_row exit qs rows } ∷ moves exit qs rows

-- the rows of all blocks
abbrev pub all_moves : {X : Type 0} → Fsmd → (ℕ → List (List (Assignment X))) → List (MoveOver X)
all_moves m rows = flat_map (λ q. moves (exit_of m q) (basic_block_at m q) (rows q)) (firsts m)

abbrev pub move_transition : Move → Transition ℕ ℕ
move_transition x = record { guard = None; target = x.target; assignments = x.assignments }

-- the transitions of a state where the moves say which, else others
abbrev pub transitions_by : List Move → ℕ → List (Transition ℕ ℕ) → List (Transition ℕ ℕ)
transitions_by [] q others = others
transitions_by (x ∷ xs) q others = cond (x.state == q) (move_transition x ∷ []) (transitions_by xs q others)

abbrev pub state_at : Fsmd → ℕ → State
state_at m q = slice_index_or m.states q (record { name = []; transitions = [] })

-- the machine with rows for the blocks, by their first states. A block's other states are left as they are
abbrev pub machine_with_rows : Fsmd → (ℕ → List Item) → Fsmd
machine_with_rows m rows = record {
  variables = m.variables;
  reset = m.reset;
  states = map (λ q. record {
    name = (state_at m q).name;
    transitions = transitions_by (all_moves m rows) q (transitions_of m q);
  })
      (all_states m);
}

-- each block has rows, no more than states, and they end with its store
pub record KeepsStores (m : Fsmd) (rows : ℕ → List Item) : Type 0 where
  pub some : (q : ℕ) → q < length m.states → is_first_of_block m q ≡ true → rows q ≢ []
  pub no_more : (q : ℕ) → q < length m.states → is_first_of_block m q ≡ true → length (rows q) ≤ length (basic_block_at m q)
  pub stores : (q : ℕ) (s : Store) → q < length m.states → is_first_of_block m q ≡ true
      → store_after_items (rows q) s ≡ store_after_items (items_at m q) s
