-- The basic blocks of a machine.
use Rattle.std.specs.Prelude.{◌≡◌, ℕ, zero, suc, ◌<◌, ◌==◌, Bool, true, false, not, ◌&&◌, cond, List, [], ◌∷◌, map, filter}
use Rattle.std.specs.Prelude.{length, Some, slice_get}
use Rattle.std.specs.List.{range_with_len, list_any, flat_map}
use Rattle.fs_model.specs.Machines.{Fsmd, transitions_of}
use Rattle.fs_model.specs.Trees.{branches_of}
use Rattle.fs_model.specs.SoundMachines.{is_cutpoint}
use Rattle.fs_cut.specs.Paths.{branch_at, target_of}
use Rattle.hls_block_filling.specs.Items.{Item}

-- the numbers of a machine's states, in order
abbrev pub all_states : Fsmd → List ℕ
all_states m = range_with_len 0 (length m.states)

-- the states that lead to a state, each once for each of its branches that do
abbrev pub sources : Fsmd → ℕ → List ℕ
sources m r = flat_map (λ q. map (λ b. q) (filter (λ b. b.target == r) (branches_of (transitions_of m q)))) (all_states m)

-- whether a list is of one number
abbrev pub is_only : ℕ → List ℕ → Bool
is_only q [] = false
is_only q (p ∷ []) = p == q
is_only q (p ∷ r ∷ rest) = false

-- whether a state stands in a block: it isn't the reset state, and has one branch
abbrev pub is_in_block : Fsmd → ℕ → Bool
is_in_block m q = not (is_cutpoint m q)

-- whether a state comes after another in a block: it is the target of exactly one branch, that of the one before
abbrev pub follows : Fsmd → ℕ → ℕ → Bool
follows m q r = is_in_block m q && is_in_block m r && is_only q (sources m r)

-- the state to which a state with one branch leads
abbrev pub next_state : Fsmd → ℕ → ℕ
next_state m q = target_of m q 0

-- the block from a state on, at most n states more
abbrev pub block_from : Fsmd → ℕ → ℕ → List ℕ
block_from m zero q = q ∷ []
block_from m (suc n) q = q ∷ cond (follows m q (next_state m q)) (block_from m n (next_state m q)) []

-- where it leads
abbrev pub exit_from : Fsmd → ℕ → ℕ → ℕ
exit_from m zero q = next_state m q
exit_from m (suc n) q = cond (follows m q (next_state m q)) (exit_from m n (next_state m q)) (next_state m q)

abbrev pub basic_block_at : Fsmd → ℕ → List ℕ
basic_block_at m q = block_from m (length m.states) q

abbrev pub exit_of : Fsmd → ℕ → ℕ
exit_of m q = exit_from m (length m.states) q

-- whether a state comes after another one in a block
abbrev pub is_inner : Fsmd → ℕ → Bool
is_inner m r = list_any (λ q. follows m q r) (all_states m)

-- whether a state is the first of a block
abbrev pub is_first_of_block : Fsmd → ℕ → Bool
is_first_of_block m q = is_in_block m q && not (is_inner m q)

-- the first states of the blocks, in order
abbrev pub firsts : Fsmd → List ℕ
firsts m = filter (is_first_of_block m) (all_states m)

-- the item of a state in a block: the assignments of its one branch
abbrev pub item_of : Fsmd → ℕ → Item
item_of m q = (branch_at m q 0).assignments

abbrev pub items_at : Fsmd → ℕ → List Item
items_at m q = map (item_of m) (basic_block_at m q)

-- a state stands in the block that begins with a first state, at a place
pub record StandsInBlock (m : Fsmd) (q : ℕ) : Type 0 where
  pub first : ℕ
  pub within : first < length m.states
  pub starts : is_first_of_block m first ≡ true
  pub index : ℕ
  pub is : slice_get (basic_block_at m first) index ≡ Some q
