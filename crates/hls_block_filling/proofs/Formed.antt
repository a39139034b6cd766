-- The scheduled parts are well formed where the parts are.
use Rattle.std.proofs.Common.{◌≡◌, ℕ, refl, sym, subst, Bool, true, false, List, [], ◌∷◌, map, Option, Some, None}
use Rattle.std.specs.Prelude.{◌&&◌, cond}
use Rattle.std.specs.List.{list_all}
use Rattle.std.proofs.lemmas.Bool.{and_from}
use Rattle.fs_model.proofs.Booleans.{and_first, and_second}
use Rattle.fs_model.specs.Expressions.{Assignment}
use Rattle.fs_model.specs.Source.{SourceTransition, SourceState, Source}
use Rattle.fs_model.specs.Machines.{Fsmd}
use Rattle.fs_model.specs.WellFormed.{is_well_formed_condition, is_well_formed_assignment, is_well_formed_transition, is_well_formed_state}
use Rattle.fs_model.specs.WellFormed.{is_well_formed_declaration, is_well_formed}
use Rattle.hls_block_filling.specs.ItemUnits.{Units}
use Rattle.hls_block_filling.specs.Filling.{graph_of, filling_of}
use Rattle.hls_block_filling.specs.BasicBlocks.{all_states, is_in_block, basic_block_at, exit_of, firsts, items_at}
use Rattle.hls_block_filling.specs.RowMachines.{MoveOver, moves}
use Rattle.hls_block_filling.proofs.Among.{Among, joined_from}
use Rattle.hls_block_filling.proofs.Within.{move_row, row_joined}
use Rattle.hls_block_filling.specs.SourceRows.{source_state, first_assignments, named_item, placed_in_block, named_rows, named_moves, RowEffect}
use Rattle.hls_block_filling.specs.SourceRows.{first_row_effect}
use Rattle.hls_block_filling.specs.Sources.{state_by, states_by, scheduled_source}
use Rattle.hls_block_filling.proofs.MappedLists.{among_mapped}
use Rattle.hls_block_filling.proofs.Found.{found_in}
use Rattle.hls_block_filling.proofs.Passing.{all_flat, at_passes, row_passes}

first_formed : (ls : List SourceTransition) → list_all is_well_formed_transition ls ≡ true → list_all is_well_formed_assignment (first_assignments ls) ≡ true
first_formed [] h = refl
first_formed (l ∷ ls) h =
    and_second (is_well_formed_condition l.content.guard) (list_all is_well_formed_assignment l.content.assignments)
    (and_first (is_well_formed_transition l) (list_all is_well_formed_transition ls) h)

one_or_none : (t : Bool) (s : SourceState) → is_well_formed_state s ≡ true → list_all is_well_formed_state (cond t [] (s ∷ [])) ≡ true
one_or_none true s h = refl
one_or_none false s h = and_from (is_well_formed_state s) true h refl

module _ (units : Units) (p : Source) (m : Fsmd) (formed : list_all is_well_formed_state p.states ≡ true) where
  state_formed : (q : ℕ) → is_well_formed_state (source_state p q) ≡ true
  state_formed q = at_passes is_well_formed_state p.states q (record { line = 0; name = []; transitions = [] }) formed refl

  item_formed : (qs : List ℕ) (a : List (Assignment (List ℕ))) → Among a (map (named_item p) qs) → list_all is_well_formed_assignment a ≡ true
  item_formed qs a w = let r = among_mapped (named_item p) qs a w in
      subst (λ z. list_all is_well_formed_assignment z ≡ true) (sym r.2) (first_formed (source_state p r.0).transitions (state_formed r.0))

  move_formed : (x : MoveOver (List ℕ)) → Among x (named_moves units p m) → list_all is_well_formed_assignment x.assignments ≡ true
  move_formed x h =
      let w = joined_from (λ q. moves (exit_of m q) (basic_block_at m q) (named_rows units p m q)) x (firsts m) h in
      let g = filling_of (graph_of (items_at m w.0)) units in
      let j = row_joined (placed_in_block p (basic_block_at m w.0) g) g.count 0 x.assignments
      (move_row (exit_of m w.0) (basic_block_at m w.0) (named_rows units p m w.0) x w.2) in
      subst (λ z. list_all is_well_formed_assignment z ≡ true) (sym j.1)
      (row_passes is_well_formed_assignment (λ a. a) refl (λ a b. refl) (map (named_item p) (basic_block_at m w.0)) g j.0
      (item_formed (basic_block_at m w.0)))

  by_row : (q : ℕ) (o : Option RowEffect) → first_row_effect (named_moves units p m) q ≡ o → list_all is_well_formed_state (state_by p m q o) ≡ true
  by_row q None e = one_or_none (is_in_block m q) (source_state p q) (state_formed q)
  by_row q (Some d) e =
      let w = found_in (named_moves units p m) q d e in
      let f : list_all is_well_formed_assignment d.0 ≡ true =
      subst (λ (z : RowEffect). list_all is_well_formed_assignment z.0 ≡ true) w.does (move_formed w.move w.among) in
      and_from (list_all is_well_formed_assignment d.0 && true) true (and_from (list_all is_well_formed_assignment d.0) true f refl) refl

pub scheduled_formed : (units : Units) (p : Source) (m : Fsmd) → is_well_formed p ≡ true → is_well_formed (scheduled_source units p m) ≡ true
scheduled_formed units p m h =
    let ds = and_first (list_all is_well_formed_declaration p.declarations) (list_all is_well_formed_state p.states) h in
    let ss = and_second (list_all is_well_formed_declaration p.declarations) (list_all is_well_formed_state p.states) h in
    and_from (list_all is_well_formed_declaration p.declarations) (list_all is_well_formed_state (scheduled_source units p m).states) ds
    (all_flat is_well_formed_state (states_by p m (first_row_effect (named_moves units p m))) (all_states m)
    (λ q. by_row units p m ss q (first_row_effect (named_moves units p m) q) refl))
