-- The rows of a machine are those of the text that spells it, over numbers.
use Rattle.std.proofs.Common.{◌≡◌, ℕ, zero, suc, refl, sym, ◌∙◌, ap, ap₂, Bool, true, false, List, [], ◌∷◌, ◌++◌, map}
use Rattle.std.specs.Prelude.{◌==◌, cond}
use Rattle.std.proofs.Math.ListN.{get_or-map}
use Rattle.std.proofs.lemmas.List.{map-append}
use Rattle.fs_model.proofs.Lists.{map_map}
use Rattle.fs_model.specs.Expressions.{Assignment, Transition}
use Rattle.fs_model.specs.Renamed.{assignment_over}
use Rattle.fs_model.specs.Source.{SourceTransition, Source}
use Rattle.fs_model.specs.Machines.{State, Fsmd, transitions_of}
use Rattle.fs_rules.specs.MachineOfParts.{place_or_end, variables_of, names_of, state_names, transition_spelled, state_spelled, machine_of}
use Rattle.fs_model.specs.SoundMachines.{IsSound}
use Rattle.hls_block_filling.specs.Placings.{PlacedOver, join_assignments, row_at, rows_from, rows_of}
use Rattle.hls_block_filling.specs.ItemUnits.{Units}
use Rattle.hls_block_filling.specs.Filling.{Rows, Filled, row_or, placed_from, placed_by, graph_of, filling_of}
use Rattle.hls_block_filling.specs.BasicBlocks.{basic_block_at, exit_of, firsts, item_of, items_at}
use Rattle.hls_block_filling.specs.RowMachines.{MoveOver, after_row, moves, all_moves, state_at}
use Rattle.hls_block_filling.proofs.Among.{Among}
use Rattle.hls_block_filling.specs.Schedules.{rows_by}
use Rattle.hls_block_filling.proofs.Schedules.{its_block}
use Rattle.hls_block_filling.specs.SourceRows.{source_state, first_assignments, named_item, named_rows, named_moves}
use Rattle.hls_block_filling.proofs.MappedLists.{map_same, flat_same, map_flat}
use Rattle.hls_block_filling.proofs.Found.{IsInBlock, block_is}

-- ---- the same over other variables
module _ {X Y : Type 0} (f : X → Y) where
  abbrev pub item_over : List (Assignment X) → List (Assignment Y)
  item_over a = map (assignment_over f) a

  abbrev placed_over : PlacedOver X → PlacedOver Y
  placed_over p = record { item = item_over p.item; row = p.row }

  placed_from_over : (items : List (List (Assignment X))) (k : ℕ) (rows : Rows)
      → placed_from k (map item_over items) rows ≡ map placed_over (placed_from k items rows)
  placed_from_over [] k rows = refl
  placed_from_over (a ∷ items) k rows = ap (λ (ps : List (PlacedOver Y)). record { item = item_over a; row = row_or (rows k) } ∷ ps)
      (placed_from_over items (suc k) rows)

  joined_over : (ps : List (PlacedOver X)) → join_assignments (map placed_over ps) ≡ item_over (join_assignments ps)
  joined_over [] = refl
  joined_over (p ∷ ps) = ap (λ (a : List (Assignment Y)). item_over p.item ++ a) (joined_over ps)
      ∙ sym (map-append (assignment_over f) p.item (join_assignments ps))

  row_step : (p : PlacedOver X) (row : List (PlacedOver X)) (rest : List (PlacedOver Y)) (t : Bool) → rest ≡ map placed_over row
      → cond t (placed_over p ∷ rest) rest ≡ map placed_over (cond t (p ∷ row) row)
  row_step p row rest true e = ap (λ (r : List (PlacedOver Y)). placed_over p ∷ r) e
  row_step p row rest false e = e

  row_over : (k : ℕ) (ps : List (PlacedOver X)) → row_at k (map placed_over ps) ≡ map placed_over (row_at k ps)
  row_over k [] = refl
  row_over k (p ∷ ps) = row_step p (row_at k ps) (row_at k (map placed_over ps)) (p.row == k) (row_over k ps)

  rows_over : (n k : ℕ) (ps : List (PlacedOver X)) → rows_from k n (map placed_over ps) ≡ map item_over (rows_from k n ps)
  rows_over zero k ps = refl
  rows_over (suc n) k ps = ap₂ (λ (a : List (Assignment Y)) (rest : List (List (Assignment Y))). a ∷ rest)
      (ap join_assignments (row_over k ps) ∙ joined_over (row_at k ps)) (rows_over n (suc k) ps)

  filled_over : (items : List (List (Assignment X))) (g : Filled)
      → rows_of g.count (placed_by (map item_over items) g) ≡ map item_over (rows_of g.count (placed_by items g))
  filled_over items g = ap (rows_of g.count) (placed_from_over items 0 g.rows) ∙ rows_over g.count 0 (placed_by items g)

  abbrev pub move_over : MoveOver X → MoveOver Y
  move_over x = record { state = x.state; assignments = item_over x.assignments; target = x.target }

  after_over : (exit : ℕ) (qs : List ℕ) (rows : List (List (Assignment X))) → after_row exit qs (map item_over rows) ≡ after_row exit qs rows
  after_over exit qs [] = refl
  after_over exit [] (a ∷ rows) = refl
  after_over exit (q ∷ qs) (a ∷ rows) = refl

  moves_over : (exit : ℕ) (qs : List ℕ) (rows : List (List (Assignment X))) → moves exit qs (map item_over rows) ≡ map move_over (moves exit qs rows)
  moves_over exit [] rows = refl
  moves_over exit (q ∷ qs) [] = refl
  moves_over exit (q ∷ qs) (a ∷ rows) = ap₂ (λ (t : ℕ) (xs : List (MoveOver Y)). record { state = q; assignments = item_over a; target = t } ∷ xs)
      (after_over exit qs rows) (moves_over exit qs rows)

  all_moves_over : (m : Fsmd) (rows : ℕ → List (List (Assignment X))) (others : ℕ → List (List (Assignment Y)))
      → ((q : ℕ) → Among q (firsts m) → others q ≡ map item_over (rows q)) → all_moves m others ≡ map move_over (all_moves m rows)
  all_moves_over m rows others h =
      flat_same (λ q. moves (exit_of m q) (basic_block_at m q) (others q))
      (λ q. map move_over (moves (exit_of m q) (basic_block_at m q) (rows q))) (firsts m)
      (λ q w. ap (moves (exit_of m q) (basic_block_at m q)) (h q w) ∙ moves_over (exit_of m q) (basic_block_at m q) (rows q))
      ∙ map_flat move_over (λ q. moves (exit_of m q) (basic_block_at m q) (rows q)) (firsts m)

-- ---- the machine of parts
module _ (p : Source) where
  abbrev pub M : Fsmd
  M = machine_of p

  -- the names of variables, and those of states
  abbrev pub names : List (List ℕ)
  names = names_of (variables_of p.declarations)

  abbrev pub stated : List (List ℕ)
  stated = state_names p.states

  pub spelled_at : (q : ℕ) → state_at M q ≡ state_spelled names stated (source_state p q)
  spelled_at q = get_or-map (state_spelled names stated) p.states q (record { line = 0; name = []; transitions = [] })

  pub lines_at : (q : ℕ) → transitions_of M q ≡ map (transition_spelled names stated) (source_state p q).transitions
  lines_at q = ap (λ (s : State). s.transitions) (spelled_at q)

  first_spelled : (ls : List SourceTransition) (l : Transition ℕ ℕ) → map (transition_spelled names stated) ls ≡ l ∷ []
      → item_over (place_or_end names) (first_assignments ls) ≡ l.assignments
  first_spelled [] l e = absurd (cc e)
  first_spelled (k ∷ ks) l e = let same : transition_spelled names stated k ≡ l = cc e in ap (λ (z : Transition ℕ ℕ). z.assignments) same

  module _ (sound : IsSound (machine_of p)) where
    item_is : (q : ℕ) → IsInBlock M sound q → item_of M q ≡ item_over (place_or_end names) (named_item p q)
    item_is q s =
        let l = its_block M sound q s.within s.in_block in
        l.2 ∙ sym (first_spelled (source_state p q).transitions l.0 (sym (lines_at q) ∙ l.1))

    items_are : (q : ℕ) → Among q (firsts M) → items_at M q ≡ map (item_over (place_or_end names)) (map (named_item p) (basic_block_at M q))
    items_are q w =
        map_same (item_of M) (λ r. item_over (place_or_end names) (named_item p r)) (basic_block_at M q) (λ r v. item_is r (block_is M sound q r w v))
        ∙ sym (map_map (item_over (place_or_end names)) (named_item p) (basic_block_at M q))

    rows_are : (units : Units) (q : ℕ) → Among q (firsts M) → rows_by units M q ≡ map (item_over (place_or_end names)) (named_rows units p M q)
    rows_are units q w =
        let g = filling_of (graph_of (items_at M q)) units in
        ap (λ (items : List (List (Assignment ℕ))). rows_of g.count (placed_by items g)) (items_are q w)
        ∙ filled_over (place_or_end names) (map (named_item p) (basic_block_at M q)) g

    pub moves_are : (units : Units) → all_moves M (rows_by units M) ≡ map (move_over (place_or_end names)) (named_moves units p M)
    moves_are units = all_moves_over (place_or_end names) M (named_rows units p M) (rows_by units M) (rows_are units)
