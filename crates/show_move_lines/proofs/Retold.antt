-- Moves that are made again, one after another: what was told of those before, and what is told of those that are left.
use Rattle.std.proofs.Common.{◌≡◌, ◌∙◌, ℕ, ◌+◌, ◌<◌, List, ◌∷◌, ◌++◌, length, drop, get_or, ap, ap₂, sym, append_assoc}
use Rattle.fs_model.proofs.Lists.{drop_next}
use Rattle.fs_pair.specs.declared.positions.Position.{Position}
use Rattle.search_tables.specs.declared.moves.Move.{Move}
use Rattle.search_tables.specs.SearchTables.{MachinePair, Table}
use Rattle.show_move_lines.specs.MoveReplays.{turn_of_move, with_turn, with_turns}

module _ (ps : List Position) (m : MachinePair) (xs : List Move) (i : ℕ) (x : Move) (h : i < length xs) (is : x ≡ get_or xs i x)
    (T U : Table) (made : U ≡ with_turn T (turn_of_move ps m T x)) where
  -- what is told of a move stands behind what was told before, and before what is told of those that are left
  pub next_told : {R : Type 0} (all : Table → List Move → List R) (one : Table → Move → List R)
      → ((S : Table) (y : Move) (ys : List Move) → all S (y ∷ ys) ≡ one S y ++ all (with_turn S (turn_of_move ps m S y)) ys)
      → (old new whole : List R) → new ≡ old ++ one T x → old ++ all T (drop i xs) ≡ whole → new ++ all U (drop (i + 1) xs) ≡ whole
  next_told all one splits old new whole told before =
      let rest = drop (i + 1) xs in
      ap₂ (λ r V. r ++ all V rest) told made
      ∙ append_assoc old (one T x) (all (with_turn T (turn_of_move ps m T x)) rest)
      ∙ ap (λ r. old ++ r) (sym (ap (all T) (drop_next xs i x h is) ∙ splits T x rest))
      ∙ before

  -- the moves that are left make the same table
  pub next_made : (whole : Table) → with_turns ps m T (drop i xs) ≡ whole → with_turns ps m U (drop (i + 1) xs) ≡ whole
  next_made whole before =
      ap (λ V. with_turns ps m V (drop (i + 1) xs)) made ∙ sym (ap (with_turns ps m T) (drop_next xs i x h is)) ∙ before
