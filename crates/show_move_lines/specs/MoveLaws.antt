-- What holds of moves that are made again.
use Rattle.std.specs.Prelude.{◌≡◌, List}
use Rattle.fs_model.specs.SoundMachines.{IsSound}
use Rattle.search_tables.specs.declared.moves.Move.{Move}
use Rattle.search_tables.specs.SearchTables.{MachinePair, Table, first_table, positions_of}
use Rattle.search_tables.specs.Legal.{Makes}
use Rattle.show_move_lines.specs.MoveReplays.{with_turns}

-- made again, a legal list of moves makes the table of the search
abbrev pub TheSameTableIsMade : Type 0
TheSameTableIsMade = (m : MachinePair) → IsSound m.left → IsSound m.right → (moves : List Move) (T : Table) → Makes m moves T
    → with_turns (positions_of m) m (first_table m) moves ≡ T
