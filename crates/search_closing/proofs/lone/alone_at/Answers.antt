use Rattle.std.proofs.Common.{true, false, sym, ◌∙◌}
use Rattle.std.specs.List.{slice_index_or}
use Rattle.fs_cut.specs.View.{point_of}
use Rattle.cert_bisimulation.specs.declared.mode.Mode.TheVariants.{Both}
use Rattle.search_tables.specs.SearchTables.{node_target}
use Rattle.search_tables.specs.LoneMoves.{lone_mode}
use Rattle.search_tables.specs.View.{table_in}
use Rattle.search_closing.specs.View.{covered_machines}
use Rattle.search_closing.proofs.Found.{mode_read}
use Rattle.search_closing.proofs.Targets.{known_alone}
use Rattle.search_closing.proofs.lone.alone_at.Goals as goal

pub returns-then-moves_alone : goal.returns-then-moves_alone
returns-then-moves_alone c =
    let t = c.args.table.now in
    let m = covered_machines t.machines.now in
    let T = table_in t.nodes.now in
    let k = c.in_ok-place.place in
    let s = c.in_ok-place.ensures T t.places_are in
    sym
    (known_alone m (lone_mode c.args.side) (slice_index_or t.modes.now k Both)
    (node_target T (point_of c.args.left) (point_of c.args.right)) k s.0 true s.2 (mode_read m T t.modes.now k s.0 Both t.modes_are s.1)
    (sym c.moves_alone.ensures ∙ c.if-moves_alone.true))

pub returns-else-moves_alone : goal.returns-else-moves_alone
returns-else-moves_alone c =
    let t = c.args.table.now in
    let m = covered_machines t.machines.now in
    let T = table_in t.nodes.now in
    let k = c.in_ok-place.place in
    let s = c.in_ok-place.ensures T t.places_are in
    sym
    (known_alone m (lone_mode c.args.side) (slice_index_or t.modes.now k Both)
    (node_target T (point_of c.args.left) (point_of c.args.right)) k s.0 false s.2 (mode_read m T t.modes.now k s.0 Both t.modes_are s.1)
    (sym c.moves_alone.ensures ∙ c.if-moves_alone.false))
