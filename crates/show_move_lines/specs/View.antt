-- The types of src/ as plain data.
use Rattle.std.specs.Prelude.{Option, Some, None}
use Rattle.fs_cut.specs.View.{point_of}
use Rattle.sym_paths.specs.View.{post_in}
use Rattle.sym_facts.specs.View.{missing_in}
use Rattle.search_tables.specs.SearchTables.{MachinePair, Target, Unknown, Known}
use Rattle.search_tables.specs.View.{search_node_in}
use Rattle.show_move_lines.specs.declared.sides.Sides.{Sides}
use Rattle.show_move_lines.specs.declared.points.NumberedNode.{NumberedNode}
use Rattle.show_move_lines.specs.declared.turn.Turn.{Turn as CodeTurn}
use Rattle.show_move_lines.specs.declared.turn.Turn.TheVariants as code
use Rattle.show_move_lines.specs.MoveReplays.{Turn, Idle, Makes, Weakens}

abbrev pub side_machines : Sides → MachinePair
side_machines s = record { left = s.left.now; right = s.right.now }

abbrev pub target_in : Option NumberedNode → Target
target_in None = Unknown
target_in (Some s) = Known s.number (search_node_in s.node.now)

abbrev pub turn_in : CodeTurn → Turn
turn_in code.Idle = Idle
turn_in (code.Makes P Q f) = Makes (point_of P) (point_of Q) f
turn_in (code.Weakens k P Q post x f) = Weakens k (point_of P) (point_of Q) (post_in post) (missing_in x) f
