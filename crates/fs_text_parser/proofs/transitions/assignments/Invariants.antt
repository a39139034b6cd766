use Rattle.std.proofs.Common.{◌≡◌, ◌≤◌, length, map}
use Rattle.fs_model.specs.View.{named_assignment}
use Rattle.fs_grammar.specs.Grammar.{OpenTransition, reading, at_assignment, with_assignments}
use Rattle.fs_text_parser.proofs.transitions.assignments.Given as goal

abbrev pub invariant-loop-all : goal.invariant-loop-all
invariant-loop-all l =
    ((o : OpenTransition) → o.state.format ≡ l.format
    → reading l.tokens (at_assignment o) ≡ reading l.rest (at_assignment (with_assignments o (map named_assignment l.all.items))))
    × (length l.rest ≤ length l.tokens)

abbrev pub decreases-loop-all : goal.decreases-loop-all
decreases-loop-all l = length l.rest
