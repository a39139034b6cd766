use Rattle.std.proofs.Common.{◌≡◌, ◌≤◌, length, map}
use Rattle.fs_model.specs.View.{source_transition_of}
use Rattle.fs_grammar.specs.Grammar.{OpenState, reading, at_transition, with_transitions}
use Rattle.fs_text_parser.proofs.transitions.transitions.Given as goal

abbrev pub invariant-each : goal.invariant-each
invariant-each l =
    ((d : OpenState) → d.format ≡ l.format → reading l.tokens (at_transition d)
    ≡ reading l.rest (at_transition (with_transitions d (map source_transition_of l.all.items)))) × (length l.rest ≤ length l.tokens)

abbrev pub decreases-each : goal.decreases-each
decreases-each l = length l.rest
