use Rattle.std.proofs.Common.{◌≡◌, length, map}
use Rattle.fs_model.specs.Source.{Source}
use Rattle.fs_model.specs.View.{source_state_of}
use Rattle.fs_grammar.specs.Grammar.{reading, at_state, with_states}
use Rattle.fs_text.proofs.states.states.Given as goal

abbrev pub invariant-each : goal.invariant-each
invariant-each l = (s : Source) → reading l.tokens (at_state l.format s) ≡ reading l.rest (at_state l.format (with_states s (map source_state_of l.all.items)))

abbrev pub decreases-each : goal.decreases-each
decreases-each l = length l.rest
