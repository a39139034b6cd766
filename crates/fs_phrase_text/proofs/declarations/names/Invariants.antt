use Rattle.std.proofs.Common.{◌≡◌, ◌≤◌, length}
use Rattle.fs_model.specs.Source.{Declaration}
use Rattle.fs_grammar.specs.Grammar.{with_names}
use Rattle.fs_phrase_text.specs.Declaring.{parse_declaration, at_name}
use Rattle.fs_phrase_text.proofs.declarations.names.Given as goal

abbrev pub invariant-loop-all : goal.invariant-loop-all
invariant-loop-all l = ((d : Declaration) → parse_declaration l.tokens (at_name d) ≡ parse_declaration l.rest (at_name (with_names d l.all.items)))
    × (length l.rest ≤ length l.tokens)

abbrev pub decreases-loop-all : goal.decreases-loop-all
decreases-loop-all l = length l.rest
