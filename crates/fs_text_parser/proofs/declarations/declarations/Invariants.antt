use Rattle.std.proofs.Common.{◌≡◌, [], length, map}
use Rattle.fs_model.specs.View.{declaration_of}
use Rattle.fs_grammar.specs.Grammar.{reading, at_declaration}
use Rattle.fs_text_parser.proofs.declarations.declarations.Given as goal

abbrev pub invariant-each : goal.invariant-each
invariant-each l = reading l.tokens (at_declaration l.format []) ≡ reading l.rest (at_declaration l.format (map declaration_of l.all.items))

abbrev pub decreases-each : goal.decreases-each
decreases-each l = length l.rest
