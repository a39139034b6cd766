use Rattle.std.proofs.Common.{◌≡◌, [], length, map}
use Rattle.fs_model.specs.View.{declaration_of}
use Rattle.hls_program_parts.specs.ProgramGrammar.{program_reading, at_declaration}
use Rattle.hls_program_text.proofs.declarations.declarations.Given as goal

abbrev pub invariant-each : goal.invariant-each
invariant-each l = program_reading l.tokens (at_declaration []) ≡ program_reading l.rest (at_declaration (map declaration_of l.all.items))

abbrev pub decreases-each : goal.decreases-each
decreases-each l = length l.rest
