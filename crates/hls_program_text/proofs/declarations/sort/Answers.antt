use Rattle.std.proofs.Common.{[]}
use Rattle.fs_phrase_text.specs.Declaring.{at_sort, at_name}
use Rattle.fs_phrase_text.proofs.Hosted.{carried}
use Rattle.hls_program_parts.specs.ProgramGrammar.{program_reading, at_declaration, in_declaration, with_declaration}
use Rattle.hls_program_text.proofs.Hosted.{hosts_declarations}
use Rattle.hls_program_text.proofs.declarations.sort.Goals as goal

pub returns-clause-goes : goal.returns-clause-goes
returns-clause-goes c =
    λ ds n r. carried program_reading (in_declaration ds) (λ d. at_declaration (with_declaration ds d))
    (hosts_declarations ds) c.sort.result c.args.tokens.now (at_sort n r) (λ x. x.1.now) (λ x. at_name (record { line = n; role = r; sort = x.0; names = [] }))
    (c.sort.ensures.goes n r)
