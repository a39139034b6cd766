use Rattle.fs_grammar.specs.Grammar.{with_names}
use Rattle.fs_phrase_text.specs.Declaring.{at_name}
use Rattle.fs_phrase_text.proofs.Hosted.{carried_whole}
use Rattle.hls_program_parts.specs.ProgramGrammar.{program_reading, at_declaration, in_declaration, with_declaration}
use Rattle.hls_program_text.proofs.Hosted.{hosts_declarations}
use Rattle.hls_program_text.proofs.declarations.names.Goals as goal

pub returns-clause-goes : goal.returns-clause-goes
returns-clause-goes c =
    λ ds d. carried_whole program_reading (in_declaration ds) (λ e. at_declaration (with_declaration ds e))
    (hosts_declarations ds) c.names.result c.args.tokens.now (at_name d) (λ x. (with_names d x.0.items, x.1.now)) (c.names.ensures.goes d)
