use Rattle.fs_grammar.specs.Grammar.{reading, with_names}
use Rattle.fs_phrase_text.specs.Declaring.{at_name}
use Rattle.fs_phrase_text.proofs.Hosted.{carried_whole}
use Rattle.fs_text_parser.proofs.Declared.{placed, behind, hosts}
use Rattle.fs_text_parser.proofs.declarations.names.Goals as goal

pub returns-clause-goes : goal.returns-clause-goes
returns-clause-goes c =
    λ f ds d. carried_whole reading (placed f ds) (behind f ds) (hosts f ds) c.names.result c.args.tokens.now (at_name d)
    (λ x. (with_names d x.0.items, x.1.now)) (c.names.ensures.goes d)
