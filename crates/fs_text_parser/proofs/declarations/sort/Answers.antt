use Rattle.std.proofs.Common.{[]}
use Rattle.fs_grammar.specs.Grammar.{reading}
use Rattle.fs_phrase_text.specs.Declaring.{at_sort, at_name}
use Rattle.fs_phrase_text.proofs.Hosted.{carried}
use Rattle.fs_text_parser.proofs.Declared.{placed, behind, hosts}
use Rattle.fs_text_parser.proofs.declarations.sort.Goals as goal

pub returns-clause-goes : goal.returns-clause-goes
returns-clause-goes c =
    λ f ds n r. carried reading (placed f ds) (behind f ds) (hosts f ds) c.sort.result c.args.tokens.now (at_sort n r) (λ x. x.1.now)
    (λ x. at_name (record { line = n; role = r; sort = x.0; names = [] })) (c.sort.ensures.goes n r)
