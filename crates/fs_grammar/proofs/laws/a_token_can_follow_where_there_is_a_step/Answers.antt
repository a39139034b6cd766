use Rattle.std.proofs.Common.{◌∙◌, [], ◌∷◌, ◌++◌}
use Rattle.fs_grammar.specs.Spelling.{at}
use Rattle.fs_grammar.proofs.Beginning.{leads, stuck}
use Rattle.fs_grammar.proofs.Exact.{walk_more}
use Rattle.fs_grammar.proofs.laws.a_token_can_follow_where_there_is_a_step.Goals as goal

pub returns-clause-leads : goal.returns-clause-leads
returns-clause-leads c = λ ws s e. leads ws s e

pub returns-clause-sticks : goal.returns-clause-sticks
returns-clause-sticks c = λ ws e b. stuck ws e b

pub returns-clause-follows : goal.returns-clause-follows
returns-clause-follows c = λ ws s r n t e q. leads (ws ++ at n t ∷ []) r (walk_more ws s n t e ∙ q)

pub returns-clause-fails : goal.returns-clause-fails
returns-clause-fails c = λ ws s n t e q b. stuck (ws ++ at n t ∷ []) (walk_more ws s n t e ∙ q) b
