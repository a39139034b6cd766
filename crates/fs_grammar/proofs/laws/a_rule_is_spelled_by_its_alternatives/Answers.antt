use Rattle.fs_grammar.proofs.Alternatives.{composed, parted}
use Rattle.fs_grammar.proofs.laws.a_rule_is_spelled_by_its_alternatives.Goals as goal

pub returns-clause-whole : goal.returns-clause-whole
returns-clause-whole c = λ r ps ws h s. composed r ps ws h s

pub returns-clause-parts : goal.returns-clause-parts
returns-clause-parts c = λ r ws h. parted r ws h
