use Rattle.fs_phrase_text.proofs.ExactDeclarations.{fault_is_first, first_is_fault}
use Rattle.fs_phrase_text.proofs.declaration_laws.the_fault_is_at_the_first_wrong_token.Goals as goal

pub returns-clause-found : goal.returns-clause-found
returns-clause-found c = λ f o e ts i h q. fault_is_first f o ts e i h q

pub returns-clause-only : goal.returns-clause-only
returns-clause-only c = λ f o e ts i h. first_is_fault f o ts e i h
