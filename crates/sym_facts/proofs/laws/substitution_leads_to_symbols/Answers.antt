use Rattle.sym_facts.proofs.PairingForms.{forms_lead, form_over, literal_over}
use Rattle.sym_facts.proofs.laws.substitution_leads_to_symbols.Goals as goal

pub returns-clause-forms : goal.returns-clause-forms
returns-clause-forms c = λ from to v f g leads. form_over from to v leads f g

pub returns-clause-literals : goal.returns-clause-literals
returns-clause-literals c = λ from to v l m leads. literal_over from to v leads l m

pub returns-clause-vectors : goal.returns-clause-vectors
returns-clause-vectors c = forms_lead
