use Rattle.alike_searches.proofs.RisenSubstitutions.{self_difference}
use Rattle.alike_searches.proofs.SubstitutedWorth.{symbol_substituted}
use Rattle.alike_searches.proofs.term_laws.terms_cancel.Goals as goal

pub returns : goal.returns
returns c = record { difference = self_difference; symbol = symbol_substituted }
