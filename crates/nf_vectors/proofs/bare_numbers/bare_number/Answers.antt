use Rattle.std.proofs.Common.{ap, ◌∙◌}
use Rattle.nf_vectors.specs.BareNumbers.{bare_number}
use Rattle.nf_vectors.proofs.LoneSymbols.{two_terms}
use Rattle.nf_vectors.proofs.bare_numbers.bare_number.Goals as goal

pub returns-in-len2-up : goal.returns-in-len2-up
returns-in-len2-up c = two_terms c.monos.result.now c.in-len2-up.len_at_least ∙ ap bare_number c.monos.ensures.same
