use Rattle.std.proofs.Common.{ap, sym, ◌∙◌, map}
use Rattle.nf_trees.specs.NormalTerms.{monomial_of}
use Rattle.nf_trees.specs.View.{atom_in}
use Rattle.nf_trees.proofs.Degrees.{monomial_in-is}
use Rattle.nf_vectors.specs.BareNumbers.{lone_symbol}
use Rattle.nf_vectors.proofs.LoneSymbols.{two_atoms}
use Rattle.nf_vectors.proofs.bare_numbers.lone_symbol.Goals as goal

pub returns-in-len2-up : goal.returns-in-len2-up
returns-in-len2-up c = two_atoms c.as_slice.result.now c.in-len2-up.len_at_least
    ∙ ap (λ xs. lone_symbol (monomial_of (map atom_in xs))) c.as_slice.ensures.value ∙ ap lone_symbol (sym (monomial_in-is c.args.mono.now))
