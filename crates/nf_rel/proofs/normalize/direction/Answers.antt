use Rattle.std.proofs.Common.{◌≡◌, map, rules, to_z-of_z, FitsSigned}
use Rattle.std.specs.Int.{w128}
use Rattle.nf_trees.specs.NormalTerms.{polynomial_of}
use Rattle.nf_trees.specs.View.{term_in}
use Rattle.nf_terms.specs.Normal.{part_with_atoms}
use Rattle.nf_rel.specs.Literals.{divide_coefficients}
use Rattle.nf_rel.proofs.Directions.{terms_normal}
use Rattle.nf_rel.proofs.normalize.direction.Goals as goal

pub from_terms-requires : goal.from_terms-requires
from_terms-requires c =
    let f : FitsSigned w128 c.signed_number-by.result = search rules in
    let h : polynomial_of (map term_in c.in_ok-monos.monos.items) ≡ divide_coefficients
    (part_with_atoms (polynomial_of (map term_in c.monos.result.now))) c.signed_number-by.result = (simp to_z-of_z at c.in_ok-monos.ensures) in
    terms_normal c.args.p.now (polynomial_of (map term_in c.monos.result.now))
    (polynomial_of (map term_in c.in_ok-monos.monos.items)) c.args.positive c.args.divisor.now c.signed_number-by.result
    c.monos.ensures.normal c.monos.ensures.same c.requires.divisor c.requires.some c.signed_number-by.ensures h
