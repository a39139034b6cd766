use Rattle.std.proofs.Common.{FitsSigned, ap, rules}
use Rattle.std.specs.Int.{w128}
use Rattle.std.proofs.lemmas.Int.{to_z-of_z}
use Rattle.nf_rel.specs.Literals.{Is}
use Rattle.term_values.proofs.literals.inner_literal.Goals as goal

pub returns : goal.returns
returns c =
    let bound = c.args.bound.now in
    let f : FitsSigned w128 bound = search rules in
    ap (Is c.args.dir c.args.kind) (to_z-of_z w128 bound f)
