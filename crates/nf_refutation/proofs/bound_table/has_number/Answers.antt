use Rattle.std.proofs.Common.{FitsSigned, ap, ◌∙◌, rules}
use Rattle.std.specs.Int.{w128}
use Rattle.std.proofs.lemmas.Int.{to_z-of_z}
use Rattle.nf_refutation.specs.BoundTables.{has_number}
use Rattle.nf_refutation.proofs.bound_table.has_number.Goals as goal

pub returns : goal.returns
returns c =
    let f : FitsSigned w128 c.args.number.now = search rules in
    c.contains.ensures ∙ ap (has_number c.args.numbers.now c.args.dir.now) (to_z-of_z w128 c.args.number.now f)
