use Rattle.std.proofs.Common.{FitsSigned, to_z-of_z, rules, sym, ◌∙◌}
use Rattle.std.specs.Int.{w128}
use Rattle.base_laws.specs.Division.{remainder}
use Rattle.nf_arrays.proofs.NewAtoms.{remainder_is_small}
use Rattle.nf_arrays.proofs.division.folded_remainder.Goals as goal

pub number-requires : goal.number-requires
number-requires c =
    let f : FitsSigned w128 c.args.c.now = search rules in
    let g : FitsSigned w128 c.args.d.now = search rules in
    let h : FitsSigned w128 c.remainder.result = search rules in
    λ is. remainder_is_small c.args.c.now c.args.d.now c.remainder.result c.requires
    (c.remainder.ensures ∙ (λ j. remainder (to_z-of_z f j) (to_z-of_z g j))) (sym (to_z-of_z h) ∙ is)
