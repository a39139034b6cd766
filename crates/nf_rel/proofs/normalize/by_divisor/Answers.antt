use Rattle.std.proofs.Common.{◌≡◌, rules, to_z-of_z, FitsSigned}
use Rattle.std.specs.Prelude.{◌≢◌, unsigned_abs}
use Rattle.std.specs.Int.{w128}
use Rattle.nf_terms.specs.Normal.{part_with_atoms}
use Rattle.nf_rel.specs.Literals.{common_divisor, bounded_literal}
use Rattle.nf_rel.specs.View.{literal_in, form_in}
use Rattle.nf_rel.proofs.Directions.{by_parts}
use Rattle.nf_rel.proofs.normalize.by_divisor.Goals as goal

pub returns : goal.returns
returns c =
    let some : common_divisor (part_with_atoms c.args.p.now) ≢ 0 = search rules in
    let f : FitsSigned w128 c.divisor_of-divisor.result = search rules in
    let g : FitsSigned w128 c.constant_in-constant.result = search rules in
    let is : literal_in c.bound_direction.result ≡ bounded_literal (form_in c.args.form) c.begins_positive-positive.result c.in_ok-dir.dir
    (unsigned_abs c.divisor_of-divisor.result) c.constant_in-constant.result = (simp to_z-of_z at c.bound_direction.ensures) in
    by_parts (form_in c.args.form) c.args.p.now _ c.in_ok-dir.dir c.begins_positive-positive.result c.divisor_of-divisor.result
    c.constant_in-constant.result _ c.monos.ensures.same some c.begins_positive-positive.ensures c.in_ok-dir.ensures c.divisor_of-divisor.ensures.divisor
    c.constant_in-constant.ensures.sum is
