use Rattle.std.proofs.Common.{rules, ap, ◌∙◌, FitsSigned}
use Rattle.std.specs.Int.{w128}
use Rattle.std.proofs.lemmas.Int.{to_z-of_z}
use Rattle.nf_rel.specs.declared.kind.Kind.TheVariants.{Ge, Le, Eq, Ne}
use Rattle.nf_rel.specs.View.{form_in}
use Rattle.nf_rel.proofs.NormalForms.{bound_in_range, at_least, at_most}
use Rattle.nf_rel.proofs.normalize.bound_direction.Goals as goal

pub invariant_of-result : goal.invariant_of-result
invariant_of-result c =
    let f : FitsSigned w128 c.bound_of-bound.result = search rules in
    record {
      in_range = bound_in_range Ge c.args.positive _ c.args.constant.now _ _ (to_z-of_z w128 c.bound_of-bound.result f) c.requires.some
          c.requires.small c.bound_of-bound.ensures;
    }

pub invariant_of-result-else-positive : goal.invariant_of-result-else-positive
invariant_of-result-else-positive c =
    let f : FitsSigned w128 c.bound_of-bound.result = search rules in
    record {
      in_range = bound_in_range Le c.args.positive _ c.args.constant.now _ _ (to_z-of_z w128 c.bound_of-bound.result f) c.requires.some
          c.requires.small c.bound_of-bound.ensures;
    }

pub invariant_of-result-then-rest-eq0 : goal.invariant_of-result-then-rest-eq0
invariant_of-result-then-rest-eq0 c =
    let f : FitsSigned w128 c.bound_of-bound.result = search rules in
    record {
      in_range = bound_in_range Eq c.args.positive _ c.args.constant.now _ _ (to_z-of_z w128 c.bound_of-bound.result f) c.requires.some
          c.requires.small c.bound_of-bound.ensures;
    }

pub invariant_of-result-then-rest-eq0-2 : goal.invariant_of-result-then-rest-eq0-2
invariant_of-result-then-rest-eq0-2 c =
    let f : FitsSigned w128 c.bound_of-bound.result = search rules in
    record {
      in_range = bound_in_range Ne c.args.positive _ c.args.constant.now _ _ (to_z-of_z w128 c.bound_of-bound.result f) c.requires.some
          c.requires.small c.bound_of-bound.ensures;
    }

pub returns-then-positive : goal.returns-then-positive
returns-then-positive c =
    let f : FitsSigned w128 c.bound_of-bound.result = search rules in
    at_least _ c.args.positive _ _ c.args.constant.now _ (ap form_in c.in-AtLeastZero.is) c.if-positive.true
    (to_z-of_z w128 c.bound_of-bound.result f ∙ c.bound_of-bound.ensures)

pub returns-else-positive : goal.returns-else-positive
returns-else-positive c =
    let f : FitsSigned w128 c.bound_of-bound.result = search rules in
    at_most _ c.args.positive _ _ c.args.constant.now _ (ap form_in c.in-AtLeastZero.is) c.if-positive.false
    (to_z-of_z w128 c.bound_of-bound.result f ∙ c.bound_of-bound.ensures)
