use Rattle.std.proofs.Common.{sym, ◌∙◌}
use Rattle.term_values.proofs.LiteralForms.{outer_bound, no_direction, literal_normal}
use Rattle.term_values.proofs.literals.bound_direction.Goals as goal

pub returns-then-not-is_inner : goal.returns-then-not-is_inner
returns-then-not-is_inner c = outer_bound c.args.dir c.args.kind c.args.bound.now (sym c.is_inner.ensures ∙ c.if-not-is_inner.true)

pub returns-then-not-is_primitive : goal.returns-then-not-is_primitive
returns-then-not-is_primitive c = no_direction c.args.dir c.args.kind c.args.bound.now (sym c.is_primitive.ensures ∙ c.if-not-is_primitive.true)

pub returns : goal.returns
returns c = (
  c.inner_literal.ensures,
  literal_normal c.args.dir c.args.kind c.args.bound.now c.tree.ensures.normal (sym c.is_primitive.ensures ∙ c.if-not-is_primitive.false)
      (sym c.is_inner.ensures ∙ c.if-not-is_inner.false),
)

pub inner_literal-requires : goal.inner_literal-requires
inner_literal-requires c = sym c.is_inner.ensures ∙ c.if-not-is_inner.false
