use Rattle.std.proofs.Common.{rules}
use Rattle.nf_sums.proofs.Products.{front_ordered, back_ordered, front_narrow_left, back_narrow_left, front_narrow_right, back_narrow_right, narrow_left}
use Rattle.nf_sums.proofs.Products.{returned_left, narrow_right, returned_right}
use Rattle.nf_sums.proofs.product.+multiply_terms.Goals as goal

pub multiply_terms-requires : goal.multiply_terms-requires
multiply_terms-requires t c =
    let cut = c.split_at.ensures.by_index.0 in (
      search rules,
      (
        front_ordered _ c.split_at.result.0.now c.split_at.result.1.now cut c.requires.left,
        (c.requires.right, front_narrow_left _ c.split_at.result.0.now c.split_at.result.1.now cut _ _ c.requires.narrow),
      ),
    )

pub multiply_terms-requires-then-l-gt1 : goal.multiply_terms-requires-then-l-gt1
multiply_terms-requires-then-l-gt1 t c =
    let cut = c.split_at.ensures.by_index.0 in (
      search rules,
      (
        back_ordered _ c.split_at.result.0.now c.split_at.result.1.now cut c.requires.left,
        (c.requires.right, back_narrow_left _ c.split_at.result.0.now c.split_at.result.1.now cut _ _ c.requires.narrow),
      ),
    )

pub merged_owned-requires-clause-narrow : goal.merged_owned-requires-clause-narrow
merged_owned-requires-clause-narrow t c =
    narrow_left _ _ _ c.split_at.ensures.by_index.0 c.args.r.now c.in_ok-front.front.items c.in_ok-back.back.items c.in_ok-front.ensures c.in_ok-back.ensures
    c.requires.narrow

pub returns-then-l-gt1 : goal.returns-then-l-gt1
returns-then-l-gt1 t c =
    returned_left _ _ _ c.split_at.ensures.by_index.0 c.args.r.now c.in_ok-front.front.items c.in_ok-back.back.items c.in_ok-front.ensures c.in_ok-back.ensures
    c.merged_owned.result c.merged_owned.ensures

pub multiply_terms-requires-then-r-gt1 : goal.multiply_terms-requires-then-r-gt1
multiply_terms-requires-then-r-gt1 t c =
    let cut = c.split_at-then-r-gt1.ensures.by_index.0 in (
      search rules,
      (
        c.requires.left,
        (
          front_ordered _ c.split_at-then-r-gt1.result.0.now c.split_at-then-r-gt1.result.1.now cut c.requires.right,
          front_narrow_right _ c.split_at-then-r-gt1.result.0.now c.split_at-then-r-gt1.result.1.now cut _ _ c.requires.narrow,
        ),
      ),
    )

pub multiply_terms-requires-then-r-gt1-2 : goal.multiply_terms-requires-then-r-gt1-2
multiply_terms-requires-then-r-gt1-2 t c =
    let cut = c.split_at-then-r-gt1.ensures.by_index.0 in (
      search rules,
      (
        c.requires.left,
        (
          back_ordered _ c.split_at-then-r-gt1.result.0.now c.split_at-then-r-gt1.result.1.now cut c.requires.right,
          back_narrow_right _ c.split_at-then-r-gt1.result.0.now c.split_at-then-r-gt1.result.1.now cut _ _ c.requires.narrow,
        ),
      ),
    )

pub merged_owned-requires-then-r-gt1-clause-narrow : goal.merged_owned-requires-then-r-gt1-clause-narrow
merged_owned-requires-then-r-gt1-clause-narrow t c =
    narrow_right _ _ _ c.split_at-then-r-gt1.ensures.by_index.0 c.args.l.now c.in_ok-front-2.front.items c.in_ok-back-2.back.items c.in_ok-front-2.ensures
    c.in_ok-back-2.ensures c.requires.narrow

pub returns-then-r-gt1 : goal.returns-then-r-gt1
returns-then-r-gt1 t c =
    returned_right _ _ _ c.split_at-then-r-gt1.ensures.by_index.0 c.args.l.now c.in_ok-front-2.front.items c.in_ok-back-2.back.items c.in_ok-front-2.ensures
    c.in_ok-back-2.ensures c.merged_owned-then-r-gt1.result c.merged_owned-then-r-gt1.ensures
