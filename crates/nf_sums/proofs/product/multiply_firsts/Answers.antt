use Rattle.std.proofs.Common.{◌*ℤ◌, refl}
use Rattle.std.proofs.lemmas.Result.{on_ok_weaker}
use Rattle.nf_trees.specs.View.{monomial_in}
use Rattle.nf_sums.proofs.Products.{single_product, one_ordered, ones_narrow}
use Rattle.nf_sums.proofs.product.multiply_firsts.Goals as goal

pub multiply_monomials-requires : goal.multiply_monomials-requires
multiply_monomials-requires c = record {
  left = one_ordered _ c.in-Some.field-0.now c.requires.left_short c.in-Some.ensures.item.3.0 c.in-Some.ensures.item.1 c.requires.left;
  right = one_ordered _ c.in-Some-first.field-0.now c.requires.right_short c.in-Some-first.ensures.item.3.0 c.in-Some-first.ensures.item.1 c.requires.right;
}

pub push_product-requires : goal.push_product-requires
push_product-requires c =
    ones_narrow _ _ c.in-Some.field-0.now c.in-Some-first.field-0.now c.requires.left_short c.in-Some.ensures.item.3.0 c.in-Some.ensures.item.1
    c.requires.right_short c.in-Some-first.ensures.item.3.0 c.in-Some-first.ensures.item.1 c.requires.narrow

pub returns : goal.returns
returns c =
    let x = c.in-Some.field-0.now in
    let y = c.in-Some-first.field-0.now in
    on_ok_weaker c.push_product.result
    (λ is. single_product c.args.l.now c.args.r.now c.args.out.now.items c.push_product.new.out.items x y (monomial_in c.in_ok-product.product) (x.1 *ℤ y.1)
    c.requires.left_short c.in-Some.ensures.item.3.0 c.in-Some.ensures.item.1 c.requires.right_short c.in-Some-first.ensures.item.3.0
    c.in-Some-first.ensures.item.1 c.requires.left c.requires.right c.in_ok-product.ensures refl c.requires.empty is)
    c.push_product.ensures
