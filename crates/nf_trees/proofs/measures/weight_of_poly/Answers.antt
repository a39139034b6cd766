use Rattle.std.proofs.Common.{rules, ◌+◌, min, map, unsigned_abs, FitsSigned, refl, ap, ◌∙◌, arith}
use Rattle.std.specs.Int.{w128}
use Rattle.std.proofs.lemmas.Int.{to_z-of_z}
use Rattle.std.proofs.lemmas.List.{at_drop_all}
use Rattle.nf_trees.specs.NormalTerms.{polynomial_of}
use Rattle.nf_trees.specs.View.{term_in}
use Rattle.nf_trees.specs.Measures.{weight_of}
use Rattle.nf_trees.proofs.Capped.{sum_more}
use Rattle.nf_trees.proofs.measures.weight_of_poly.Goals as goal

pub loop-mono-preserved : goal.loop-mono-preserved
loop-mono-preserved c =
    let z = c.loop-mono-item.result.1 in
    let f : FitsSigned w128 z = search rules in (
      omega (arith, c.saturating_add-total.type_inv),
      sum_more term_in (λ ts. weight_of (polynomial_of ts)) (λ m. unsigned_abs m.1) (λ m ts. refl) 340282366920938463463374607431768211455 c.loop-mono.total
          c.saturating_add-total.result c.deref-mono-items.result.now c.loop-mono._mono-index c.loop-mono-item.result
          (c.saturating_add-total.ensures ∙ ap (λ n. min (c.loop-mono.total + n) 340282366920938463463374607431768211455)
          (c.unsigned_abs.ensures.value ∙ ap unsigned_abs (to_z-of_z w128 z f)))
          c.loop-mono-test.true c.loop-mono-item.is
          ∙ c.loop-mono.invariant.1,
    )

pub returns : goal.returns
returns c =
    let nothing = at_drop_all (λ ys. weight_of (polynomial_of (map term_in ys)))
    c.deref-mono-items.result.now c.loop-mono._mono-index c.loop-mono-test.false in
    omega (arith, nothing, c.loop-mono.invariant.0, c.loop-mono.invariant.1)
