use Rattle.std.proofs.Common.{[], ◌∷◌, ◌++◌, map, refl, sym, ap, ◌∙◌}
use Rattle.nf_rel.specs.NormalLiterals.{is_normal}
use Rattle.term_text.specs.View.{written_polynomial_in}
use Rattle.term_values.specs.TermValues.{within_limit, polynomial_value}
use Rattle.term_values.specs.TermFaults.{are_normal}
use Rattle.term_values.proofs.Lists.{append_moves_twice_mapped, whole_list, passes, stops, all_pass}
use Rattle.term_values.proofs.Refusals.{judged_too}
use Rattle.term_values.proofs.reader.normal_items.Goals as goal

pub loop-item-init : goal.loop-item-init
loop-item-init g c =
    let value = polynomial_value (within_limit (g.N.Names.find c.args.names.now)) in
    (ap (λ ps. ps ++ map value (map written_polynomial_in c.args.written.now)) c.new-items.ensures.items, refl)

pub loop-item-preserved : goal.loop-item-preserved
loop-item-preserved g c =
    let value = polynomial_value (within_limit (g.N.Names.find c.args.names.now)) in
    let all = c.args.written.now in
    let i = c.loop-item.item-index in
    let x = c.item-item.result in
    let made = c.in_ok-normal_polynomial.ensures in (
      append_moves_twice_mapped written_polynomial_in value c.loop-item.items.items _ all i x c.loop-item-test.true c.item-item.is
          (c.in_ok-push.ensures.items ∙ ap (λ p. c.loop-item.items.items ++ p ∷ []) made.0)
          ∙ c.loop-item.invariant.0,
      passes written_polynomial_in (λ w. is_normal (value w)) (λ ws. are_normal (map value ws)) (λ _ _. refl) all i x c.loop-item-test.true c.item-item.is
          (are_normal (map value (map written_polynomial_in all))) c.loop-item.invariant.1 made.1,
    )

pub returns-in_err-normal_polynomial : goal.returns-in_err-normal_polynomial
returns-in_err-normal_polynomial g c =
    let value = polynomial_value (within_limit (g.N.Names.find c.args.names.now)) in
    let all = c.args.written.now in
    let x = c.item-item.result in
    judged_too (λ v. v.items) c.from_residual.result c.in_err-normal_polynomial.field-0.0 (is_normal (value (written_polynomial_in x)))
    (are_normal (map value (map written_polynomial_in all))) (value (written_polynomial_in x)) (map value (map written_polynomial_in all))
    c.from_residual.ensures.1 c.in_err-normal_polynomial.ensures
    (λ e. sym (stops written_polynomial_in (λ w. is_normal (value w)) (λ ws. are_normal (map value ws)) (λ _ _. refl) all c.loop-item.item-index x
    c.loop-item-test.true c.item-item.is (are_normal (map value (map written_polynomial_in all))) c.loop-item.invariant.1 e))

pub returns : goal.returns
returns g c =
    let value = polynomial_value (within_limit (g.N.Names.find c.args.names.now)) in
    let all = c.args.written.now in
    let i = c.loop-item.item-index in (
      sym (whole_list written_polynomial_in value c.loop-item.items.items all i c.loop-item-test.false) ∙ c.loop-item.invariant.0,
      sym (all_pass written_polynomial_in (λ ws. are_normal (map value ws)) all i (are_normal (map value (map written_polynomial_in all)))
          c.loop-item.invariant.1 c.loop-item-test.false refl),
    )
