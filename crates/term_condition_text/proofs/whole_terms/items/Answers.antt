use Rattle.std.proofs.Common.{map, ap, sym, ◌∙◌}
use Rattle.term_text.specs.Machine.{term_reading, after_list}
use Rattle.term_text.specs.View.{list_base_in, written_polynomial_in, pushed_all}
use Rattle.term_text.proofs.Steps.{found, list_goes_on}
use Rattle.term_condition_text.proofs.whole_terms.items.Goals as goal

pub loop-after-preserved : goal.loop-after-preserved
loop-after-preserved c =
    let l = pushed_all (list_base_in c.args.base) (map written_polynomial_in c.loop-after.items.items) in
    let there = found c.rest_after.result c.in-Some.after 123 c.loop-after.rest.now c.rest_after.ensures.rest c.in-Some.is in
    c.loop-after.invariant ∙ list_goes_on c.loop-after.rest.now c.in-Some.after.now l there ∙ c.in_ok-item-in-Some.ensures.item l
    ∙ ap (λ x. term_reading c.in_ok-item-in-Some.after.now (after_list x)) (sym (c.in_ok-push_item-in-Some.ensures (list_base_in c.args.base)))
