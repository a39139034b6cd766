use Rattle.std.proofs.Common.{◌+◌, Err, drop, ap, sym, subst, ◌∙◌}
use Rattle.std.proofs.lemmas.List.{at_drop_all}
use Rattle.fs_model.proofs.Lists.{drop_next}
use Rattle.nf_terms.specs.Computed.{Answers}
use Rattle.nf_terms.specs.Lists.{ListTerm}
use Rattle.nf_arrays.specs.Pushes.{list_with_item}
use Rattle.nf_bank.proofs.Fronts.{front_trans}
use Rattle.nf_substitution.specs.Substitution.{polynomial_substituted, items_substituted}
use Rattle.nf_substitution.specs.Keeping.{with_items}
use Rattle.nf_substitution.proofs.Following.{item_done, item_stops, passed_on}
use Rattle.nf_substitution.proofs.kept_terms.keep_items.Goals as goal

pub loop-item-preserved : goal.loop-item-preserved
loop-item-preserved c =
    let xs = c.args.items.now in
    let i = c.loop-item.item-index in
    let x = c.item-item.result in
    let v = c.args.vector.now in
    let next = sym (drop_next xs i x c.loop-item-test.true c.item-item.is) in
    record {
      answers = item_done (polynomial_substituted v x) (λ q. list_with_item c.loop-item.so_far q) (λ l. items_substituted v (drop (i + 1) xs) l)
          c.in_ok-so_far.so_far c.in_ok-so_far.ensures.answers
          ∙ ap (λ ys. items_substituted v ys c.loop-item.so_far) next
          ∙ c.loop-item.invariant.answers;
      known = c.in_ok-so_far.ensures.known;
      kept = ap (with_items (drop (i + 1) xs)) c.in_ok-so_far.ensures.kept ∙ ap (λ ys. with_items ys c.loop-item.bank) next ∙ c.loop-item.invariant.kept;
      front = front_trans _ _ _ c.loop-item.invariant.front c.in_ok-so_far.ensures.front;
    }

pub returns-clause-answers : goal.returns-clause-answers
returns-clause-answers c =
    sym c.loop-item.invariant.answers
    ∙ at_drop_all (λ ys. items_substituted c.args.vector.now ys c.loop-item.so_far) c.args.items.now c.loop-item.item-index c.loop-item-test.false

pub returns-clause-known : goal.returns-clause-known
returns-clause-known c = c.loop-item.invariant.known

pub returns-clause-kept : goal.returns-clause-kept
returns-clause-kept c =
    sym (at_drop_all (λ ys. with_items ys c.loop-item.bank) c.args.items.now c.loop-item.item-index c.loop-item-test.false) ∙ c.loop-item.invariant.kept

pub returns-clause-front : goal.returns-clause-front
returns-clause-front c = c.loop-item.invariant.front

pub returns-in_err-so_far-clause-answers : goal.returns-in_err-so_far-clause-answers
returns-in_err-so_far-clause-answers c =
    let xs = c.args.items.now in
    let i = c.loop-item.item-index in
    let x = c.item-item.result in
    let v = c.args.vector.now in
    let event = c.in_err-so_far.field-0.0 in
    let next = ap (λ ys. items_substituted v ys c.loop-item.so_far) (sym (drop_next xs i x c.loop-item-test.true c.item-item.is)) in
    passed_on c.from_residual.result event _ c.from_residual.ensures.1
    (subst (Answers {T = ListTerm} (Err event)) (next ∙ c.loop-item.invariant.answers)
    (item_stops event (polynomial_substituted v x) (λ q. list_with_item c.loop-item.so_far q) (λ l. items_substituted v (drop (i + 1) xs) l)
    c.in_err-so_far.ensures.answers))

pub returns-in_err-so_far-clause-known : goal.returns-in_err-so_far-clause-known
returns-in_err-so_far-clause-known c = c.in_err-so_far.ensures.known

pub returns-in_err-so_far-clause-front : goal.returns-in_err-so_far-clause-front
returns-in_err-so_far-clause-front c = front_trans _ _ _ c.loop-item.invariant.front c.in_err-so_far.ensures.front
