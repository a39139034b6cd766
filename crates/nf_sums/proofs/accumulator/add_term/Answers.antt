use Rattle.std.proofs.Common.{◌≡◌, true, false, take, drop, sym, subst, ◌∙◌}
use Rattle.nf_trees.specs.View.{monomial_in}
use Rattle.nf_sums.specs.Accumulators.{stand_before, begins_behind, begins_with}
use Rattle.nf_sums.proofs.Terms.{terms_in}
use Rattle.nf_sums.proofs.Placed.{new_is, new_measured, old_is, old_measured}
use Rattle.nf_sums.proofs.accumulator.add_term.Goals as goal

pub returns-then-not-stands_at-clause-sum : goal.returns-then-not-stands_at-clause-sum
returns-then-not-stands_at-clause-sum c =
    let l = c.args.sum.now.terms.items in
    let k = c.place_of-place.result in
    let m = monomial_in c.args.mono.now in
    let before : stand_before m (terms_in (take k l)) ≡ true =
    subst (λ x. stand_before m (terms_in (take k x)) ≡ true) c.deref.ensures.value c.place_of-place.ensures.before in
    let behind : begins_behind m (terms_in (drop k l)) ≡ true =
    subst (λ x. begins_behind m (terms_in (drop k x)) ≡ true) c.deref.ensures.value c.place_of-place.ensures.behind in
    let new : begins_with m (terms_in (drop k l)) ≡ false =
    subst (λ x. begins_with m (terms_in (drop k x)) ≡ false) c.deref-2.ensures.value (sym c.stands_at.ensures ∙ c.if-not-stands_at.true) in
    new_is l c.args.sum.now.size c.args.sum.now.weight k m c.args.coefficient.now c.requires.measured c.requires.term c.requires.small c.requires.narrow before
    (terms_in c.put_at.new.sum.terms.items) behind new c.in_ok-put_at.ensures.sum

pub returns-then-not-stands_at-clause-measured : goal.returns-then-not-stands_at-clause-measured
returns-then-not-stands_at-clause-measured c =
    let l = c.args.sum.now.terms.items in
    let k = c.place_of-place.result in
    let m = monomial_in c.args.mono.now in
    let before : stand_before m (terms_in (take k l)) ≡ true =
    subst (λ x. stand_before m (terms_in (take k x)) ≡ true) c.deref.ensures.value c.place_of-place.ensures.before in
    let behind : begins_behind m (terms_in (drop k l)) ≡ true =
    subst (λ x. begins_behind m (terms_in (drop k x)) ≡ true) c.deref.ensures.value c.place_of-place.ensures.behind in
    let new : begins_with m (terms_in (drop k l)) ≡ false =
    subst (λ x. begins_with m (terms_in (drop k x)) ≡ false) c.deref-2.ensures.value (sym c.stands_at.ensures ∙ c.if-not-stands_at.true) in
    new_measured l c.args.sum.now.size c.args.sum.now.weight k m c.args.coefficient.now c.requires.measured c.requires.term
    c.requires.small c.requires.narrow before
    (terms_in c.put_at.new.sum.terms.items) behind new c.in_ok-put_at.ensures.sum c.put_at.new.sum.size c.put_at.new.sum.weight
    c.in_ok-put_at.ensures.size c.in_ok-put_at.ensures.weight

pub returns-clause-sum : goal.returns-clause-sum
returns-clause-sum c =
    let l = c.args.sum.now.terms.items in
    let k = c.place_of-place.result in
    let m = monomial_in c.args.mono.now in
    let before : stand_before m (terms_in (take k l)) ≡ true =
    subst (λ x. stand_before m (terms_in (take k x)) ≡ true) c.deref.ensures.value c.place_of-place.ensures.before in
    let old : begins_with m (terms_in (drop k l)) ≡ true =
    subst (λ x. begins_with m (terms_in (drop k x)) ≡ true) c.deref-2.ensures.value (sym c.stands_at.ensures ∙ c.if-not-stands_at.false) in
    old_is l c.args.sum.now.size c.args.sum.now.weight k m c.args.coefficient.now c.requires.measured c.requires.term c.requires.small c.requires.narrow before
    (terms_in c.add_at.new.sum.terms.items) old c.add_at.ensures.sum

pub returns-clause-measured : goal.returns-clause-measured
returns-clause-measured c =
    let l = c.args.sum.now.terms.items in
    let k = c.place_of-place.result in
    let m = monomial_in c.args.mono.now in
    let before : stand_before m (terms_in (take k l)) ≡ true =
    subst (λ x. stand_before m (terms_in (take k x)) ≡ true) c.deref.ensures.value c.place_of-place.ensures.before in
    let old : begins_with m (terms_in (drop k l)) ≡ true =
    subst (λ x. begins_with m (terms_in (drop k x)) ≡ true) c.deref-2.ensures.value (sym c.stands_at.ensures ∙ c.if-not-stands_at.false) in
    old_measured l c.args.sum.now.size c.args.sum.now.weight k m c.args.coefficient.now c.requires.measured c.requires.term c.requires.small
    c.requires.narrow before (terms_in c.add_at.new.sum.terms.items) old c.add_at.ensures.sum
    c.add_at.new.sum.size c.add_at.new.sum.weight c.add_at.ensures.size c.add_at.ensures.weight
