use Rattle.std.proofs.Common.{◌∙◌, refl, ap, sym}
use Rattle.std.specs.Option.{option_copied}
use Rattle.fs_stores.specs.InputValues.{inputs_of}
use Rattle.fs_stores.proofs.InputValues.{begins_zero, begins_given, given_input, given_some, given_sort}
use Rattle.fs_stores.proofs.inputs.first_value.Goals as goal

pub returns-then-not-is_given-clause-content : goal.returns-then-not-is_given-clause-content
returns-then-not-is_given-clause-content c = c.zero.ensures.content
    ∙ begins_zero (inputs_of c.args.inputs.now) c.args.var.now c.args.var.now.sort refl (sym c.is_given.ensures ∙ c.if-not-is_given.true)

pub unreachable-requires : goal.unreachable-requires
unreachable-requires c =
    given_some c.args.inputs.now.items.items c.args.var.now.name c.args.var.now.sort
    (c.requires (given_input c.args.var.now (sym c.is_given.ensures ∙ c.if-not-is_given.false))) (sym c.value_named.ensures ∙ ap option_copied c.in-None.is)

pub returns-clause-content : goal.returns-clause-content
returns-clause-content c =
    let is = sym c.is_given.ensures ∙ c.if-not-is_given.false in
    let there = sym c.value_named.ensures ∙ ap option_copied c.in-Some.is in
    let same = given_sort c.args.inputs.now.items.items c.args.var.now.name c.args.var.now.sort c.in-Some.value.now
    (c.requires (given_input c.args.var.now is)) there in
    c.in_ok-try_clone-in-Some.ensures.content ∙ begins_given c.args.inputs.now c.args.var.now c.in-Some.value.now there is same

pub returns-clause-sort : goal.returns-clause-sort
returns-clause-sort c =
    let is = sym c.is_given.ensures ∙ c.if-not-is_given.false in
    let there = sym c.value_named.ensures ∙ ap option_copied c.in-Some.is in
    c.in_ok-try_clone-in-Some.ensures.sort ∙ given_sort c.args.inputs.now.items.items c.args.var.now.name c.args.var.now.sort c.in-Some.value.now
    (c.requires (given_input c.args.var.now is)) there
