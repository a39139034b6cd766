use Rattle.std.proofs.Common.{◌≡◌, true, false, sym, ◌∙◌}
use Rattle.fs_stores.specs.InputValues.{inputs_of}
use Rattle.fs_trials.proofs.Apart.{told_end, told_no_end, left_has_none, right_has_none, same_shows_none}
use Rattle.fs_trials.proofs.differences.differing_ends.Goals as goal

pub returns-in_default-clause-none : goal.returns-in_default-clause-none
returns-in_default-clause-none c =
    let ins = inputs_of c.args.inputs.now in
    let none = told_no_end c.args.a.now ins c.args.steps _ c.in_default.is c.in_ok-left.ensures in
    λ _. left_has_none c.args.a.now c.args.b.now ins c.args.steps none

pub returns-in_default-2-clause-none : goal.returns-in_default-2-clause-none
returns-in_default-2-clause-none c =
    let ins = inputs_of c.args.inputs.now in
    let none = told_no_end c.args.b.now ins c.args.steps _ c.in_default-2.is c.in_ok-right.ensures in
    λ _. right_has_none c.args.a.now c.args.b.now ins c.args.steps none

pub returns-in-Ok-true-clause-none : goal.returns-in-Ok-true-clause-none
returns-in-Ok-true-clause-none c =
    let ins = inputs_of c.args.inputs.now in
    let left = told_end c.args.a.now ins c.args.steps _ c.in-Some.left c.in-Some.is c.in_ok-left.ensures in
    let right = told_end c.args.b.now ins c.args.steps _ c.in-Some-2.right c.in-Some-2.is c.in_ok-right.ensures in
    λ _. same_shows_none c.args.a.now c.args.b.now ins c.args.steps c.in-Some.left c.in-Some-2.right left right
    (c.in-Ok-true.ensures.0 c.in-Ok-true.field-0-test)

pub returns-in-Ok-false-clause-found : goal.returns-in-Ok-false-clause-found
returns-in-Ok-false-clause-found c =
    let ins = inputs_of c.args.inputs.now in
    let left = told_end c.args.a.now ins c.args.steps _ c.in-Some.left c.in-Some.is c.in_ok-left.ensures in
    let right = told_end c.args.b.now ins c.args.steps _ c.in-Some-2.right c.in-Some-2.is c.in_ok-right.ensures in
    record {
      left_end = left;
      right_end = right;
      differ = λ same. let e : true ≡ false = sym (c.in-Ok-false.ensures.1 same) ∙ c.in-Ok-false.field-0-test in cc e;
    }
