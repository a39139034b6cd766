use Rattle.std.proofs.Common.{◌≡◌, [], ◌∷◌, ◌++◌, map, take, length, arith, ap, sym, ◌∙◌}
use Rattle.std.proofs.lemmas.List.{append-nil}
use Rattle.std.proofs.lemmas.Result.{on_ok_weaker}
use Rattle.fs_model.specs.Trees.{Node, leaves, negated_literal}
use Rattle.fs_model.specs.View.{branch_of, shared_literal_of}
use Rattle.fs_branches.specs.Forks.{tree_of}
use Rattle.fs_branches.specs.declared.trees.DecisionTree.TheVariants as trees
use Rattle.fs_branches.proofs.Ways.{as_before, both_sides}
use Rattle.fs_branches.proofs.trees.+walk.Goals as goal

pub returns-in_ok-add_negation-in-Test-clause-branches : goal.returns-in_ok-add_negation-in-Test-clause-branches
returns-in_ok-add_negation-in-Test-clause-branches t c =
    let way = c.args.way.now.items in
    let literal = c.in-Test.literal in
    let before : c.len-before.result ≡ length way = omega (arith, c.args.way.now.ok.0, c.len-before.ensures) in
    let back = as_before way c.add_literal.new.way.items c.walk.new.way.items c.truncate.new.self.items c.len-before.result before
    c.in_ok-add_literal-in-Test.ensures.before c.in_ok-walk-in-Test.ensures.way c.truncate.ensures.items in
    let no_way = c.in_ok-add_negation-in-Test.ensures.way ∙ ap (λ w. map shared_literal_of w ++ negated_literal literal ∷ []) back in
    let parts = ap tree_of c.in-Test.is ∙ sym (λ k. Node literal (tree_of (c.deref.ensures k)) (tree_of (c.deref-in-Test.ensures k))) in
    on_ok_weaker c.walk-walked.result
    (both_sides (map branch_of c.args.out.now.items) (map branch_of c.walk.new.out.items) (map branch_of c.walk-walked.new.out.items)
    (map shared_literal_of way) (map shared_literal_of c.add_literal.new.way.items) (map shared_literal_of c.add_negation.new.way.items)
    (tree_of c.args.tree.now) (tree_of c.deref.result.now) (tree_of c.deref-in-Test.result.now) literal parts c.in_ok-add_literal-in-Test.ensures.way no_way
    c.in_ok-walk-in-Test.ensures.branches) c.walk-walked.ensures.branches

pub returns-in_ok-add_negation-in-Test-clause-way : goal.returns-in_ok-add_negation-in-Test-clause-way
returns-in_ok-add_negation-in-Test-clause-way t c =
    let way = c.args.way.now.items in
    let last = c.add_negation.new.way.items in
    let before : c.len-before.result ≡ length way = omega (arith, c.args.way.now.ok.0, c.len-before.ensures) in
    let back = as_before way c.add_literal.new.way.items c.walk.new.way.items c.truncate.new.self.items c.len-before.result before
    c.in_ok-add_literal-in-Test.ensures.before c.in_ok-walk-in-Test.ensures.way c.truncate.ensures.items in
    let front = ap (λ w. take (length w) last) (sym back) ∙ c.in_ok-add_negation-in-Test.ensures.before ∙ back in
    on_ok_weaker c.walk-walked.result
    (λ is. as_before way last c.walk-walked.new.way.items c.truncate-in-Test.new.self.items c.len-before.result before front is
    c.truncate-in-Test.ensures.items)
    c.walk-walked.ensures.way

pub returns-in-Fail-clause-branches : goal.returns-in-Fail-clause-branches
returns-in-Fail-clause-branches t c =
    let done = map branch_of c.args.out.now.items in
    sym (ap (λ t. done ++ leaves (tree_of t) (map shared_literal_of c.args.way.now.items)) c.in-Fail.is ∙ append-nil done)

pub returns-in-Leaf-clause-branches : goal.returns-in-Leaf-clause-branches
returns-in-Leaf-clause-branches t c =
    let done = map branch_of c.args.out.now.items in
    on_ok_weaker c.add_branch.result (λ is.
    is
    ∙ ap (λ w. done ++ leaves (tree_of (trees.Leaf c.in-Leaf.line)) (map shared_literal_of w)) c.as_slice.ensures.value
    ∙ sym (ap (λ t. done ++ leaves (tree_of t) (map shared_literal_of c.args.way.now.items)) c.in-Leaf.is)) c.add_branch.ensures
