use Rattle.std.proofs.Common.{refl, sym, ◌∙◌}
use Rattle.nf_trees.specs.Order.{cmp_polynomial}
use Rattle.nf_terms.specs.Lists.{cmp_items}
use Rattle.nf_trees.proofs.Compared.{IsListOrder, right_ends, decided, tied}
use Rattle.nf_terms.proofs.seq.compare_items.Goals as goal

item_lists : IsListOrder cmp_polynomial cmp_items
item_lists = record { none = refl; first = λ y ys. refl; last = λ x xs. refl; both = λ x y xs ys. refl }

pub returns-in_default : goal.returns-in_default
returns-in_default c =
    sym (right_ends cmp_polynomial cmp_items item_lists c.args.l.now c.args.r.now c.loop-i.i c.get.result c.get.ensures.lookup
    c.index-l-i.result c.loop-i-test.true c.index-l-i.is c.in_default.is)
    ∙ c.loop-i.invariant

pub returns-in_default-cmp : goal.returns-in_default-cmp
returns-in_default-cmp c =
    sym (decided cmp_polynomial cmp_items item_lists c.args.l.now c.args.r.now c.loop-i.i c.get.result c.get.ensures.lookup
    c.index-l-i.result c.in-Some.b c.cmp.result c.loop-i-test.true c.index-l-i.is c.in-Some.is c.cmp.ensures c.in_default-cmp.not-Equal)
    ∙ c.loop-i.invariant

pub loop-i-preserved : goal.loop-i-preserved
loop-i-preserved c =
    tied cmp_polynomial cmp_items item_lists c.args.l.now c.args.r.now c.loop-i.i c.get.result c.get.ensures.lookup
    c.index-l-i.result c.in-Some.b c.cmp.result c.loop-i-test.true c.index-l-i.is c.in-Some.is c.cmp.ensures c.in-Equal.is
    ∙ c.loop-i.invariant
