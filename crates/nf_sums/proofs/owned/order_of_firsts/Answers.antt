use Rattle.std.proofs.Common.{ap, ◌∙◌, Some}
use Rattle.nf_sums.proofs.Moves.{first_both, first_left, first_right, first_none}
use Rattle.nf_sums.proofs.owned.order_of_firsts.Goals as goal

pub returns-in-None-front : goal.returns-in-None-front
returns-in-None-front c = first_none c.args.left.now.items c.args.right.now.items c.in-None.ensures.item.3 c.in-None-front.ensures.item.3

pub returns-in-Some-front : goal.returns-in-Some-front
returns-in-Some-front c = first_right c.args.left.now.items c.args.right.now.items c.in-None.ensures.item.3 c.in-Some-front.ensures.item.3.0

pub returns-in-None-front-2 : goal.returns-in-None-front-2
returns-in-None-front-2 c = first_left c.args.left.now.items c.args.right.now.items c.in-Some.ensures.item.3.0 c.in-None-front-2.ensures.item.3

pub returns-in-Some-front-2 : goal.returns-in-Some-front-2
returns-in-Some-front-2 c =
    ap Some c.compare_monos.ensures
    ∙ first_both c.args.left.now.items c.args.right.now.items c.in-Some.field-0.now c.in-Some-front-2.field-0.now c.in-Some.ensures.item.3.0
    c.in-Some.ensures.item.1 c.in-Some-front-2.ensures.item.3.0 c.in-Some-front-2.ensures.item.1
