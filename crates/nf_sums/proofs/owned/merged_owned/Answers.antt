use Rattle.std.proofs.Common.{ap, sym, ◌∙◌, Some}
use Rattle.nf_sums.proofs.Moves.{begun, ended, moved_left, moved_right, moved_both, both_there, room}
use Rattle.nf_sums.proofs.owned.merged_owned.Goals as goal

pub merge-init : goal.merge-init
merge-init c = begun _ _ _ _ _ c.new-out.ensures.items c.from-left.ensures.0 c.from-right.ensures.0 c.requires.left c.requires.right

pub merge-preserved-in-Continue-1 : goal.merge-preserved-in-Continue-1
merge-preserved-in-Continue-1 c =
    moved_left c.args.l.items c.args.r.items c.merge.out.items c.merge.left.items c.merge.right.items c.move_first.new.out.items c.move_first.new.from.items
    c.merge.invariant (ap Some (sym c.in-Less.is) ∙ c.in-Some.ensures) c.in_ok-move_first-in-Less.ensures.moved c.in_ok-move_first-in-Less.ensures.rest

pub merge-preserved-in-Continue-branch-2 : goal.merge-preserved-in-Continue-branch-2
merge-preserved-in-Continue-branch-2 c =
    moved_right c.args.l.items c.args.r.items c.merge.out.items c.merge.left.items c.merge.right.items c.move_first-in-Greater.new.out.items
    c.move_first-in-Greater.new.from.items c.merge.invariant (ap Some (sym c.in-Greater.is) ∙ c.in-Some.ensures) c.in_ok-move_first-in-Greater.ensures.moved
    c.in_ok-move_first-in-Greater.ensures.rest

pub merge-preserved : goal.merge-preserved
merge-preserved c =
    moved_both c.args.l.items c.args.r.items c.merge.out.items c.merge.left.items c.merge.right.items c.join_firsts.new.out.items c.join_firsts.new.left.items
    c.join_firsts.new.right.items c.merge.invariant (ap Some (sym c.in-Equal.is) ∙ c.in-Some.ensures) c.in_ok-join_firsts-in-Equal.ensures.joined
    c.in_ok-join_firsts-in-Equal.ensures.left c.in_ok-join_firsts-in-Equal.ensures.right

pub join_firsts-requires : goal.join_firsts-requires
join_firsts-requires c =
    let there = both_there c.merge.left.items c.merge.right.items (ap Some (sym c.in-Equal.is) ∙ c.in-Some.ensures) in
    record {
      left = there.0;
      right = there.1;
      narrow = room c.args.l.items c.args.r.items c.merge.out.items c.merge.left.items c.merge.right.items c.merge.invariant c.requires.narrow;
    }

pub returns : goal.returns
returns c = ended c.args.l.items c.args.r.items c.merge.out.items c.merge.left.items c.merge.right.items c.merge.invariant c.in_default.ensures
