use Rattle.std.proofs.Common.{◌≡◌, ◌∷◌, ◌++◌, [], ap, subst, ◌∙◌, inl}
use Rattle.search_tables.specs.declared.marks.Mark.TheVariants.{New, Open}
use Rattle.search_tables.specs.Walks.{lists_in, StepsWalk, Walked, walk_work}
use Rattle.search_tables.proofs.RankLists.{set_same}
use Rattle.search_tables.proofs.Marking.{extends_set, right_opened}
use Rattle.search_tables.proofs.Stacks.{frame}
use Rattle.search_tables.proofs.Steps.{begins, extends_more}
use Rattle.search_tables.proofs.walk.visit.Goals as goal

pub walk-init : goal.walk-init
walk-init c =
    let E = lists_in c.args.edges.now in
    let M = c.args.marks.now.items in
    let e : c.push.new.stack.items ≡ frame c.args.root 0 0 ∷ [] = c.in_ok-push.ensures ∙ ap (λ S. S ++ frame c.args.root 0 0 ∷ []) c.new-stack.ensures.items in
    record {
      right = right_opened E M c.args.root 0 c.requires.right c.requires.new;
      stack = begins E M c.push.new.stack.items c.args.root c.requires.right c.requires.closed c.requires.new e;
      extends = extends_set M c.args.root New (Open 0) c.requires.new (λ q z. cc);
      root = inl (0, set_same M c.args.root New (Open 0) c.requires.new);
    }

pub walk-preserved : goal.walk-preserved
walk-preserved c =
    let E = lists_in c.args.edges.now in
    let M = c.walk.marks.items in
    let w : Walked E M c.turn.new.marks.items c.turn.new.stack.items (walk_work E M (c.pop.new.self.items ++ c.in-Some.top ∷ [])) =
    subst (StepsWalk E M c.turn.new.marks.items c.turn.new.stack.items (walk_work E M (c.pop.new.self.items ++ c.in-Some.top ∷ []))) c.in-None-2.is
    c.in_ok-place-in-Some.ensures in
    record {
      right = w.right;
      stack = w.stack;
      extends = extends_more c.args.marks.now.items M c.turn.new.marks.items c.walk.invariant.extends w.extends;
      root = w.under_way c.args.root c.walk.invariant.root;
    }
