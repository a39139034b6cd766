use Rattle.std.proofs.Common.{◌<◌, ◌≤◌, ◌++◌, ◌∷◌, [], Some, None, length, ap, refl, sym, ◌∙◌, subst, arith}
use Rattle.std.proofs.lemmas.Option.{slice_get_within}
use Rattle.cert_model.specs.Lawful.{most_nodes}
use Rattle.search_tables.specs.Legal.{Makes}
use Rattle.search_tables.proofs.Forming.{well_formed}
use Rattle.fs_cut.specs.View.{point_of}
use Rattle.search_worklist.specs.SearchEnds.{EndsSo}
use Rattle.search_worklist.specs.DifferingOutputs.{OutputAt}
use Rattle.search_worklist.specs.NodeUpdates.{node_number, change_table}
use Rattle.search_worklist.specs.States.{table}
use Rattle.search_worklist.specs.Turns.{IsNext}
use Rattle.search_worklist.specs.View.{machines_in}
use Rattle.search_worklist.proofs.Differing.{DiffersAlone, start_differs, put_differs, none_differs, one_differs}
use Rattle.search_worklist.proofs.Legal.{makes_none, makes_more, made, fewer_left, number_in}
use Rattle.search.proofs.run.make_moves.Goals as goal

pub moves-init : goal.moves-init
moves-init c = record {
  ready = c.requires.ready;
  makes = makes_none (machines_in c.args.m.now) c.args.moves.now.items (table c.args.state.now) c.requires.none c.requires.start;
  differs = start_differs (machines_in c.args.m.now) (table c.args.state.now) c.requires.start;
}

pub output_at-requires : goal.output_at-requires
output_at-requires c = number_in c.moves.state.entries.entries c.moves.changed c.moves.invariant.differs.node c.moves.invariant.differs.is_in

pub overflow_cast-node : goal.overflow_cast-node
overflow_cast-node c =
    let w = well_formed (machines_in c.args.m.now) c.vars-left.ensures.sound c.vars-right.ensures.sound c.moves.moves.items
    (table c.moves.state) c.moves.invariant.makes in
    let lt = slice_get_within (table c.moves.state) c.moves.changed c.moves.invariant.differs.node c.moves.invariant.differs.is_in in
    let small : c.moves.changed < 4096 = omega (arith, lt, w.few) in
    omega (arith, small)

pub returns-in-Some-clause-makes : goal.returns-in-Some-clause-makes
returns-in-Some-clause-makes c = c.moves.invariant.makes

pub returns-in-Some-clause-ends : goal.returns-in-Some-clause-ends
returns-in-Some-clause-ends c =
    let m = machines_in c.args.m.now in
    let T = table c.moves.state in
    one_differs m T c.moves.changed c.in-Some.var c.moves.invariant.differs (subst (OutputAt m T c.moves.changed) c.in-Some.is c.in_ok-var.ensures)

pub next-requires-clause-made : goal.next-requires-clause-made
next-requires-clause-made c =
    let m = machines_in c.args.m.now in
    let T = table c.moves.state in
    made m c.moves.moves.items T c.vars-left.ensures.sound c.vars-right.ensures.sound c.moves.invariant.makes
    (none_differs m T c.moves.changed c.moves.invariant.differs (subst (OutputAt m T c.moves.changed) c.in-None.is c.in_ok-var.ensures))

pub returns-in-Stops-clause-makes : goal.returns-in-Stops-clause-makes
returns-in-Stops-clause-makes c =
    subst (Makes (machines_in c.args.m.now) c.moves.moves.items) (sym c.in_ok-obstacle-in-None.ensures.same) c.moves.invariant.makes

pub returns-in-Stops-clause-ends : goal.returns-in-Stops-clause-ends
returns-in-Stops-clause-ends c =
    let m = machines_in c.args.m.now in
    let n = subst (IsNext m (table c.moves.state)) c.in-Stops.is c.in_ok-obstacle-in-None.ensures.next in
    subst (λ T. EndsSo m T (Some c.in-Stops.obstacle)) (sym c.in_ok-obstacle-in-None.ensures.same) n

pub returns-in-Closed-clause-makes : goal.returns-in-Closed-clause-makes
returns-in-Closed-clause-makes c =
    subst (Makes (machines_in c.args.m.now) c.moves.moves.items) (sym c.in_ok-obstacle-in-None.ensures.same) c.moves.invariant.makes

pub returns-in-Closed-clause-ends : goal.returns-in-Closed-clause-ends
returns-in-Closed-clause-ends c =
    let m = machines_in c.args.m.now in
    let n = subst (IsNext m (table c.moves.state)) c.in-Closed.is c.in_ok-obstacle-in-None.ensures.next in
    subst (λ T. EndsSo m T None) (sym c.in_ok-obstacle-in-None.ensures.same) n

pub make-requires-clause-few : goal.make-requires-clause-few
make-requires-clause-few c =
    let m = machines_in c.args.m.now in
    let T = table c.moves.state in
    let same = c.in_ok-obstacle-in-None.ensures.same in
    let free = none_differs m T c.moves.changed c.moves.invariant.differs (subst (OutputAt m T c.moves.changed) c.in-None.is c.in_ok-var.ensures) in
    let n = subst (IsNext m T) c.in-Changes.is c.in_ok-obstacle-in-None.ensures.next in
    let h = makes_more m c.moves.moves.items (c.moves.moves.items ++ c.in-Changes.at ∷ []) c.in-Changes.at T (change_table T c.in-Changes.change)
    (change_table T c.in-Changes.change) c.moves.invariant.makes free n.0 refl refl in
    let w = well_formed m c.vars-left.ensures.sound c.vars-right.ensures.sound (c.moves.moves.items ++ c.in-Changes.at ∷ [])
    (change_table T c.in-Changes.change) h in
    subst (λ U. length (change_table U c.in-Changes.change) ≤ most_nodes) (sym same) w.few

pub moves-smaller : goal.moves-smaller
moves-smaller c =
    let m = machines_in c.args.m.now in
    let T = table c.moves.state in
    let free = none_differs m T c.moves.changed c.moves.invariant.differs (subst (OutputAt m T c.moves.changed) c.in-None.is c.in_ok-var.ensures) in
    let n = subst (IsNext m T) c.in-Changes.is c.in_ok-obstacle-in-None.ensures.next in
    let made_table = c.in_ok-changed-in-Changes.ensures.table ∙ ap (λ U. change_table U c.in-Changes.change) c.in_ok-obstacle-in-None.ensures.same in
    fewer_left m c.moves.moves.items c.push.new.self.items c.in-Changes.at (table c.make.new.state) c.in_ok-push-in-Changes.ensures.items
    (makes_more m c.moves.moves.items c.push.new.self.items c.in-Changes.at T (change_table T c.in-Changes.change)
    (table c.make.new.state) c.moves.invariant.makes free n.0 c.in_ok-push-in-Changes.ensures.items made_table)

pub moves-preserved : goal.moves-preserved
moves-preserved c =
    let m = machines_in c.args.m.now in
    let T = table c.moves.state in
    let x = c.in-Changes.change in
    let same = c.in_ok-obstacle-in-None.ensures.same in
    let free = none_differs m T c.moves.changed c.moves.invariant.differs (subst (OutputAt m T c.moves.changed) c.in-None.is c.in_ok-var.ensures) in
    let n = subst (IsNext m T) c.in-Changes.is c.in_ok-obstacle-in-None.ensures.next in
    let made_table = c.in_ok-changed-in-Changes.ensures.table ∙ ap (λ U. change_table U x) same in
    let number = c.in_ok-changed-in-Changes.ensures.number ∙ ap (λ U. node_number U (point_of x.left) (point_of x.right)) same in
    record {
      ready = c.in_ok-changed-in-Changes.ensures.ready m c.in_ok-obstacle-in-None.ensures.ready;
      makes = makes_more m c.moves.moves.items c.push.new.self.items c.in-Changes.at T (change_table T x)
          (table c.make.new.state) c.moves.invariant.makes free n.0 c.in_ok-push-in-Changes.ensures.items made_table;
      differs = subst (DiffersAlone m (table c.make.new.state)) (sym number)
          (subst (λ U. DiffersAlone m U (node_number T (point_of x.left) (point_of x.right))) (sym made_table)
          (put_differs m T (point_of x.left) (point_of x.right) x.fact free));
    }
