use Rattle.std.proofs.Common.{map, drop, rules, arith}
use Rattle.std.specs.Vec.Iter.{into_iter_len}
use Rattle.fs_model.proofs.Lists.{map_grown, same_there}
use Rattle.sym_facts.specs.FactParts.{with_equations}
use Rattle.sym_facts.specs.View.{position_in}
use Rattle.sym_facts.proofs.Walks.{placed_all, one_placed, none_left}
use Rattle.sym_facts.proofs.parts.with_equations.Goals as goal

pub returns-in-None : goal.returns-in-None
returns-in-None c =
    placed_all (map position_in c.loop-p.out.items) (with_equations c.args.positions.now c.args.equations.items)
    (drop c.loop-p.p-index c.args.positions.now) c.loop-p.rest.rest.items (into_iter_len c.loop-p.rest)
    c.loop-p.invariant.rest c.loop-p.invariant.many c.in-None.ensures.cases.0

pub loop-p-preserved : goal.loop-p-preserved
loop-p-preserved c =
    let ps = c.args.positions.now in
    let i = c.loop-p.p-index in
    record {
      many = search rules;
      rest = one_placed ps i _ c.loop-p.rest.rest.items c.next.new.self.rest.items c.in-Some.equation (map position_in c.loop-p.out.items)
          (map position_in c.push.new.self.items) (with_equations ps c.args.equations.items) c.loop-p-test.true (same_there ps i _ _ c.loop-p-test.true)
          c.in-Some.ensures.cases.0
          (map_grown position_in c.loop-p.out.items c.push.new.self.items c.with_equation.result _ c.in_ok-push-in-Some.ensures.items c.with_equation.ensures)
          c.loop-p.invariant.rest;
    }

pub returns : goal.returns
returns c =
    none_left c.args.positions.now c.loop-p.p-index c.loop-p.rest.rest.items (map position_in c.loop-p.out.items)
    (with_equations c.args.positions.now c.args.equations.items) (omega (arith, c.loop-p-test.false)) c.loop-p.invariant.rest
