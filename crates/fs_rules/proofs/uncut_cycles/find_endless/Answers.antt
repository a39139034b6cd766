use Rattle.std.proofs.Common.{arith}
use Rattle.fs_rules.proofs.Walks.{all_reach, none_settled_in, seen_more}
use Rattle.fs_rules.proofs.Rounds.{all_found}
use Rattle.fs_rules.proofs.uncut_cycles.find_endless.Goals as goal

pub loop-start-init : goal.loop-start-init
loop-start-init c = record {
  settled = none_settled_in c.args.next.now c.args.cut.now _ _ _ c.in_ok-none_passed.ensures.count c.in_ok-none_passed.ensures.none c.new.ensures.items
      c.new-2.ensures.items;
  seen = λ q h. absurd (omega (arith, h));
}

pub loop-start-preserved : goal.loop-start-preserved
loop-start-preserved c = record {
  settled = c.in_ok-visit.ensures.settled;
  seen = seen_more c.args.cut.now c.loop-start.walks.passes.items c.visit.new.walks.passes.items c.loop-start.start c.loop-start.invariant.seen
      c.in_ok-visit.ensures.keeps c.in_ok-visit.ensures.seen;
}

pub returns : goal.returns
returns c =
    let w = c.loop-start.walks in
    let s = c.loop-start.invariant.settled in
    record {
      inside = s.inside;
      rounds = s.rounds;
      all = λ q h r. all_found c.args.next.now c.args.cut.now w.passes.items w.verdicts.items w.found.items s q (c.loop-start.invariant.seen q (omega arith)) r;
      reach = λ none q h. all_reach c.args.next.now c.args.cut.now w.passes.items w.verdicts.items w.found.items s none q
          (c.loop-start.invariant.seen q (omega arith));
    }
