use Rattle.std.proofs.Common.{◌≡◌, ◌∙◌, ◌<◌, ◌^◌, length, sym, ap, subst, arith}
use Rattle.std.specs.Prelude.{None}
use Rattle.std.specs.List.{slice_get}
use Rattle.std.proofs.lemmas.List.{get_or_read}
use Rattle.fs_rules.specs.TargetWalks.{is_cut, pass_at, walk_verdict, IsTargetWalk}
use Rattle.fs_rules.proofs.Walks.{judge_safe, start_seen, still_seen}
use Rattle.fs_rules.proofs.Rounds.{settle_all}
use Rattle.fs_rules.proofs.Results.{on_ok}
use Rattle.fs_rules.proofs.uncut_cycles.visit.Goals as goal

pub judge-verdict-requires : goal.judge-verdict-requires
judge-verdict-requires c =
    let next = c.args.next.now in
    let cut = c.args.cut.now in
    let w = c.args.walks.now in
    let after = c.take_walk-stop.new.passes in
    let stop = c.take_walk-stop.result in
    let walk = c.take_walk-stop.ensures.walk in
    let vs = w.verdicts.items in
    let number : c.len-walk.result ≡ length vs = omega (arith, c.len-walk.ensures, w.verdicts.ok) in
    let own = subst (λ k. IsTargetWalk next cut c.args.start k w.passes.items after.items stop.end stop.steps) number walk in
    let inside : stop.end < length after.items = omega (arith, walk.within, walk.same, c.requires.settled.same) in
    let small : length after.items < 2 ^ 63 = omega (arith, after.ok, after.small) in
    let at : c.index-pass.result.now ≡ pass_at after.items stop.end = get_or_read after.items _ _ inside c.index-pass.ensures None in
    λ p total is there. judge_safe next cut c.args.start stop.end stop.steps w.passes.items after.items vs w.found.items c.requires.settled own small p total
    (sym at ∙ is) (ap (λ l. slice_get l p.walk) (sym c.as_slice.ensures.value) ∙ there)

pub returns-clause-settled : goal.returns-clause-settled
returns-clause-settled c =
    let w = c.args.walks.now in
    let stop = c.take_walk-stop.result in
    let number : c.len-walk.result ≡ length w.verdicts.items = omega (arith, c.len-walk.ensures, w.verdicts.ok) in
    let inside : stop.end < length c.take_walk-stop.new.passes.items =
    omega (arith, c.take_walk-stop.ensures.walk.within, c.take_walk-stop.ensures.walk.same, c.requires.settled.same) in
    on_ok c.push_value.result
    (λ e. settle_all c.args.next.now c.args.cut.now c.args.start stop.end stop.steps c.len-walk.result w.passes.items c.take_walk-stop.new.passes.items
    c.index-pass.result.now w.verdicts.items _ w.found.items _ c.judge-verdict.result number
    (get_or_read c.take_walk-stop.new.passes.items _ _ inside c.index-pass.ensures None) c.requires.graph c.requires.settled c.take_walk-stop.ensures.walk
    c.take_walk-stop.ensures.stops
    (c.judge-verdict.ensures ∙ ap (walk_verdict (is_cut c.args.cut.now stop.end) c.index-pass.result.now stop.steps) c.as_slice.ensures.value) e
    c.in_ok-add_round.ensures)
    c.push_value.ensures

pub returns-clause-seen : goal.returns-clause-seen
returns-clause-seen c =
    let stop = c.take_walk-stop.result in
    on_ok c.push_value.result
    (λ e. start_seen c.args.next.now c.args.cut.now c.args.start c.len-walk.result stop.end stop.steps c.args.walks.now.passes.items
    c.take_walk-stop.new.passes.items c.take_walk-stop.ensures.walk c.take_walk-stop.ensures.stops)
    c.push_value.ensures

pub returns-clause-keeps : goal.returns-clause-keeps
returns-clause-keeps c =
    let stop = c.take_walk-stop.result in
    on_ok c.push_value.result
    (λ e. still_seen c.args.next.now c.args.cut.now c.args.start c.len-walk.result stop.end stop.steps c.args.walks.now.passes.items
    c.take_walk-stop.new.passes.items c.take_walk-stop.ensures.walk)
    c.push_value.ensures
