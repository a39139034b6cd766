use Rattle.std.proofs.Common.{◌∙◌, sym}
use Rattle.fs_rules.proofs.Walks.{walk_start, walk_more, open_is}
use Rattle.fs_rules.proofs.uncut_cycles.take_walk.Goals as goal

pub loop-passes-init : goal.loop-passes-init
loop-passes-init c = walk_start c.args.next.now c.args.cut.now c.args.start c.args.walk c.args.passes.now.items c.requires.start

pub loop-passes-preserved : goal.loop-passes-preserved
loop-passes-preserved c =
    let passes = c.loop-passes.passes.items in
    let open_ = open_is c.args.cut.now passes c.loop-passes.end (sym c.may_pass.ensures ∙ c.loop-passes-test.true) in
    walk_more c.args.next.now c.args.cut.now c.args.start c.args.walk c.args.passes.now.items passes c.loop-passes.end c.loop-passes.steps c.requires.graph
    c.requires.same c.loop-passes.invariant open_.0 open_.1

pub returns : goal.returns
returns c = record { walk = c.loop-passes.invariant; stops = sym c.may_pass.ensures ∙ c.loop-passes-test.false }
