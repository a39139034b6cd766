use Rattle.search_worklist.specs.View.{machines_in}
use Rattle.search_worklist.proofs.Changed.{empty_ready}
use Rattle.search_worklist.proofs.state.begin.Goals as goal

pub returns-clause-ready : goal.returns-clause-ready
returns-clause-ready c = c.in_ok-make.ensures.ready (machines_in c.args.m.now)
    (empty_ready (machines_in c.args.m.now) c.new.result.entries c.new-2.result c.new.ensures.empty c.new-2.ensures.empty)
