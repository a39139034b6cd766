use Rattle.fs_variable_sets.proofs.Grows.{has_live, none_live}
use Rattle.fs_variable_sets.proofs.flows.live_sets.Goals as goal

pub returns-clause-exact : goal.returns-clause-exact
returns-clause-exact c = (
  c.close.ensures.sound (none_live c.args.flows.now c.args.reset c.in_ok-live.live.items c.in_ok-live.ensures.empty),
  λ q x l. has_live c.args.flows.now c.args.reset c.close.new.live.items c.close.ensures.settled x q l,
)
