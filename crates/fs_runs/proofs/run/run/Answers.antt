use Rattle.fs_stores.specs.InputValues.{inputs_of}
use Rattle.fs_runs.proofs.run.run.Goals as goal

pub returns-clause-stopped : goal.returns-clause-stopped
returns-clause-stopped c = c.run_from.ensures.stopped (inputs_of c.args.inputs.now) c.in-Ok.ensures.start
