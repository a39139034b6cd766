use Rattle.std.proofs.Common.{[], ◌∙◌, arith}
use Rattle.fs_model.specs.Machines.{State}
use Rattle.cert_terms.proofs.NameTables.{one_taken}
use Rattle.cert_terms.proofs.names.state_names.Goals as goal

pub loop-state-preserved : goal.loop-state-preserved
loop-state-preserved c = record {
  all = c.loop-state.invariant.all;
  done = one_taken (λ n. n.now) (λ (q : State). q.name) _ _ c.bytes.result c.args.m.now.states c.loop-state.state (record { name = []; transitions = [] })
      (omega (arith, c.loop-state-test.true, c.loop-state.invariant.all)) c.loop-state.invariant.done c.in_ok-push.ensures.items
      (c.bytes.ensures.bytes ∙ c.state_name.ensures.name);
}
