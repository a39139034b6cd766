use Rattle.std.proofs.Common.{sym, ◌∙◌, map}
use Rattle.std.specs.List.{flat_map}
use Rattle.std.proofs.lemmas.List.{at_drop_all}
use Rattle.fs_model.specs.View.{source_state_of}
use Rattle.fs_rules.specs.Rules.{state_faults}
use Rattle.fs_rules.specs.FirstFault.{earliest}
use Rattle.fs_rules.specs.Places.{names_stated}
use Rattle.fs_rules.proofs.FirstFaults.{earliest-append}
use Rattle.fs_rules.proofs.Turns.{left_flat}
use Rattle.fs_rules.proofs.scope.Scope.check_states.Goals as goal

pub loop-state-preserved : goal.loop-state-preserved
loop-state-preserved c =
    left_flat earliest earliest-append source_state_of (state_faults c.args.self.now.vars.items (names_stated c.args.self.now.states.now)) c.args.states.now
    c.loop-state.state-index c.state-item.result c.loop-state-test.true c.state-item.is _ _ _ c.in_ok-check_state.ensures c.loop-state.invariant

pub returns : goal.returns
returns c =
    sym
    (at_drop_all
    (λ ss. earliest c.loop-state.faults.first (flat_map (state_faults c.args.self.now.vars.items (names_stated c.args.self.now.states.now))
    (map source_state_of ss)))
    c.args.states.now c.loop-state.state-index c.loop-state-test.false)
    ∙ c.loop-state.invariant
