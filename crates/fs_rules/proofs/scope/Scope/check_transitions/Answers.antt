use Rattle.std.proofs.Common.{length, sym, ◌∙◌, map}
use Rattle.std.proofs.lemmas.List.{at_drop_all}
use Rattle.fs_model.specs.View.{source_transition_of}
use Rattle.fs_rules.specs.MachineOfParts.{names_of, transition_spelled}
use Rattle.fs_rules.specs.Rules.{transition_faults, transitions_faults}
use Rattle.fs_rules.specs.FirstFault.{earliest}
use Rattle.fs_rules.specs.Places.{names_stated}
use Rattle.fs_rules.proofs.FirstFaults.{earliest-append}
use Rattle.fs_rules.proofs.Turns.{left_flat}
use Rattle.fs_rules.proofs.scope.Scope.check_transitions.Goals as goal

pub loop-line-preserved : goal.loop-line-preserved
loop-line-preserved c =
    let vs = c.args.self.now.vars.items in
    let ss = names_stated c.args.self.now.states.now in
    left_flat earliest earliest-append source_transition_of (λ l. transition_faults vs (length ss) l.line (transition_spelled (names_of vs) ss l))
    c.args.lines.now
    c.loop-line.line-index c.line-item.result c.loop-line-test.true c.line-item.is _ _ _ c.in_ok-check_transition.ensures c.loop-line.invariant

pub returns : goal.returns
returns c =
    sym
    (at_drop_all
    (λ ls. earliest c.loop-line.faults.first (transitions_faults c.args.self.now.vars.items (names_stated c.args.self.now.states.now)
    (map source_transition_of ls)))
    c.args.lines.now c.loop-line.line-index c.loop-line-test.false)
    ∙ c.loop-line.invariant
