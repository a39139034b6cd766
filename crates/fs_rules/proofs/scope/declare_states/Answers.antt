use Rattle.std.proofs.Common.{◌∙◌, sym, ap, ◌++◌, ◌∷◌, []}
use Rattle.std.specs.Prelude.{map}
use Rattle.std.proofs.lemmas.List.{take_all}
use Rattle.fs_model.specs.Source.{SourceState}
use Rattle.fs_model.specs.View.{source_state_of}
use Rattle.fs_rules.specs.Rules.{declared_states}
use Rattle.fs_rules.proofs.Turns.{taken_twice}
use Rattle.fs_rules.proofs.scope.declare_states.Goals as goal

pub loop-state-preserved : goal.loop-state-preserved
loop-state-preserved c =
    let x = c.state-item.result in
    c.in_ok-add_name.ensures
    ∙ ap (λ r. r ++ (x.line, x.name) ∷ []) c.loop-state.invariant
    ∙ sym (taken_twice (λ (s : SourceState). (s.line, s.name)) source_state_of c.args.states.now c.loop-state.state-index x
    c.loop-state-test.true c.state-item.is)

pub returns : goal.returns
returns c =
    c.loop-state.invariant
    ∙ ap (λ ss. declared_states (map source_state_of ss)) (take_all c.loop-state.state-index c.args.states.now c.loop-state-test.false)
