use Rattle.std.proofs.Common.{◌∙◌, ap}
use Rattle.std.proofs.lemmas.List.{take_all}
use Rattle.fs_model.specs.View.{declaration_of}
use Rattle.std.specs.Prelude.{map}
use Rattle.fs_rules.specs.MachineOfParts.{declared_by, variables_of}
use Rattle.fs_rules.specs.Rules.{declared_names}
use Rattle.fs_rules.proofs.Turns.{put_flat}
use Rattle.fs_rules.proofs.scope.declare_variables.Goals as goal

pub loop-decl-preserved : goal.loop-decl-preserved
loop-decl-preserved c =
    let ds = c.args.decls.now in
    let x = c.decl-item.result in
    let i = c.loop-decl.decl-index in
    record {
      vars = put_flat declaration_of declared_by ds i x c.loop-decl-test.true c.decl-item.is _ _ c.in_ok-declare.ensures.vars c.loop-decl.invariant.vars;
      declared = put_flat declaration_of (λ d. map (λ n. (d.line, n)) d.names) ds i x c.loop-decl-test.true c.decl-item.is _ _ c.in_ok-declare.ensures.declared
          c.loop-decl.invariant.declared;
    }

pub returns : goal.returns
returns c =
    let all = take_all c.loop-decl.decl-index c.args.decls.now c.loop-decl-test.false in
    record {
      vars = c.loop-decl.invariant.vars ∙ ap (λ ds. variables_of (map declaration_of ds)) all;
      declared = c.loop-decl.invariant.declared ∙ ap (λ ds. declared_names (map declaration_of ds)) all;
    }
