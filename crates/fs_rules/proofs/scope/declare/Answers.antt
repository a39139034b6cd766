use Rattle.std.proofs.Common.{◌∙◌, refl, ap, ◌++◌}
use Rattle.std.proofs.lemmas.List.{take_all}
use Rattle.std.specs.Prelude.{map}
use Rattle.fs_rules.specs.Places.{declared_of}
use Rattle.fs_rules.proofs.Turns.{put_done}
use Rattle.fs_rules.proofs.scope.declare.Goals as goal

pub loop-name-preserved : goal.loop-name-preserved
loop-name-preserved c =
    let d = c.args.decl.now in
    let x = c.name-item.result in
    record {
      vars = put_done (λ n. record { name = n; role = d.role; sort = d.sort }) c.deref-name-items.result.now c.loop-name.name-index x c.loop-name-test.true
          c.name-item.is c.args.out.now.vars.items _ _ _ refl c.in_ok-add_variable.ensures c.loop-name.invariant.vars;
      declared = put_done (λ n. (d.line, n)) c.deref-name-items.result.now c.loop-name.name-index x c.loop-name-test.true c.name-item.is
          (map declared_of c.args.out.now.declared.items) _ _ _ refl c.in_ok-add_name.ensures c.loop-name.invariant.declared;
    }

pub returns : goal.returns
returns c =
    let d = c.args.decl.now in
    let old = c.args.out.now in
    let all = take_all c.loop-name.name-index c.deref-name-items.result.now c.loop-name-test.false ∙ c.deref-name-items.ensures.value in
    record {
      vars = c.loop-name.invariant.vars ∙ ap (λ ns. old.vars.items ++ map (λ n. record { name = n; role = d.role; sort = d.sort }) ns) all;
      declared = c.loop-name.invariant.declared ∙ ap (λ ns. map declared_of old.declared.items ++ map (λ n. (d.line, n)) ns) all;
    }
