use Rattle.std.proofs.Common.{[], ◌∷◌, ◌++◌, ◌+◌, map, drop, ap, sym, ◌∙◌}
use Rattle.std.proofs.lemmas.List.{append_assoc}
use Rattle.fs_model.proofs.Lists.{drop_next}
use Rattle.fs_model.proofs.Lists.{same_there}
use Rattle.propagate.specs.RebaseSteps.{first_pass_from, before_others}
use Rattle.propagate.proofs.PassTurns.{pushed_map, first_goes, first_ends}
use Rattle.propagate.proofs.rebases.first_pass.Goals as goal

pub loop-p-preserved : goal.loop-p-preserved
loop-p-preserved c =
    let v = c.args.v.now in
    let ps = c.args.positions.now in
    let i = c.loop-p.p-index in
    let done = map (λ m. m.position) c.loop-p.out.items in
    let new = c.holds_symbol.new.meanings in
    let is = same_there ps i _ _ c.loop-p-test.true in
    record {
      positions = ap (λ qs. qs ++ drop (i + 1) ps) (pushed_map (λ m. m.position) _ _ _ c.in_ok-push.ensures.items)
          ∙ append_assoc done (_ ∷ []) (drop (i + 1) ps)
          ∙ ap (λ qs. done ++ qs) (sym (drop_next ps i _ c.loop-p-test.true is))
          ∙ c.loop-p.invariant.positions;
      held = ap (λ bs. before_others bs (first_pass_from v (drop (i + 1) ps) new)) (pushed_map (λ m. m.is_free) _ _ _ c.in_ok-push.ensures.items)
          ∙ first_goes v ps i _ c.loop-p-test.true is (map (λ m. m.is_free) c.loop-p.out.items) _ _ _ c.in_ok-is_free.ensures.free
          c.in_ok-is_free.ensures.meanings
          ∙ c.loop-p.invariant.held;
    }

pub returns-clause-held : goal.returns-clause-held
returns-clause-held c =
    sym c.loop-p.invariant.held
    ∙ first_ends c.args.v.now _ c.args.positions.now c.loop-p.p-index (map (λ m. m.is_free) c.loop-p.out.items) c.loop-p-test.false
