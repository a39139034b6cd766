use Rattle.std.proofs.Common.{◌+◌, List, [], ◌∷◌, ◌++◌, map, drop, Err, ap, sym, subst, ◌∙◌}
use Rattle.std.proofs.lemmas.List.{append_assoc}
use Rattle.fs_model.proofs.Lists.{map_drop_next}
use Rattle.fs_pair.specs.declared.positions.Position.{Position}
use Rattle.nf_terms.specs.Computed.{Answers, Done, after}
use Rattle.propagate.specs.Rebases.{RebaseState}
use Rattle.propagate.specs.RebaseSteps.{second_from, before_others}
use Rattle.propagate.specs.declared.rebases.Marked.{Marked}
use Rattle.fs_model.proofs.Lists.{same_there}
use Rattle.propagate.proofs.PassTurns.{told_stop, pushed_map, second_goes, second_stops, second_ends}
use Rattle.propagate.proofs.rebases.second_pass.Goals as goal

pub loop-marked-preserved : goal.loop-marked-preserved
loop-marked-preserved c =
    let v = c.args.v.now in
    let xs = c.args.positions.now in
    let i = c.loop-marked.marked-index in
    let positions : List Marked → List Position = map (λ m. m.position) in
    let new = c.holds_solution.new.meanings in
    let is = same_there xs i _ _ c.loop-marked-test.true in
    let done = map (λ m. m.is_free) c.loop-marked.out.items in
    record {
      positions = ap (λ ps. ps ++ positions (drop (i + 1) xs)) (pushed_map (λ m. m.position) _ _ _ c.in_ok-push.ensures.items)
          ∙ append_assoc (positions c.loop-marked.out.items) (_ ∷ []) (positions (drop (i + 1) xs))
          ∙ ap (λ ps. positions c.loop-marked.out.items ++ ps) (sym (map_drop_next (λ m. m.position) xs i _ c.loop-marked-test.true is))
          ∙ c.loop-marked.invariant.positions;
      held = ap
          (λ bs. after (second_from v (positions (drop (i + 1) xs)) (map (λ m. m.is_free) (drop (i + 1) xs)) new) (λ h. Done (before_others bs h)))
          (pushed_map (λ m. m.is_free) _ _ _ c.in_ok-push.ensures.items)
          ∙ second_goes v xs i _ c.loop-marked-test.true is done (record { is_free = c.in_ok-is_free.is_free; meanings = new })
          c.loop-marked.meanings c.in_ok-is_free.ensures
          ∙ c.loop-marked.invariant.held;
    }

pub returns-in_err-is_free-clause-held : goal.returns-in_err-is_free-clause-held
returns-in_err-is_free-clause-held c =
    let event = c.in_err-is_free.field-0.0 in
    let new = c.holds_solution.new.meanings in
    told_stop (λ out. record { free = map (λ m. m.is_free) out.items; meanings = new }) c.from_residual.result event _ c.from_residual.ensures.1
    (subst (Answers {T = RebaseState} (Err event)) c.loop-marked.invariant.held
    (second_stops c.args.v.now c.args.positions.now c.loop-marked.marked-index _ c.loop-marked-test.true
    (same_there _ _ _ _ c.loop-marked-test.true) (map (λ m. m.is_free) c.loop-marked.out.items) c.loop-marked.meanings event c.in_err-is_free.ensures))

pub returns-clause-held : goal.returns-clause-held
returns-clause-held c =
    sym c.loop-marked.invariant.held
    ∙ second_ends c.args.v.now c.loop-marked.meanings c.args.positions.now c.loop-marked.marked-index (map (λ m. m.is_free) c.loop-marked.out.items)
    c.loop-marked-test.false
