use Rattle.std.proofs.Common.{List, Result, Ok, Err, subst}
use Rattle.std.specs.Prelude.{Bool, IfOk}
use Rattle.std.specs.Bool.{Decides}
use Rattle.std.proofs.lemmas.Bool.Decides.{Decides-like}
use Rattle.fs_stores.specs.declared.values.Value.{Value}
use Rattle.fs_runs.specs.Outcomes.{output_names, told_by}
use Rattle.fs_run_text.specs.ItemTexts.{AgreeOnNames, SameOutputs}
use Rattle.fs_run_text.proofs.Interfaces.{same_everywhere, each_same}
use Rattle.fs_run_text.proofs.replay.same_outputs.Goals as goal

-- what decides one fact decides another that follows from it and gives it
decided : {E : Type 0} (r : Result Bool E) (P Q : Type 0) → (P → Q) → (Q → P) → IfOk r (λ b. Decides b P) → IfOk r (λ b. Decides b Q)
decided (Ok b) P Q there back d = Decides-like b there back d
decided (Err e) P Q there back d = tt

pub returns : goal.returns
returns c =
    let a = c.args.left.now in
    let b = c.args.right.now in
    let us = c.args.left_end.now.outputs.items in
    let vs = c.args.right_end.now.outputs.items in
    let ns = output_names a.variables in
    let result = c.outputs_agree.result in
    decided result (AgreeOnNames (told_by a us) (told_by b vs) ns) (SameOutputs (told_by a us) (told_by b vs)) (same_everywhere a b us vs c.requires)
    (each_same (told_by a us) (told_by b vs) ns)
    (subst (λ (ws : List Value). IfOk result (λ r. Decides r (AgreeOnNames (told_by a us) (told_by b ws) ns))) c.as_slice-rights.ensures.value
    (subst (λ (ws : List Value). IfOk result (λ r. Decides r (AgreeOnNames (told_by a ws) (told_by b c.as_slice-rights.result.now) ns)))
    c.as_slice-lefts.ensures.value c.outputs_agree.ensures))
