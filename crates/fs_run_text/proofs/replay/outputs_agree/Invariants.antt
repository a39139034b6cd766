use Rattle.std.proofs.Common.{drop}
use Rattle.fs_runs.specs.Outcomes.{output_names, told_by}
use Rattle.fs_run_text.specs.ItemTexts.{AgreeOnNames}
use Rattle.fs_run_text.proofs.replay.outputs_agree.Given as goal

-- the names so far agree
abbrev pub invariant-loop-variable : goal.invariant-loop-variable
invariant-loop-variable l = record {
  there : AgreeOnNames (told_by l.left l.lefts) (told_by l.right l.rights) (output_names (drop l.variable-index l.variable-items))
      → AgreeOnNames (told_by l.left l.lefts) (told_by l.right l.rights) (output_names l.variable-items);
  back : AgreeOnNames (told_by l.left l.lefts) (told_by l.right l.rights) (output_names l.variable-items)
      → AgreeOnNames (told_by l.left l.lefts) (told_by l.right l.rights) (output_names (drop l.variable-index l.variable-items));
}
