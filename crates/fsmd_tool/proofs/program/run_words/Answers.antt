use Rattle.std.proofs.Common.{◌∙◌, ap, drop}
use Rattle.fsmd_tool.proofs.Running.{if_ok, by_words}
use Rattle.fsmd_tool.proofs.program.run_words.Goals as goal

pub returns-in-Ok-clause-driven : goal.returns-in-Ok-clause-driven
returns-in-Ok-clause-driven g c =
    if_ok _ c.in-Ok.all _ c.in-Ok.is
    (by_words c.in-Ok.all.items c.behind_first.result.now _ _ _ (c.behind_first.ensures ∙ ap (drop 1) c.as_slice.ensures.value) c.drive.ensures)
