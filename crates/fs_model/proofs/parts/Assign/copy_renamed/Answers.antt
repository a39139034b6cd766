use Rattle.std.proofs.Common.{rules}
use Rattle.fs_model.proofs.parts.Assign.copy_renamed.Goals as goal

pub returns-in-Put : goal.returns-in-Put
returns-in-Put g c =
    let made = c.write.ensures _ _ _ c.copy_renamed-index.ensures c.rename_with_value-in-Put.ensures.variable c.rename_with_value-in-Put.ensures.value in
    search rules
