use Rattle.std.proofs.Common.{sym, subst}
use Rattle.fs_model.specs.Machines.{Fsmd}
use Rattle.fs_model.specs.SoundMachines.{IsSound}
use Rattle.fs_rules.specs.Rules.{BreaksNoRule}
use Rattle.hls_block_filling.specs.Schedules.{IsWithin}
use Rattle.hls_block_filling.specs.Sources.{scheduled_source}
use Rattle.hls_block_filling.proofs.Formed.{scheduled_formed}
use Rattle.hls_block_filling.proofs.Lawful.{scheduled_lawful}
use Rattle.hls_block_filling.proofs.source_laws.a_scheduled_text_is_lawful.Goals as goal

pub returns-clause-formed : goal.returns-clause-formed
returns-clause-formed c = scheduled_formed

pub returns-clause-lawful : goal.returns-clause-lawful
returns-clause-lawful c = λ units p m sound e within.
    subst (λ (z : Fsmd). BreaksNoRule (scheduled_source units p z)) (sym e)
    (scheduled_lawful units p (subst (λ (z : Fsmd). IsSound z) e sound) (subst (λ (z : Fsmd). IsWithin units z) e within))
