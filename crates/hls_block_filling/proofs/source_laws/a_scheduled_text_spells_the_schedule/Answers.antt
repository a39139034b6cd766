use Rattle.std.proofs.Common.{◌≡◌, sym, subst}
use Rattle.fs_model.specs.Machines.{Fsmd}
use Rattle.fs_rules.specs.MachineOfParts.{machine_of}
use Rattle.fs_model.specs.SoundMachines.{IsSound}
use Rattle.hls_block_filling.specs.Schedules.{schedule_of}
use Rattle.hls_block_filling.specs.Sources.{scheduled_source}
use Rattle.hls_block_filling.proofs.Spelling.{spells}
use Rattle.hls_block_filling.proofs.source_laws.a_scheduled_text_spells_the_schedule.Goals as goal

pub returns : goal.returns
returns c = λ units p m sound e. subst (λ (z : Fsmd). machine_of (scheduled_source units p z) ≡ schedule_of units z) (sym e)
    (spells units p (subst (λ (z : Fsmd). IsSound z) e sound))
