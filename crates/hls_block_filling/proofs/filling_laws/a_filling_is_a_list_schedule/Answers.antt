use Rattle.hls_block_filling.proofs.ListScheduled.{is_list_schedule, has_item}
use Rattle.hls_block_filling.proofs.filling_laws.a_filling_is_a_list_schedule.Goals as goal

pub returns-clause-schedule : goal.returns-clause-schedule
returns-clause-schedule c = is_list_schedule

pub returns-clause-rows : goal.returns-clause-rows
returns-clause-rows c = has_item
