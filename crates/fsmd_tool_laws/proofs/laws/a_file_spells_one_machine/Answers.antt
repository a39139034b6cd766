use Rattle.fsmd_tool_laws.proofs.Texts.{spells_once, parts_once, spells_no_text_fault, spells_no_check_fault, long_spells_none}
use Rattle.fsmd_tool_laws.proofs.laws.a_file_spells_one_machine.Goals as goal

pub returns-clause-one : goal.returns-clause-one
returns-clause-one c = spells_once

pub returns-clause-no_text_fault : goal.returns-clause-no_text_fault
returns-clause-no_text_fault c = spells_no_text_fault

pub returns-clause-no_broken_rule : goal.returns-clause-no_broken_rule
returns-clause-no_broken_rule c = spells_no_check_fault

pub returns-clause-not_too_long : goal.returns-clause-not_too_long
returns-clause-not_too_long c = long_spells_none

pub returns-clause-parts : goal.returns-clause-parts
returns-clause-parts c = parts_once
