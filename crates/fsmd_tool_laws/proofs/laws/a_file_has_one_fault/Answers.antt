use Rattle.fsmd_tool_laws.proofs.Texts.{text_fault_once, check_fault_once, text_or_check, long_no_text_fault, long_no_check_fault}
use Rattle.fsmd_tool_laws.proofs.laws.a_file_has_one_fault.Goals as goal

pub returns-clause-text : goal.returns-clause-text
returns-clause-text c = text_fault_once

pub returns-clause-rule : goal.returns-clause-rule
returns-clause-rule c = check_fault_once

pub returns-clause-not_both : goal.returns-clause-not_both
returns-clause-not_both c = text_or_check

pub returns-clause-text_not_too_long : goal.returns-clause-text_not_too_long
returns-clause-text_not_too_long c = long_no_text_fault

pub returns-clause-rule_not_too_long : goal.returns-clause-rule_not_too_long
returns-clause-rule_not_too_long c = long_no_check_fault
