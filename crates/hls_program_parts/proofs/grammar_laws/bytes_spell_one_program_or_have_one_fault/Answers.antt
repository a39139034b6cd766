use Rattle.hls_program_parts.proofs.Texts.{spells_or_stops, one_program, one_fault, spelled_program_never_stops}
use Rattle.hls_program_parts.proofs.grammar_laws.bytes_spell_one_program_or_have_one_fault.Goals as goal

pub returns-clause-either : goal.returns-clause-either
returns-clause-either c = spells_or_stops

pub returns-clause-programs : goal.returns-clause-programs
returns-clause-programs c = one_program

pub returns-clause-faults : goal.returns-clause-faults
returns-clause-faults c = one_fault

pub returns-clause-apart : goal.returns-clause-apart
returns-clause-apart c = spelled_program_never_stops
