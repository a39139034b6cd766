use Rattle.fs_lex.proofs.Texts.{spells_or_stops, one_source, one_fault, spelled_text_never_stops}
use Rattle.fs_lex.proofs.text_laws.a_text_spells_one_source_or_has_one_fault.Goals as goal

pub returns-clause-either : goal.returns-clause-either
returns-clause-either c = spells_or_stops

pub returns-clause-sources : goal.returns-clause-sources
returns-clause-sources c = one_source

pub returns-clause-faults : goal.returns-clause-faults
returns-clause-faults c = one_fault

pub returns-clause-apart : goal.returns-clause-apart
returns-clause-apart c = spelled_text_never_stops
