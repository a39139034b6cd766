use Rattle.fs_lex.proofs.Texts.{spells}
use Rattle.fs_write.specs.Canonical.{canonical}
use Rattle.fs_write.specs.CanonicalLines.{with_canonical_lines}
use Rattle.fs_write.proofs.WholeTexts.{reads_back}
use Rattle.fs_write.proofs.Again.{only_lines}
use Rattle.fs_write.proofs.Unlined.{same_machine, same_law}
use Rattle.fs_write.proofs.reading_laws.a_canonical_text_spells_its_parts_machine.Goals as goal

pub returns-clause-spells : goal.returns-clause-spells
returns-clause-spells c = λ s formed spelled. spells (canonical s) (with_canonical_lines s) (reads_back s formed spelled)

pub returns-clause-machine : goal.returns-clause-machine
returns-clause-machine c = λ s. same_machine s (with_canonical_lines s) (only_lines s)

pub returns-clause-lawful : goal.returns-clause-lawful
returns-clause-lawful c = λ s lawful. same_law s (with_canonical_lines s) (only_lines s) lawful
