use Rattle.fs_write.specs.CommentLines.{lines_moved}
use Rattle.fs_write.proofs.Unlined.{same_machine, same_law, moved_same}
use Rattle.fs_write.proofs.Gaps.{gap_spells, lines_spell}
use Rattle.fs_write.proofs.reading_laws.comment_lines_change_lines_alone.Goals as goal

pub returns-clause-spells : goal.returns-clause-spells
returns-clause-spells c = lines_spell

pub returns-clause-gaps : goal.returns-clause-gaps
returns-clause-gaps c = gap_spells

pub returns-clause-machine : goal.returns-clause-machine
returns-clause-machine c = λ n s. same_machine s (lines_moved n s) (moved_same n s)

pub returns-clause-lawful : goal.returns-clause-lawful
returns-clause-lawful c = λ n s lawful. same_law s (lines_moved n s) (moved_same n s) lawful
