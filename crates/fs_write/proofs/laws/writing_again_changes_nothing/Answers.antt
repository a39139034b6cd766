use Rattle.fs_write.proofs.Again.{same_text, same_form, same_words}
use Rattle.fs_write.proofs.laws.writing_again_changes_nothing.Goals as goal

pub returns-clause-text : goal.returns-clause-text
returns-clause-text c = same_text

pub returns-clause-well_formed : goal.returns-clause-well_formed
returns-clause-well_formed c = same_form

pub returns-clause-spellable : goal.returns-clause-spellable
returns-clause-spellable c = same_words
