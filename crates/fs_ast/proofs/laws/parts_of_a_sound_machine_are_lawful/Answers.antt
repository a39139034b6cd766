use Rattle.fs_ast.proofs.LawfulParts.{lawful_of_sound}
use Rattle.fs_ast.proofs.laws.parts_of_a_sound_machine_are_lawful.Goals as goal

pub returns : goal.returns
returns c = lawful_of_sound
