use Rattle.alike_searches.proofs.Cuts.{alike, one_step_sound, two_steps_sound}
use Rattle.alike_searches.proofs.name_laws.a_pair_that_is_cut_in_other_places_is_alike.Goals as goal

pub returns : goal.returns
returns c = record { alike = alike; left_sound = one_step_sound; right_sound = two_steps_sound }
