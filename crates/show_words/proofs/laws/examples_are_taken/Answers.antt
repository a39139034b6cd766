use Rattle.std.proofs.Common.{refl}
use Rattle.clap.proofs.OnLiterals.{clap_on_literals}
use Rattle.show_words.specs.ViewWords.{shown_of}
use Rattle.show_words.proofs.laws.examples_are_taken.Goals as goal

pub returns : goal.returns
unfolding clap_on_literals shown_of
returns c = record { most_steps = (refl, refl); option_between = (refl, refl) }
