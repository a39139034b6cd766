use Rattle.std.proofs.Common.{refl}
use Rattle.clap.proofs.OnLiterals.{clap_on_literals}
use Rattle.show_words.proofs.laws.examples_are_refused.Goals as goal

pub returns : goal.returns
unfolding clap_on_literals
returns c = record {
  nothing = refl;
  one_file = refl;
  two_files = refl;
  no_certificate = refl;
  no_inputs = refl;
  no_steps = refl;
  flag = refl;
  help = refl;
  top_help = refl;
}
