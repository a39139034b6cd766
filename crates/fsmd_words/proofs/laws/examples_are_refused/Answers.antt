use Rattle.std.proofs.Common.{refl}
use Rattle.clap.proofs.OnLiterals.{clap_on_literals}
use Rattle.fsmd_words.specs.AskedWords.{asked_of}
use Rattle.fsmd_words.proofs.laws.examples_are_refused.Goals as goal

pub returns : goal.returns
unfolding clap_on_literals asked_of
returns c = record {
  nothing = refl;
  unknown = refl;
  one_file = refl;
  three_files = refl;
  no_steps = refl;
  too_many_steps = refl;
  no_value = refl;
  flag_for_value = refl;
  twice = refl;
  no_loops = refl;
  too_many_loops = refl;
  no_certificate = refl;
  no_inputs = refl;
  no_chain = refl;
  one_machine = refl;
  two_words = refl;
  four_words = (refl, refl);
  too_many_words = refl;
  chain_steps = refl;
  help = refl;
  top_help = refl;
}
