use Rattle.std.proofs.Common.{refl}
use Rattle.clap.proofs.OnLiterals.{clap_on_literals}
use Rattle.fsmd_words.specs.AskedWords.{asked_of}
use Rattle.fsmd_words.proofs.laws.examples_are_taken.Goals as goal

pub returns : goal.returns
unfolding clap_on_literals asked_of
returns c = record {
  options_between = ((refl, refl), refl);
  most_steps = ((refl, refl), refl);
  named_as_command = ((refl, refl), refl);
  after_hyphens = ((refl, refl), refl);
  hyphen_value = ((refl, refl), refl);
  most_loops = ((refl, refl), refl);
  with_plus = ((refl, refl), refl);
  shrink_steps = ((refl, refl), refl);
  one_link = ((refl, refl), refl);
  two_links = ((refl, refl), refl);
  chain_with_hyphens = ((refl, refl), refl);
}
