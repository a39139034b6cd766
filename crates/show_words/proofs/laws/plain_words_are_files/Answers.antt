use Rattle.std.proofs.Common.{refl}
use Rattle.fsmd_words.proofs.Plain.{no_hyphens, no_long, no_short}
use Rattle.clap.proofs.OnLiterals.{clap_on_literals}
use Rattle.show_words.specs.ViewWords.{shown_of}
use Rattle.show_words.proofs.laws.plain_words_are_files.Goals as goal

pub returns : goal.returns
unfolding clap_on_literals shown_of
returns c = record {
  machine = λ a p. rw (no_hyphens a p, no_long a p, no_short a p) (refl, refl);
  pair = λ a b p q. rw (no_hyphens a p, no_long a p, no_short a p, no_hyphens b q, no_long b q, no_short b q) (refl, refl);
  why = λ a b p q. rw (no_hyphens a p, no_long a p, no_short a p, no_hyphens b q, no_long b q, no_short b q) (refl, refl);
  certificate = λ a b d p q r. rw (
    no_hyphens a p,
    no_long a p,
    no_short a p,
    no_hyphens b q,
    no_long b q,
    no_short b q,
    no_hyphens d r,
    no_long d r,
    no_short d r,
  ) (refl, refl);
  inputs = λ a b p q. rw (no_hyphens a p, no_long a p, no_short a p, no_hyphens b q, no_long b q, no_short b q) (refl, refl);
  trace = λ a b p q. rw (no_hyphens a p, no_long a p, no_short a p, no_hyphens b q, no_long b q, no_short b q) (refl, refl);
}
