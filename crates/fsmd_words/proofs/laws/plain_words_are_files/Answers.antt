use Rattle.std.proofs.Common.{refl}
use Rattle.clap.proofs.OnLiterals.{clap_on_literals}
use Rattle.fsmd_words.proofs.Named.{parsed_asks}
use Rattle.fsmd_words.proofs.Plain.{no_hyphens, no_long, no_short}
use Rattle.fsmd_words.proofs.PlainChain.{plain_chain}
use Rattle.fsmd_words.proofs.laws.plain_words_are_files.Goals as goal

pub returns : goal.returns
unfolding clap_on_literals
returns c = record {
  check = λ a b p q.
      parsed_asks _ _ (rw (no_hyphens a p, no_long a p, no_short a p, no_hyphens b q, no_long b q, no_short b q) refl)
      (rw (no_hyphens a p, no_long a p, no_short a p, no_hyphens b q, no_long b q, no_short b q) refl) refl;
  verify = λ a b d p q r.
      parsed_asks _ _
      (rw (no_hyphens a p, no_long a p, no_short a p, no_hyphens b q, no_long b q, no_short b q, no_hyphens d r, no_long d r, no_short d r) refl)
      (rw (no_hyphens a p, no_long a p, no_short a p, no_hyphens b q, no_long b q, no_short b q, no_hyphens d r, no_long d r, no_short d r) refl) refl;
  run = λ a b p q.
      parsed_asks _ _ (rw (no_hyphens a p, no_long a p, no_short a p, no_hyphens b q, no_long b q, no_short b q) refl)
      (rw (no_hyphens a p, no_long a p, no_short a p, no_hyphens b q, no_long b q, no_short b q) refl) refl;
  replay = λ a b d p q r.
      parsed_asks _ _
      (rw (no_hyphens a p, no_long a p, no_short a p, no_hyphens b q, no_long b q, no_short b q, no_hyphens d r, no_long d r, no_short d r) refl)
      (rw (no_hyphens a p, no_long a p, no_short a p, no_hyphens b q, no_long b q, no_short b q, no_hyphens d r, no_long d r, no_short d r) refl) refl;
  fmt = λ a p. parsed_asks _ _ (rw (no_hyphens a p, no_long a p, no_short a p) refl) (rw (no_hyphens a p, no_long a p, no_short a p) refl) refl;
  cuts = λ a p. parsed_asks _ _ (rw (no_hyphens a p, no_long a p, no_short a p) refl) (rw (no_hyphens a p, no_long a p, no_short a p) refl) refl;
  compile = λ a p. parsed_asks _ _ (rw (no_hyphens a p, no_long a p, no_short a p) refl) (rw (no_hyphens a p, no_long a p, no_short a p) refl) refl;
  schedule = λ a b p q.
      parsed_asks _ _ (rw (no_hyphens a p, no_long a p, no_short a p, no_hyphens b q, no_long b q, no_short b q) refl)
      (rw (no_hyphens a p, no_long a p, no_short a p, no_hyphens b q, no_long b q, no_short b q) refl) refl;
  bind = λ a b p q.
      parsed_asks _ _ (rw (no_hyphens a p, no_long a p, no_short a p, no_hyphens b q, no_long b q, no_short b q) refl)
      (rw (no_hyphens a p, no_long a p, no_short a p, no_hyphens b q, no_long b q, no_short b q) refl) refl;
  shrink = λ a b d p q r.
      parsed_asks _ _
      (rw (no_hyphens a p, no_long a p, no_short a p, no_hyphens b q, no_long b q, no_short b q, no_hyphens d r, no_long d r, no_short d r) refl)
      (rw (no_hyphens a p, no_long a p, no_short a p, no_hyphens b q, no_long b q, no_short b q, no_hyphens d r, no_long d r, no_short d r) refl) refl;
  chain = plain_chain;
}
