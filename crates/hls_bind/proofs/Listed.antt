-- Which variables of a list a set has room for.
use Rattle.std.proofs.Common.{◌≡◌, ℕ, ◌<◌, List, ap, sym, ◌∙◌, true, false}
use Rattle.std.specs.Prelude.{◌&&◌, nat_lt}
use Rattle.std.proofs.lemmas.Bool.{and_parts, lt-ltb}
use Rattle.fs_model.proofs.Booleans.{and_true, or_false}
use Rattle.fs_model.specs.SoundMachines.{occurs}
use Rattle.fs_variable_sets.proofs.Members.{in_all}
use Rattle.hls_bind.specs.BranchFlows.{has_below_128}

-- ---- numbers

-- ---- variables of a list

low_is : (xs : List ℕ) (x : ℕ) → has_below_128 xs x ≡ (occurs x xs && nat_lt x 128)
low_is xs x = in_all xs (λ y. false) x ∙ or_false (occurs x xs && nat_lt x 128)

pub listed : (xs : List ℕ) (x : ℕ) → has_below_128 xs x ≡ true → occurs x xs ≡ true
listed xs x h = (and_parts (occurs x xs) (nat_lt x 128) (sym (low_is xs x) ∙ h)).0

pub members : (xs : List ℕ) (x : ℕ) → x < 128 → has_below_128 xs x ≡ occurs x xs
members xs x h = low_is xs x ∙ ap (λ b. occurs x xs && b) (lt-ltb x 128 h) ∙ and_true (occurs x xs)
