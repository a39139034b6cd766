-- Stores that agree everywhere are the same.
use Rattle.std.proofs.Common.{◌≡◌, ℕ, ℤ}
use Rattle.fs_model.specs.Stores.{Store}

pub store_ext : (s t : Store) → ((x : ℕ) → s.scalar x ≡ t.scalar x) → ((x : ℕ) (i : ℤ) → s.array x i ≡ t.array x i) → ((x : ℕ) → s.port x ≡ t.port x) → s ≡ t
store_ext s t p q r = λ k. record { scalar = λ x. p x k; array = λ x i. q x i k; port = λ x. r x k }
