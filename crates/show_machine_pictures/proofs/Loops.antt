-- What loops over the states of a machine keep.
use Rattle.std.proofs.Common.{◌≡◌, ℕ, suc, ◌+◌, ◌-◌, ◌<◌, List, ◌++◌, ap, sym, ◌∙◌, arith, append_assoc, append-nil}
use Rattle.std.specs.List.{flat_map, range_with_len}

-- one more, before those that are left
pub flat_step : {X : Type 0} (f : ℕ → List X) (old new : List X) (k n : ℕ) → k < n → new ≡ old ++ f k
    → new ++ flat_map f (range_with_len (k + 1) (n - (k + 1))) ≡ old ++ flat_map f (range_with_len k (n - k))
flat_step f old new k n h e =
    let j : n - k ≡ suc (n - (k + 1)) = omega arith in
    let rest = flat_map f (range_with_len (k + 1) (n - (k + 1))) in
    ap (λ l. l ++ rest) e ∙ append_assoc old (f k) rest ∙ sym (ap (λ i. old ++ flat_map f (range_with_len k i)) j)

-- none are left
pub flat_done : {X : Type 0} (f : ℕ → List X) (out whole : List X) (k n : ℕ) → n - k ≡ 0 → out ++ flat_map f (range_with_len k (n - k)) ≡ whole → out ≡ whole
flat_done f out whole k n e h = sym (append-nil out) ∙ sym (ap (λ i. out ++ flat_map f (range_with_len k i)) e) ∙ h
