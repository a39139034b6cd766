-- The states of all rounds have names that differ: each name has a rank, and the ranks rise.
use Rattle.std.proofs.Common.{◌≡◌, ℕ, ◌+◌, ◌*◌, ◌-◌, ◌/◌, ◌%◌, ◌<◌, ◌≤◌, true, false, cond, eqb, List, [], ◌∷◌, refl, ap, arith}
use Rattle.std.specs.List.{AllByRecursion, list_any}
use Rattle.std.specs.Str.{bytes_eq}
use Rattle.std.proofs.lemmas.Slice.Eq.{bytes_eq-Decides}
use Rattle.fs_rules.specs.Rules.{repeated_lines}
use Rattle.fs_generated.specs.Generated.{entry_name, head_name, body_name}

letter_rank : ℕ → ℕ
letter_rank c = cond (eqb c 112) 0 (cond (eqb c 104) 1 2)

-- of a state's name, three times its number and the place of its letter
pub rank : List ℕ → ℕ
rank (c ∷ x ∷ y ∷ z ∷ rest) = 3 * (100 * (x - 48) + (10 * (y - 48) + (z - 48))) + letter_rank c
rank _ = 0

digits : (k : ℕ) → k < 1000 → 100 * (48 + k / 100 % 10 - 48) + (10 * (48 + k / 10 % 10 - 48) + (48 + k % 10 - 48)) ≡ k
digits k h = omega arith

pub entry_rank : (k : ℕ) → k < 1000 → rank (entry_name k) ≡ 3 * k
unfolding rank letter_rank
entry_rank k h = let e = digits k h in omega arith

pub head_rank : (k : ℕ) → k < 1000 → rank (head_name k) ≡ 3 * k + 1
unfolding rank letter_rank
head_rank k h = let e = digits k h in omega arith

pub body_rank : (k : ℕ) → k < 1000 → rank (body_name k) ≡ 3 * k + 2
unfolding rank letter_rank
body_rank k h = let e = digits k h in omega arith

-- the ranks of names rise from r on
abbrev pub Rises : ℕ → List (ℕ × List ℕ) → Type 0
Rises r [] = Unit {0}
Rises r (n ∷ ns) = (r ≤ rank n.1) × Rises (rank n.1 + 1) ns

pub rises_lower : (r s : ℕ) (ns : List (ℕ × List ℕ)) → r ≤ s → Rises s ns → Rises r ns
rises_lower r s [] h x = tt
rises_lower r s (n ∷ ns) h x = let low = x.0 in (omega arith, x.1)

abbrev Below : ℕ → List (List ℕ) → Type 0
Below r ms = AllByRecursion (λ m. rank m < r) ms

below_more : (r s : ℕ) (ms : List (List ℕ)) → r ≤ s → Below r ms → Below s ms
below_more r s [] h x = tt
below_more r s (m ∷ ms) h x = let low = x.0 in (omega arith, below_more r s ms h x.1)

other_name : (m n : List ℕ) → rank m < rank n → bytes_eq m n ≡ false
other_name m n h =
    elim (bytes_eq m n) as (λ b. bytes_eq m n ≡ b → b ≡ false) [
      | true ↦ λ e. let same : rank m ≡ rank n = ap rank ((bytes_eq-Decides m n).0 e) in absurd (omega arith)
      | false ↦ λ e. refl
    ] refl

no_other : (ms : List (List ℕ)) (n : List ℕ) → Below (rank n) ms → list_any (λ m. bytes_eq m n) ms ≡ false
no_other [] n x = refl
no_other (m ∷ ms) n x = rw (other_name m n x.0) (no_other ms n x.1)

-- names whose ranks rise above those before are new
pub none_repeated : (ms : List (List ℕ)) (ns : List (ℕ × List ℕ)) (r : ℕ) → Below r ms → Rises r ns → repeated_lines ms ns ≡ []
none_repeated ms [] r x h = refl
none_repeated ms (n ∷ ns) r x h =
    let low = h.0 in
    let here : list_any (λ m. bytes_eq m n.1) ms ≡ false = no_other ms n.1 (below_more r (rank n.1) ms low x) in
    let rest : Below (rank n.1 + 1) (n.1 ∷ ms) = (omega arith, below_more r (rank n.1 + 1) ms (omega arith) x) in
    rw here (none_repeated (n.1 ∷ ms) ns (rank n.1 + 1) rest h.1)
