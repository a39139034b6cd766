-- What the first byte of a text leads to.
use Rattle.std.proofs.Common.{◌≡◌, ℕ, List, [], ◌∷◌, ◌≤◌, ◌-◌, ◌<◌, Some, length, take, drop, get_or, arith, ap, sym, ◌∙◌}
use Rattle.std.proofs.Math.Seq.{take-length}
use Rattle.term_text.specs.Machine.{Owed, term_reading, term_byte_step, take_term_byte}

all_taken : (b : ℕ) (bs : List ℕ) → take (length (b ∷ bs) - 1) bs ≡ bs
all_taken b bs = ap (λ n. take n bs) (omega (arith)) ∙ take-length bs

pub first_leads : (bs : List ℕ) (b : ℕ) (s t : Owed) → 1 ≤ length bs → get_or bs 0 0 ≡ b → term_byte_step s b ≡ Some t
    → term_reading bs s ≡ term_reading (take (length bs - 1) (drop 1 bs)) t
first_leads [] b s t l h e = absurd (omega (arith, l))
first_leads (x ∷ xs) b s t l h e =
    ap (λ d. take_term_byte d (term_reading xs)) (ap (term_byte_step s) h ∙ e) ∙ ap (λ ys. term_reading ys t) (sym (all_taken x xs))

pub rest_less : (bs : List ℕ) → 1 ≤ length bs → length (take (length bs - 1) (drop 1 bs)) < length bs
rest_less [] l = absurd (omega (arith, l))
rest_less (x ∷ xs) l = omega (arith, ap length (all_taken x xs))
