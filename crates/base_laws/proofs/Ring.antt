-- The laws of a product of integers.
use Rattle.std.proofs.Common.{◌≡◌, zero, suc, ℤ, pos, negsuc, ◌+ℤ◌, ◌-ℤ◌, ◌*ℤ◌, neg_ℤ, arith, ap, sym, ◌∙◌}
use Rattle.std.proofs.lemmas.Int.{ints}
use lib.IntN.{suc_ℤ, pred_ℤ, suc_ℤ-+ℤ, pred_ℤ-+ℤ, suc_ℤ-*ℤ, pred_ℤ-*ℤ, *ℤ_comm, +ℤ_idl, zero-*ℤ}

-- an induction over the integers, from 0 up and down
pub int_ind : (P : ℤ → Type 0) → P (pos 0) → ((z : ℤ) → P z → P (suc_ℤ z)) → ((z : ℤ) → P z → P (pred_ℤ z)) → (z : ℤ) → P z
int_ind P p up down (pos zero) = p
int_ind P p up down (pos (suc n)) = up (pos n) (int_ind P p up down (pos n))
int_ind P p up down (negsuc zero) = down (pos 0) p
int_ind P p up down (negsuc (suc n)) = down (negsuc n) (int_ind P p up down (negsuc n))

pub add-mul_z : (m n k : ℤ) → (m +ℤ n) *ℤ k ≡ m *ℤ k +ℤ n *ℤ k
add-mul_z m n k = int_ind (λ m. (m +ℤ n) *ℤ k ≡ m *ℤ k +ℤ n *ℤ k)
    (ap (λ z. z *ℤ k) (+ℤ_idl n) ∙ sym (ap (λ z. z +ℤ n *ℤ k) (zero-*ℤ k) ∙ +ℤ_idl (n *ℤ k)))
    (λ m h. omega (arith, ints, h, ap (λ z. z *ℤ k) (suc_ℤ-+ℤ m n), suc_ℤ-*ℤ (m +ℤ n) k, suc_ℤ-*ℤ m k))
    (λ m h. omega (arith, ints, h, ap (λ z. z *ℤ k) (pred_ℤ-+ℤ m n), pred_ℤ-*ℤ (m +ℤ n) k, pred_ℤ-*ℤ m k))
    m

pub mul-add_z : (k m n : ℤ) → k *ℤ (m +ℤ n) ≡ k *ℤ m +ℤ k *ℤ n
mul-add_z k m n = omega (arith, ints, add-mul_z m n k, *ℤ_comm k (m +ℤ n), *ℤ_comm k m, *ℤ_comm k n)

pub one-mul_z : (a : ℤ) → pos 1 *ℤ a ≡ a
one-mul_z a = omega (arith, ints)

pub neg-mul_z : (n k : ℤ) → neg_ℤ n *ℤ k ≡ neg_ℤ (n *ℤ k)
neg-mul_z n k = omega (arith, ints, add-mul_z n (neg_ℤ n) k, zero-*ℤ k, ap (λ z. z *ℤ k) (zero_sum n))
  where
    zero_sum : (n : ℤ) → n +ℤ neg_ℤ n ≡ pos 0
    zero_sum n = omega (arith, ints)

pub mul-neg_z : (n k : ℤ) → n *ℤ neg_ℤ k ≡ neg_ℤ (n *ℤ k)
mul-neg_z n k = *ℤ_comm n (neg_ℤ k) ∙ neg-mul_z k n ∙ ap neg_ℤ (*ℤ_comm k n)

pub sub-mul_z : (m n k : ℤ) → (m -ℤ n) *ℤ k ≡ m *ℤ k -ℤ n *ℤ k
sub-mul_z m n k = omega (arith, ints, add-mul_z m (neg_ℤ n) k, neg-mul_z n k)

pub mul_assoc_z : (m n k : ℤ) → m *ℤ n *ℤ k ≡ m *ℤ (n *ℤ k)
mul_assoc_z m n k = int_ind (λ m. m *ℤ n *ℤ k ≡ m *ℤ (n *ℤ k))
    (ap (λ z. z *ℤ k) (zero-*ℤ n) ∙ zero-*ℤ k ∙ sym (zero-*ℤ (n *ℤ k)))
    (λ m h. omega (arith, ints, h, ap (λ z. z *ℤ k) (suc_ℤ-*ℤ m n), add-mul_z (m *ℤ n) n k, suc_ℤ-*ℤ m (n *ℤ k)))
    (λ m h. omega (arith, ints, h, ap (λ z. z *ℤ k) (pred_ℤ-*ℤ m n), sub-mul_z (m *ℤ n) n k, pred_ℤ-*ℤ m (n *ℤ k)))
    m

-- (a b) (c d) is (a c) (b d)
pub mul_mul_z : (a b c d : ℤ) → a *ℤ b *ℤ (c *ℤ d) ≡ a *ℤ c *ℤ (b *ℤ d)
mul_mul_z a b c d =
    mul_assoc_z a b (c *ℤ d)
    ∙ ap (λ z. a *ℤ z) (sym (mul_assoc_z b c d) ∙ ap (λ z. z *ℤ d) (*ℤ_comm b c) ∙ mul_assoc_z c b d)
    ∙ sym (mul_assoc_z a c (b *ℤ d))
