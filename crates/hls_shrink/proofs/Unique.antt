-- The chain of first reductions has one end, and each of its steps lowers the sum of the absolute values.
use Rattle.std.proofs.Common.{◌≡◌, ℕ, zero, suc, ◌+◌, ◌<◌, Bool, true, false, cond, ℤ, pos, negsuc, List, [], ◌∷◌, ◌++◌, refl, sym, ◌∙◌, ap, subst, arith, inl}
use Rattle.std.proofs.Common.{inr}
use Rattle.std.specs.Prelude.{unsigned_abs, int_div, neg_ℤ, map, ◌⊎◌, ◌/◌}
use Rattle.std.proofs.Math.Nat.{div-mul-le_self}
use Rattle.std.proofs.lemmas.Bool.Decides.{nat_tests}
use Rattle.fs_model.specs.Runs.{Content, Number, Entries, Emitted}
use Rattle.fs_run_text.proofs.Listed.{listing_once}
use Rattle.hls_shrink.specs.declared.entries.InputEntry.{InputEntry}
use Rattle.hls_shrink.specs.InputEntries.{at_input, AreEntriesOf, AreEntries}
use Rattle.hls_shrink.specs.Reductions.{is_beyond_one, contents_with, reductions_at, reductions}
use Rattle.hls_shrink.specs.Shrunk.{IsFirst, IsFirstReduction, IsLeast, EndsAfter, EndsIn}
use Rattle.hls_shrink.proofs.First.{first_once, first_or_none}
use Rattle.hls_shrink.proofs.Lowered.{size, IsNearer, lower_entries}

-- ---- contents have one list of entries

entries_of_once : (k : ℕ) (c : Content) (es fs : List InputEntry) → AreEntriesOf k c es → AreEntriesOf k c fs → es ≡ fs
entries_of_once k (Number z) es fs a b = a ∙ sym b
entries_of_once k (Entries f) es fs a b = a.all ∙ ap (map (at_input k)) (listing_once f a.listing b.listing a.lists b.lists) ∙ sym b.all
entries_of_once k (Emitted zs) es fs a b = a ∙ sym b

pub entries_once : (k : ℕ) (cs : List Content) (es fs : List InputEntry) → AreEntries k cs es → AreEntries k cs fs → es ≡ fs
entries_once k [] es fs a b = a ∙ sym b
entries_once k (c ∷ cs) es fs a b =
    let own = entries_of_once k c a.own b.own a.of_first b.of_first in
    let others = entries_once (k + 1) cs a.others b.others a.of_others b.of_others in
    a.all ∙ ap (λ x. x ++ a.others) own ∙ ap (λ x. b.own ++ x) others ∙ sym b.all

-- ---- the chain has one end

pub first_reduction_once : (P : List Content → Type 0) (cs x y : List Content) → IsFirstReduction P cs x → IsFirstReduction P cs y → x ≡ y
first_reduction_once P cs x y a b =
    let same = entries_once 0 cs a.entries b.entries a.are_entries b.are_entries in
    first_once P (reductions cs b.entries) x y (subst (λ es. IsFirst P (reductions cs es) x) same a.first) b.first

pub reduced_or_least : (P : List Content → Type 0) (cs x : List Content) → IsFirstReduction P cs x → IsLeast P cs → ⊥
reduced_or_least P cs x a b =
    let same = entries_once 0 cs a.entries b.entries a.are_entries b.are_entries in
    first_or_none P (reductions cs b.entries) x (subst (λ es. IsFirst P (reductions cs es) x) same a.first) b.none

end_after_once : (P : List Content → Type 0) (n m : ℕ) (cs x y : List Content) → EndsAfter P n cs x → EndsAfter P m cs y → x ≡ y
end_after_once P zero zero cs x y a b = sym a.0 ∙ b.0
end_after_once P zero (suc m) cs x y a b = absurd (reduced_or_least P cs b.next b.step (subst (IsLeast P) (sym a.0) a.1))
end_after_once P (suc n) zero cs x y a b = absurd (reduced_or_least P cs a.next a.step (subst (IsLeast P) (sym b.0) b.1))
end_after_once P (suc n) (suc m) cs x y a b =
    let same = first_reduction_once P cs a.next b.next a.step b.step in
    end_after_once P n m b.next x y (subst (λ c. EndsAfter P n c x) same a.rest) b.rest

pub end_once : (P : List Content → Type 0) (cs x y : List Content) → EndsIn P cs x → EndsIn P cs y → x ≡ y
end_once P cs x y a b = end_after_once P a.count b.count cs x y a.ends b.ends

least_after : (P : List Content → Type 0) (n : ℕ) (cs end : List Content) → EndsAfter P n cs end → IsLeast P end
least_after P zero cs end h = h.1
least_after P (suc n) cs end h = least_after P n h.next end h.rest

pub end_least : (P : List Content → Type 0) (cs end : List Content) → EndsIn P cs end → IsLeast P end
end_least P cs end h = least_after P h.count cs end h.ends

pub ends_here : (P : List Content → Type 0) (cs : List Content) → IsLeast P cs → EndsIn P cs cs
ends_here P cs least = record { count = 0; ends = (refl, least) }

pub ends_further : (P : List Content → Type 0) (cs next end : List Content) → IsFirstReduction P cs next → EndsIn P next end → EndsIn P cs end
ends_further P cs next end step h = record { count = suc h.count; ends = record { next = next; step = step; rest = h.ends } }

-- ---- lesser numbers are nearer to 0

zero_nearer : (z : ℤ) → IsNearer (pos 0) z
zero_nearer (pos zero) other = absurd (other refl)
zero_nearer (pos (suc n)) other = omega arith
zero_nearer (negsuc n) other = omega arith

abs_neg : (m : ℕ) → unsigned_abs (neg_ℤ (pos m)) ≡ m
abs_neg zero = refl
abs_neg (suc m) = refl

half_nearer : (z : ℤ) → is_beyond_one z ≡ true → unsigned_abs (int_div z (pos 2)) < unsigned_abs z
half_nearer (pos n) h =
    let more : 1 < n = grind (arith, nat_tests) in
    let half = div-mul-le_self n 2 in
    omega arith
half_nearer (negsuc n) h =
    let more : 1 < suc n = grind (arith, nat_tests) in
    let half = div-mul-le_self (suc n) 2 in
    let same = abs_neg (suc n / 2) in
    omega arith

-- ---- where a first reduction is

record ReducedAt (cs : List Content) (e : InputEntry) (r : List Content) : Type 0 where
  number : ℤ
  nearer : IsNearer number e.number
  made : r ≡ contents_with cs e number

reduced_half : (P : List Content → Type 0) (cs : List Content) (e : InputEntry) (r : List Content) (b : Bool) → is_beyond_one e.number ≡ b
    → IsFirst P (map (contents_with cs e) (cond b (int_div e.number (pos 2) ∷ []) [])) r → ReducedAt cs e r
reduced_half P cs e r true t (inl a) = record { number = int_div e.number (pos 2); nearer = λ _. half_nearer e.number t; made = sym a.1 }
reduced_half P cs e r true t (inr b) = absurd b.1
reduced_half P cs e r false t h = absurd h

reduced_at : (P : List Content → Type 0) (cs : List Content) (e : InputEntry) (r : List Content) → IsFirst P (reductions_at cs e) r → ReducedAt cs e r
reduced_at P cs e r (inl a) = record { number = pos 0; nearer = zero_nearer e.number; made = sym a.1 }
reduced_at P cs e r (inr b) = reduced_half P cs e r (is_beyond_one e.number) refl b.1

first_side : (P : List Content → Type 0) (xs ys : List (List Content)) (r : List Content) → IsFirst P (xs ++ ys) r → IsFirst P xs r ⊎ IsFirst P ys r
first_side P [] ys r h = inr h
first_side P (x ∷ xs) ys r (inl a) = inl (inl a)
first_side P (x ∷ xs) ys r (inr b) =
    elim (first_side P xs ys r b.1) as (λ _. IsFirst P (x ∷ xs) r ⊎ IsFirst P ys r) [
      | inl c ↦ inl (inr (b.0, c))
      | inr d ↦ inr d
    ]

record Reduced (cs : List Content) (es : List InputEntry) (r : List Content) : Type 0 where
  before : List InputEntry
  entry : InputEntry
  after : List InputEntry
  split : es ≡ before ++ entry ∷ after
  at : ReducedAt cs entry r

reduced : (P : List Content → Type 0) (cs : List Content) (es : List InputEntry) (r : List Content) → IsFirst P (reductions cs es) r → Reduced cs es r
reduced P cs [] r h = absurd h
reduced P cs (e ∷ es) r h =
    elim (first_side P (reductions_at cs e) (reductions cs es) r h) as (λ _. Reduced cs (e ∷ es) r) [
      | inl a ↦ record { before = []; entry = e; after = es; split = refl; at = reduced_at P cs e r a }
      | inr b ↦
          let rest = reduced P cs es r b in
          record { before = e ∷ rest.before; entry = rest.entry; after = rest.after; split = ap (λ x. e ∷ x) rest.split; at = rest.at }
    ]

-- the first reduction of contents has a lower sum
pub smaller : (P : List Content → Type 0) (cs next : List Content) (es fs : List InputEntry) → AreEntries 0 cs es → IsFirst P (reductions cs es) next
    → AreEntries 0 next fs → size fs < size es
smaller P cs next es fs are first those =
    let r = reduced P cs es next first in
    let l = lower_entries cs es r.before r.entry r.after r.at.number are r.split r.at.nearer in
    let same : fs ≡ l.lowered = entries_once 0 next fs l.lowered those (subst (λ c. AreEntries 0 c l.lowered) (sym r.at.made) l.are) in
    subst (λ x. size x < size es) (sym same) l.less
