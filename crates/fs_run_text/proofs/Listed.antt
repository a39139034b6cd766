-- An array has one listing.
use Rattle.std.proofs.Common.{◌≡◌, ◌≢◌, true, false, ℤ, pos, List, [], ◌∷◌, refl, sym, ◌∙◌, ap, subst}
use Rattle.std.specs.List.{AllByRecursion}
use Rattle.std.specs.List.Sorted.{IsStrictlySortedBy}
use Rattle.std.specs.declared.cmp.Ordering.TheVariants.{Less, Equal, Greater}
use Rattle.std.specs.Ordering.{int_cmp, int_eq, ordering_reverse}
use Rattle.std.specs.Option.{unwrap_or}
use Rattle.std.specs.Map.{keys_of}
use Rattle.std.specs.Cmp.{int_cmp_total}
use Rattle.std.proofs.lemmas.Map.{lookup-none}
use Rattle.std.proofs.lemmas.Map.Keys.{sorted_head, sorted_tail}
use Rattle.std.proofs.lemmas.Map.Entries.{lookup_head, lookup_tail, none_below_head}
use Rattle.std.proofs.lemmas.Map.Lookups.{exact_signed}
use Rattle.std.proofs.lemmas.Bool.Decides.{Decides-int_eq}
use Rattle.fs_stores.specs.EntryLists.{Entry, listed_number, IsListing}
use Rattle.fs_stores.proofs.Listings.{none_away, away_behind}

abbrev pub Rising : List Entry → Type 0
Rising es = IsStrictlySortedBy int_cmp (keys_of es)

abbrev pub NoZero : List Entry → Type 0
NoZero es = AllByRecursion (λ e. e.1 ≢ pos 0) es

head_says : (e : Entry) (es : List Entry) → listed_number (e ∷ es) e.0 ≡ e.1
head_says e es = ap (λ o. unwrap_or o (pos 0)) (lookup_head (int_eq e.0) e es ((Decides-int_eq e.0 e.0).1 refl))

tail_says : (e : Entry) (es : List Entry) (i : ℤ) → int_eq i e.0 ≡ false → listed_number (e ∷ es) i ≡ listed_number es i
tail_says e es i other = ap (λ o. unwrap_or o (pos 0)) (lookup_tail (int_eq i) e es other)

-- below the first index there is 0
below : (i : ℤ) (e : Entry) (es : List Entry) → Rising (e ∷ es) → int_cmp i e.0 ≡ Less → listed_number (e ∷ es) i ≡ pos 0
below i e es s l = ap (λ o. unwrap_or o (pos 0)) (lookup-none (int_eq i) (e ∷ es) (none_below_head int_cmp_total i e es s l))

-- at the first index there is 0 behind it
behind : (i : ℤ) (e : Entry) (es : List Entry) → Rising (e ∷ es) → i ≡ e.0 → listed_number es i ≡ pos 0
behind i e es s here = none_away i es (away_behind i e.0 es here (sorted_head int_cmp e.0 (keys_of es) s))

tails : (e f : Entry) (es fs : List Entry) → Rising (e ∷ es) → Rising (f ∷ fs) → e.0 ≡ f.0 → ((i : ℤ) → listed_number (e ∷ es) i ≡ listed_number (f ∷ fs) i)
    → (i : ℤ) → listed_number es i ≡ listed_number fs i
tails e f es fs s t k h i =
    elim (int_eq i e.0) as (λ b. int_eq i e.0 ≡ b → listed_number es i ≡ listed_number fs i) [
      | true ↦ λ q. let here : i ≡ e.0 = (Decides-int_eq i e.0).0 q in behind i e es s here ∙ sym (behind i f fs t (here ∙ k))
      | false ↦ λ q. sym (tail_says e es i q) ∙ h i ∙ tail_says f fs i (subst (λ z. int_eq i z ≡ false) k q)
    ] refl

pub same_entry : (e f : Entry) → e.0 ≡ f.0 → e.1 ≡ f.1 → e ≡ f
same_entry e f p q = let a : (e.0, e.1) ≡ (f.0, e.1) = ap (λ (x : ℤ). let p : Entry = (x, e.1) in p) p in
    let b : (f.0, e.1) ≡ (f.0, f.1) = ap (λ (y : ℤ). let p : Entry = (f.0, y) in p) q in a ∙ b

pub same_list : (es fs : List Entry) → Rising es → Rising fs → NoZero es → NoZero fs → ((i : ℤ) → listed_number es i ≡ listed_number fs i) → es ≡ fs
same_list [] [] s t n m h = refl
same_list [] (f ∷ fs) s t n m h = absurd (m.0 (sym (head_says f fs) ∙ sym (h f.0)))
same_list (e ∷ es) [] s t n m h = absurd (n.0 (sym (head_says e es) ∙ h e.0))
same_list (e ∷ es) (f ∷ fs) s t n m h =
    elim (int_cmp e.0 f.0) as (λ o. int_cmp e.0 f.0 ≡ o → (e ∷ es) ≡ (f ∷ fs)) [
      | Less ↦ λ q. absurd (n.0 (sym (head_says e es) ∙ h e.0 ∙ below e.0 f fs t q))
      | Equal ↦ λ q.
          let k : e.0 ≡ f.0 = exact_signed e.0 f.0 q in
          let v : e.1 ≡ f.1 = sym (head_says e es) ∙ h e.0 ∙ ap (listed_number (f ∷ fs)) k ∙ head_says f fs in
          let x : e ≡ f = same_entry e f k v in
          let xs : es ≡ fs = same_list es fs (sorted_tail int_cmp e.0 (keys_of es) s)
          (sorted_tail int_cmp f.0 (keys_of fs) t) n.1 m.1 (tails e f es fs s t k h) in
          ap (λ y. y ∷ es) x ∙ ap (λ ys. f ∷ ys) xs
      | Greater ↦ λ q. absurd (m.0 (sym (head_says f fs) ∙ sym (h f.0) ∙ below f.0 e es s (int_cmp_total.antisymm f.0 e.0 ∙ ap ordering_reverse q)))
    ] refl

pub listing_once : (f : ℤ → ℤ) (es fs : List Entry) → IsListing f es → IsListing f fs → es ≡ fs
listing_once f es fs a b = same_list es fs a.rising b.rising a.not_zero b.not_zero (λ i. a.exact i ∙ sym (b.exact i))
