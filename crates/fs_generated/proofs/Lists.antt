-- Lists of states, and the places of names.
use Rattle.std.proofs.Common.{◌≡◌, ℕ, zero, suc, ◌+◌, ◌<◌, ◌≤◌, true, false, cond, List, [], ◌∷◌, ◌++◌, length, refl, sym, ◌∙◌, ap, subst, arith, add-zero}
use Rattle.std.proofs.Common.{zero-add, append-nil, append_assoc, add-one, inl, inr}
use Rattle.std.specs.Prelude.{Some, map, slice_get}
use Rattle.std.specs.List.{AllByRecursion, flat_map, range_with_len, slice_index_or}
use Rattle.std.specs.Str.{bytes_eq}
use Rattle.std.proofs.lemmas.Bool.{cases_lt, false≢true}
use Rattle.std.proofs.lemmas.Slice.Eq.{bytes_eq-Decides}
use Rattle.std.proofs.lemmas.Option.{slice_get_within}
use Rattle.std.proofs.lemmas.List.{map-append}
use Rattle.fs_model.proofs.Quantifiers.{each_append}
use Rattle.fs_model.proofs.Lists.{slice_get-front, slice_get-of_map}
use Rattle.fs_rules.specs.MachineOfParts.{place_or_end}
use Rattle.fs_rules.proofs.Rounds.{get_back}

-- an element stands in a list
pub record Has {X : Type 0} (xs : List X) (x : X) : Type 0 where
  pub at : ℕ
  pub is : slice_get xs at ≡ Some x

pub first : {X : Type 0} (x : X) (xs : List X) → Has (x ∷ xs) x
first x xs = record { at = 0; is = refl }

pub second : {X : Type 0} (x y : X) (xs : List X) → Has (x ∷ y ∷ xs) y
second x y xs = record { at = 1; is = refl }

pub third : {X : Type 0} (x y z : X) (xs : List X) → Has (x ∷ y ∷ z ∷ xs) z
third x y z xs = record { at = 2; is = refl }

pub has_front : {X : Type 0} (xs ys : List X) (x : X) → Has xs x → Has (xs ++ ys) x
has_front xs ys x h = record { at = h.at; is = slice_get-front xs ys h.at x h.is }

pub has_back : {X : Type 0} (xs ys : List X) (x : X) → Has ys x → Has (xs ++ ys) x
has_back xs ys x h = let p = get_back xs ys h.at x h.is in record { at = p.0; is = p.1 }

pub has_map : {X Y : Type 0} (f : X → Y) (xs : List X) (x : X) → Has xs x → Has (map f xs) (f x)
has_map f xs x h = record { at = h.at; is = slice_get-of_map f xs h.at x h.is }

-- the numbers from a on: what is made of one of them stands in what is made of all
pub has_made : {X : Type 0} (f : ℕ → List X) (a n k : ℕ) (x : X) → a ≤ k → k < a + n → Has (f k) x → Has (flat_map f (range_with_len a n)) x
has_made f a zero k x slice_get_within high h = absurd (omega arith)
has_made f a (suc n) k x slice_get_within high h =
    elim (cases_lt a k) as (λ _. Has (f a ++ flat_map f (range_with_len (a + 1) n)) x) [
      | inl less ↦ has_back (f a) (flat_map f (range_with_len (a + 1) n)) x (has_made f (a + 1) n k x (omega arith) (omega arith) h)
      | inr more ↦ let same : k ≡ a = omega arith in has_front (f a) (flat_map f (range_with_len (a + 1) n)) x (subst (λ q. Has (f q) x) same h)
    ]

pub all_made : {X : Type 0} (P : X → Type 0) (f : ℕ → List X) (a n : ℕ) → ((k : ℕ) → a ≤ k → k < a + n → AllByRecursion P (f k))
    → AllByRecursion P (flat_map f (range_with_len a n))
all_made P f a zero each = tt
all_made P f a (suc n) each =
    each_append P (f a) (flat_map f (range_with_len (a + 1) n)) (each a (omega arith) (omega arith))
    (all_made P f (a + 1) n (λ k slice_get_within high. each k (omega arith) (omega arith)))

pub flat_none : {X Y : Type 0} (f : X → List Y) (xs : List X) → AllByRecursion (λ x. f x ≡ []) xs → flat_map f xs ≡ []
flat_none f [] all = refl
flat_none f (x ∷ xs) all = rw all.0 (flat_none f xs all.1)

pub index_map : {X Y : Type 0} (f : X → Y) (xs : List X) (k : ℕ) (x : X) (d : Y) → slice_get xs k ≡ Some x → slice_index_or (map f xs) k d ≡ f x
index_map f [] k x d e = absurd (cc)
index_map f (y ∷ xs) zero x d e = let same : y ≡ x = cc in ap f same
index_map f (y ∷ xs) (suc k) x d e = index_map f xs k x d e

tail : (n : List ℕ) (ns : List (List ℕ)) (t : List ℕ) (k : ℕ) → slice_get (n ∷ ns) k ≡ Some t → bytes_eq n t ≡ false → Has ns t
tail n ns t zero e differ = let same : n ≡ t = cc in absurd (false≢true (sym differ ∙ (bytes_eq-Decides n t).1 same))
tail n ns t (suc k) e differ = record { at = k; is = e }

-- at the place of a name that stands in a list is that name
pub place_at : (ns : List (List ℕ)) (t : List ℕ) → Has ns t → slice_get ns (place_or_end ns t) ≡ Some t
place_at [] t h = let e = h.is in absurd (cc)
place_at (n ∷ ns) t h =
    elim (bytes_eq n t) as (λ b. bytes_eq n t ≡ b → slice_get (n ∷ ns) (cond b 0 (suc (place_or_end ns t))) ≡ Some t) [
      | true ↦ λ e. ap Some ((bytes_eq-Decides n t).0 e)
      | false ↦ λ e. place_at ns t (tail n ns t h.at h.is e)
    ] refl

pub place_low : (ns : List (List ℕ)) (t : List ℕ) → Has ns t → place_or_end ns t < length ns
place_low ns t h = slice_get_within ns (place_or_end ns t) t (place_at ns t h)

made_more : {X : Type 0} (f : ℕ → List X) (a n : ℕ) → flat_map f (range_with_len a (suc n)) ≡ flat_map f (range_with_len a n) ++ f (a + n)
made_more f a zero = rw add-zero (append-nil (f a))
made_more f a (suc n) =
    let same : (a + 1) + n ≡ a + suc n = omega arith in
    ap (λ r. f a ++ r) (made_more f (a + 1) n) ∙ sym (append_assoc (f a) (flat_map f (range_with_len (a + 1) n)) (f ((a + 1) + n)))
    ∙ ap (λ m. (f a ++ flat_map f (range_with_len (a + 1) n)) ++ f m) same

-- what one more number makes is appended
pub flat_map_grows : {X Y : Type 0} (g : X → Y) (f : ℕ → List Y) (k : ℕ) (old new round : List X) → map g old ≡ flat_map f (range_with_len 0 k)
    → new ≡ old ++ round
    → map g round ≡ f k → map g new ≡ flat_map f (range_with_len 0 (k + 1))
flat_map_grows g f k old new round before put made =
    rw add-one
    (ap (map g) put ∙ map-append g old round ∙ ap (λ r. r ++ map g round) before ∙ ap (λ r. flat_map f (range_with_len 0 k) ++ r) made
    ∙ sym (made_more f 0 k ∙ ap (λ m. flat_map f (range_with_len 0 k) ++ f m) (zero-add k)))
