-- A reduction lowers the sum of the absolute values.
use Rattle.std.proofs.Common.{◌≡◌, ◌≢◌, ℕ, suc, ◌+◌, ◌<◌, ◌≤◌, Bool, true, false, cond, ℤ, pos, List, [], ◌∷◌, ◌++◌, refl, sym, ◌∙◌, ap, subst, arith, inl, inr}
use Rattle.std.specs.Prelude.{unsigned_abs, map, ◌⊎◌}
use Rattle.std.specs.List.{AllByRecursion}
use Rattle.std.specs.List.Sorted.{IsStrictlySortedBy}
use Rattle.std.specs.declared.cmp.Ordering.TheVariants.{Less, Greater}
use Rattle.std.specs.Ordering.{int_cmp, int_eq, ordering_reverse}
use Rattle.std.specs.Cmp.{int_cmp_total}
use Rattle.std.specs.Map.{keys_of}
use Rattle.std.proofs.lemmas.Bool.{false≢true}
use Rattle.std.proofs.lemmas.Bool.Decides.{Decides-int_eq}
use Rattle.fs_model.specs.Runs.{Content, Number, Entries, Emitted}
use Rattle.fs_stores.specs.EntryLists.{listed_number, IsListing}
use Rattle.fs_stores.proofs.Listings.{none_away, away_behind}
use Rattle.hls_shrink.specs.declared.entries.InputEntry.{InputEntry}
use Rattle.hls_shrink.specs.InputEntries.{at_input, number_entries, AreArrayEntries, AreEntriesOf, AreEntries}
use Rattle.hls_shrink.specs.Reductions.{content_with, with_number_at}

abbrev Pair : Type 0
Pair = ℤ × ℤ

abbrev pub Rising : List Pair → Type 0
Rising es = IsStrictlySortedBy int_cmp (keys_of es)

abbrev pub NoZero : List Pair → Type 0
NoZero es = AllByRecursion (λ e. e.1 ≢ pos 0) es

-- the sum of the absolute values of an array's numbers
abbrev pub array_size : List Pair → ℕ
array_size [] = 0
array_size (e ∷ es) = unsigned_abs e.1 + array_size es

-- the sum of the absolute values of entries
abbrev pub size : List InputEntry → ℕ
size [] = 0
size (e ∷ es) = unsigned_abs e.number + size es

size_joined : (xs ys : List InputEntry) → size (xs ++ ys) ≡ size xs + size ys
size_joined [] ys = omega arith
size_joined (x ∷ xs) ys = let rest = size_joined xs ys in omega arith

array_size_joined : (xs ys : List Pair) → array_size (xs ++ ys) ≡ array_size xs + array_size ys
array_size_joined [] ys = omega arith
array_size_joined (x ∷ xs) ys = let rest = array_size_joined xs ys in omega arith

size_at : (k : ℕ) (es : List Pair) → size (map (at_input k) es) ≡ array_size es
size_at k [] = refl
size_at k (e ∷ es) = ap (λ n. unsigned_abs e.1 + n) (size_at k es)

-- ---- an array with another number at an index that is listed

-- what stands in the place of an index and what is behind it
record Replaces (i z : ℤ) (old new : List Pair) : Type 1 where
  has : (P : ℤ → Type 0) → AllByRecursion P (keys_of old) → P i
  keys : (P : ℤ → Type 0) → AllByRecursion P (keys_of old) → AllByRecursion P (keys_of new)
  rising : Rising old → Rising new
  not_zero : NoZero old → NoZero new
  says : Rising old → (x : ℤ) → listed_number new x ≡ cond (int_eq i x) z (listed_number old x)

keys_behind : (P : ℤ → Type 0) (xs old new : List Pair) → (AllByRecursion P (keys_of old) → AllByRecursion P (keys_of new))
    → AllByRecursion P (keys_of (xs ++ old)) → AllByRecursion P (keys_of (xs ++ new))
keys_behind P [] old new f h = f h
keys_behind P (x ∷ xs) old new f h = (h.0, keys_behind P xs old new f h.1)

last_behind : (P : ℤ → Type 0) (xs old : List Pair) → AllByRecursion P (keys_of (xs ++ old)) → AllByRecursion P (keys_of old)
last_behind P [] old h = h
last_behind P (x ∷ xs) old h = last_behind P xs old h.1

rising_behind : (i z : ℤ) (xs old new : List Pair) → Replaces i z old new → Rising (xs ++ old) → Rising (xs ++ new)
unfolding IsStrictlySortedBy
rising_behind i z [] old new r h = r.rising h
rising_behind i z (x ∷ xs) old new r h =
    (keys_behind (λ y. int_cmp x.0 y ≡ Less) xs old new (r.keys (λ y. int_cmp x.0 y ≡ Less)) h.0, rising_behind i z xs old new r h.1)

not_zero_behind : (i z : ℤ) (xs old new : List Pair) → Replaces i z old new → NoZero (xs ++ old) → NoZero (xs ++ new)
not_zero_behind i z [] old new r h = r.not_zero h
not_zero_behind i z (x ∷ xs) old new r h = (h.0, not_zero_behind i z xs old new r h.1)

int_eq_swapped : (a b : ℤ) (t : Bool) → int_eq a b ≡ t → int_eq b a ≡ t
int_eq_swapped a b true e = (Decides-int_eq b a).1 (sym ((Decides-int_eq a b).0 e))
int_eq_swapped a b false e =
    elim (int_eq b a) as (λ u. int_eq b a ≡ u → u ≡ false) [
      | true ↦ λ f. absurd (false≢true (sym e ∙ (Decides-int_eq a b).1 (sym ((Decides-int_eq b a).0 f))))
      | false ↦ λ f. refl
    ] refl

less_greater : Less ≡ Greater → ⊥
less_greater e = cc

less_irrefl : (a : ℤ) → int_cmp a a ≡ Less → ⊥
less_irrefl a h = less_greater (sym h ∙ int_cmp_total.antisymm a a ∙ ap ordering_reverse h)

less_differs : (a b : ℤ) → int_cmp a b ≡ Less → int_eq b a ≡ false
less_differs a b h =
    elim (int_eq b a) as (λ u. int_eq b a ≡ u → u ≡ false) [
      | true ↦ λ f. absurd (less_irrefl a (subst (λ x. int_cmp a x ≡ Less) ((Decides-int_eq b a).0 f) h))
      | false ↦ λ f. refl
    ] refl

says_behind : (i z : ℤ) (xs old new : List Pair) → Replaces i z old new → Rising (xs ++ old) → (x : ℤ)
    → listed_number (xs ++ new) x ≡ cond (int_eq i x) z (listed_number (xs ++ old) x)
unfolding IsStrictlySortedBy
says_behind i z [] old new r h x = r.says h x
says_behind i z (e ∷ xs) old new r h x =
    let below : int_cmp e.0 i ≡ Less = r.has (λ y. int_cmp e.0 y ≡ Less) (last_behind (λ y. int_cmp e.0 y ≡ Less) xs old h.0) in
    elim (int_eq x e.0) as (λ b. int_eq x e.0 ≡ b → listed_number (e ∷ (xs ++ new)) x ≡ cond (int_eq i x) z (listed_number (e ∷ (xs ++ old)) x)) [
      | true ↦ λ q.
          let here : x ≡ e.0 = (Decides-int_eq x e.0).0 q in
          let other : int_eq i x ≡ false = ap (int_eq i) here ∙ less_differs e.0 i below in
          rw q (rw other refl)
      | false ↦ λ q. rw q (says_behind i z xs old new r h.1 x)
    ] refl

-- another number that is not 0 in its place
replaced : (i z n : ℤ) (ys : List Pair) → n ≢ pos 0 → Replaces i n ((i, z) ∷ ys) ((i, n) ∷ ys)
replaced i z n ys other = record {
  has = λ P h. h.0;
  keys = λ P h. h;
  rising = λ h. h;
  not_zero = λ h. (other, h.1);
  says = λ h x.
      elim (int_eq x i) as (λ b. int_eq x i ≡ b → listed_number ((i, n) ∷ ys) x ≡ cond (int_eq i x) n (listed_number ((i, z) ∷ ys) x)) [
        | true ↦ λ q. rw q (rw (int_eq_swapped x i true q) refl)
        | false ↦ λ q. rw q (rw (int_eq_swapped x i false q) refl)
      ] refl;
}

-- an index is left out
left_out : (i z : ℤ) (ys : List Pair) → Replaces i (pos 0) ((i, z) ∷ ys) ys
unfolding IsStrictlySortedBy
left_out i z ys = record {
  has = λ P h. h.0;
  keys = λ P h. h.1;
  rising = λ h. h.1;
  not_zero = λ h. h.1;
  says = λ h x.
      elim (int_eq x i) as (λ b. int_eq x i ≡ b → listed_number ys x ≡ cond (int_eq i x) (pos 0) (listed_number ((i, z) ∷ ys) x)) [
        | true ↦ λ q.
            let here : x ≡ i = (Decides-int_eq x i).0 q in
            rw (int_eq_swapped x i true q) (none_away x ys (away_behind x i ys here h.0))
        | false ↦ λ q. rw q (rw (int_eq_swapped x i false q) refl)
      ] refl;
}

abbrev put : (ℤ → ℤ) → (i n : ℤ) → ℤ → ℤ
put f i n = λ x. cond (int_eq i x) n (f x)

listing_behind : (f : ℤ → ℤ) (i n : ℤ) (xs old new : List Pair) → Replaces i n old new → IsListing f (xs ++ old) → IsListing (put f i n) (xs ++ new)
listing_behind f i n xs old new r h = record {
  rising = rising_behind i n xs old new r h.rising;
  not_zero = not_zero_behind i n xs old new r h.not_zero;
  exact = λ x. says_behind i n xs old new r h.rising x ∙ ap (cond (int_eq i x) n) (h.exact x);
}

-- the listing of an array that has a number nearer to 0 at an index
record LowerListing (f : ℤ → ℤ) (bound : ℕ) : Type 0 where
  listing : List Pair
  lists : IsListing f listing
  less : array_size listing < bound

lower_listing : (f : ℤ → ℤ) (i z n : ℤ) (xs ys : List Pair) → IsListing f (xs ++ (i, z) ∷ ys) → unsigned_abs n < unsigned_abs z
    → LowerListing (put f i n) (array_size (xs ++ (i, z) ∷ ys))
lower_listing f i z n xs ys h low =
    let before = array_size_joined xs ((i, z) ∷ ys) in
    elim (int_eq n (pos 0)) as (λ b. int_eq n (pos 0) ≡ b → LowerListing (put f i n) (array_size (xs ++ (i, z) ∷ ys))) [
      | true ↦ λ q.
          let none : n ≡ pos 0 = (Decides-int_eq n (pos 0)).0 q in
          let after = array_size_joined xs ys in
          record {
            listing = xs ++ ys;
            lists = subst (λ m. IsListing (put f i m) (xs ++ ys)) (sym none) (listing_behind f i (pos 0) xs ((i, z) ∷ ys) ys (left_out i z ys) h);
            less = omega arith;
          }
      | false ↦ λ q.
          let other : n ≢ pos 0 = λ e. false≢true (sym q ∙ (Decides-int_eq n (pos 0)).1 e) in
          let after = array_size_joined xs ((i, n) ∷ ys) in
          record {
            listing = xs ++ (i, n) ∷ ys;
            lists = listing_behind f i n xs ((i, z) ∷ ys) ((i, n) ∷ ys) (replaced i z n ys other) h;
            less = omega arith;
          }
    ] refl

-- ---- where an entry stands

no_entry : (xs : List InputEntry) (e : InputEntry) (ys : List InputEntry) → [] ≡ xs ++ e ∷ ys → ⊥
no_entry [] e ys q = cc
no_entry (x ∷ xs) e ys q = cc

record Left (own others xs : List InputEntry) (e : InputEntry) (ys : List InputEntry) : Type 0 where
  behind : List InputEntry
  own_is : own ≡ xs ++ e ∷ behind

record Right (own others xs : List InputEntry) (e : InputEntry) (ys : List InputEntry) : Type 0 where
  before : List InputEntry
  others_are : others ≡ before ++ e ∷ ys

side : (own others xs : List InputEntry) (e : InputEntry) (ys : List InputEntry) → own ++ others ≡ xs ++ e ∷ ys
    → Left own others xs e ys ⊎ Right own others xs e ys
side [] others xs e ys q = inr (record { before = xs; others_are = q })
side (o ∷ own) others [] e ys q = let head : o ≡ e = cc in inl (record { behind = own; own_is = ap (λ x. x ∷ own) head })
side (o ∷ own) others (x ∷ xs) e ys q =
    let head : o ≡ x = cc in
    let tail : own ++ others ≡ xs ++ e ∷ ys = cc in
    elim (side own others xs e ys tail) as (λ _. Left (o ∷ own) others (x ∷ xs) e ys ⊎ Right (o ∷ own) others (x ∷ xs) e ys) [
      | inl l ↦ inl (record { behind = l.behind; own_is = ap (λ y. y ∷ own) head ∙ ap (λ r. x ∷ r) l.own_is })
      | inr r ↦ inr (record { before = r.before; others_are = r.others_are })
    ]

-- ---- an input with a number nearer to 0

-- one number is nearer to 0 than another that is not 0
abbrev pub IsNearer : (n z : ℤ) → Type 0
IsNearer n z = z ≢ pos 0 → unsigned_abs n < unsigned_abs z

-- the entries of what an input is given with another number
record LowerOf (k : ℕ) (c : Content) (e : InputEntry) (n : ℤ) (bound : ℕ) : Type 0 where
  here : e.input ≡ k
  lowered : List InputEntry
  are : AreEntriesOf k (content_with c e.index n) lowered
  less : size lowered < bound

number_size : (k : ℕ) (n : ℤ) → size (number_entries k n) ≡ unsigned_abs n
number_size k n =
    elim (int_eq n (pos 0)) as (λ b. int_eq n (pos 0) ≡ b → size (cond b [] (at_input k (pos 0, n) ∷ [])) ≡ unsigned_abs n) [
      | true ↦ λ q. ap unsigned_abs (sym ((Decides-int_eq n (pos 0)).0 q))
      | false ↦ λ q. omega arith
    ] refl

record IsNumberEntry (k : ℕ) (z : ℤ) (e : InputEntry) : Type 0 where
  here : e.input ≡ k
  own : e.number ≡ z
  not_zero : z ≢ pos 0

number_entry : (k : ℕ) (z : ℤ) (b : Bool) (xs : List InputEntry) (e : InputEntry) (ys : List InputEntry) → int_eq z (pos 0) ≡ b
    → cond b [] (at_input k (pos 0, z) ∷ []) ≡ xs ++ e ∷ ys → IsNumberEntry k z e
number_entry k z true xs e ys t q = absurd (no_entry xs e ys q)
number_entry k z false [] e ys t q =
    let same : at_input k (pos 0, z) ≡ e = cc in
    record {
      here = ap (λ (x : InputEntry). x.input) (sym same);
      own = ap (λ (x : InputEntry). x.number) (sym same);
      not_zero = λ none. false≢true (sym t ∙ (Decides-int_eq z (pos 0)).1 none);
    }
number_entry k z false (x ∷ xs) e ys t q = let rest : [] ≡ xs ++ e ∷ ys = cc in absurd (no_entry xs e ys rest)

-- the place of an entry in a listing
record ListedAt (k : ℕ) (listing : List Pair) (e : InputEntry) : Type 0 where
  before : List Pair
  pair : Pair
  after : List Pair
  split : listing ≡ before ++ pair ∷ after
  is : at_input k pair ≡ e

listed_at : (k : ℕ) (listing : List Pair) (xs : List InputEntry) (e : InputEntry) (ys : List InputEntry) → map (at_input k) listing ≡ xs ++ e ∷ ys
    → ListedAt k listing e
listed_at k [] [] e ys q = absurd (cc)
listed_at k [] (x ∷ xs) e ys q = absurd (cc)
listed_at k (p ∷ ps) [] e ys q = let same : at_input k p ≡ e = cc in record { before = []; pair = p; after = ps; split = refl; is = same }
listed_at k (p ∷ ps) (x ∷ xs) e ys q =
    let tail : map (at_input k) ps ≡ xs ++ e ∷ ys = cc in
    let rest = listed_at k ps xs e ys tail in
    record { before = p ∷ rest.before; pair = rest.pair; after = rest.after; split = ap (λ r. p ∷ r) rest.split; is = rest.is }

not_zero_at : (xs : List Pair) (p : Pair) (ys : List Pair) → NoZero (xs ++ p ∷ ys) → p.1 ≢ pos 0
not_zero_at [] p ys h = h.0
not_zero_at (x ∷ xs) p ys h = not_zero_at xs p ys h.1

lower_array : (k : ℕ) (f : ℤ → ℤ) (own : List InputEntry) (e : InputEntry) (n : ℤ) (a : AreArrayEntries k f own) → ListedAt k a.listing e → IsNearer n e.number
    → LowerOf k (Entries f) e n (size own)
lower_array k f own e n a at low =
    let p = at.pair in
    let index : p.0 ≡ e.index = ap (λ (x : InputEntry). x.index) at.is in
    let number : p.1 ≡ e.number = ap (λ (x : InputEntry). x.number) at.is in
    let lists : IsListing f (at.before ++ p ∷ at.after) = subst (λ ls. IsListing f ls) at.split a.lists in
    let near : unsigned_abs n < unsigned_abs p.1 = subst (λ z. IsNearer n z) (sym number) low (not_zero_at at.before p at.after lists.not_zero) in
    let lower = lower_listing f p.0 p.1 n at.before at.after lists near in
    let whole : size own ≡ array_size (at.before ++ p ∷ at.after) = ap size a.all ∙ size_at k a.listing ∙ ap array_size at.split in
    let part = size_at k lower.listing in
    let less = lower.less in
    record {
      here = ap (λ (x : InputEntry). x.input) (sym at.is);
      lowered = map (at_input k) lower.listing;
      are = record { listing = lower.listing; lists = subst (λ i. IsListing (put f i n) lower.listing) index lower.lists; all = refl };
      less = omega arith;
    }

whole_size : (own xs : List InputEntry) (e : InputEntry) (ys : List InputEntry) → own ≡ xs ++ e ∷ ys → unsigned_abs e.number ≤ size own
whole_size own xs e ys q = let all : size own ≡ size xs + size (e ∷ ys) = ap size q ∙ size_joined xs (e ∷ ys) in omega arith

lower_of : (k : ℕ) (c : Content) (own xs : List InputEntry) (e : InputEntry) (ys : List InputEntry) (n : ℤ) → AreEntriesOf k c own → own ≡ xs ++ e ∷ ys
    → IsNearer n e.number
    → LowerOf k c e n (size own)
lower_of k (Number z) own xs e ys n are q low =
    let own_entry = number_entry k z (int_eq z (pos 0)) xs e ys refl (sym are ∙ q) in
    let near : unsigned_abs n < unsigned_abs e.number = low (λ none. own_entry.not_zero (sym own_entry.own ∙ none)) in
    let bound = whole_size own xs e ys q in
    let count = number_size k n in
    record { here = own_entry.here; lowered = number_entries k n; are = refl; less = omega arith }
lower_of k (Entries f) own xs e ys n are q low = lower_array k f own e n are (listed_at k are.listing xs e ys (sym are.all ∙ q)) low
lower_of k (Emitted zs) own xs e ys n are q low = absurd (no_entry xs e ys (sym are ∙ q))

-- ---- inputs with a number nearer to 0

-- the entries of contents in order with another number where an entry is, which is m behind the first
record Lower (k : ℕ) (cs : List Content) (e : InputEntry) (n : ℤ) (bound : ℕ) : Type 0 where
  m : ℕ
  place : e.input ≡ k + m
  lowered : List InputEntry
  are : AreEntries k (with_number_at cs m e.index n) lowered
  less : size lowered < bound

lower : (k : ℕ) (cs : List Content) (es xs : List InputEntry) (e : InputEntry) (ys : List InputEntry) (n : ℤ) → AreEntries k cs es → es ≡ xs ++ e ∷ ys
    → IsNearer n e.number
    → Lower k cs e n (size es)
lower k [] es xs e ys n are q low = absurd (no_entry xs e ys (sym are ∙ q))
lower k (c ∷ cs) es xs e ys n are q low =
    let count : size es ≡ size are.own + size are.others = ap size are.all ∙ size_joined are.own are.others in
    elim (side are.own are.others xs e ys (sym are.all ∙ q)) as (λ _. Lower k (c ∷ cs) e n (size es)) [
      | inl l ↦
          let own = lower_of k c are.own xs e l.behind n are.of_first l.own_is low in
          let place : e.input ≡ k + 0 = own.here ∙ omega arith in
          let sum = size_joined own.lowered are.others in
          let less = own.less in
          record {
            m = 0;
            place = place;
            lowered = own.lowered ++ are.others;
            are = record { own = own.lowered; others = are.others; of_first = own.are; of_others = are.of_others; all = refl };
            less = omega arith;
          }
      | inr r ↦
          let rest = lower (k + 1) cs are.others r.before e ys n are.of_others r.others_are low in
          let place : e.input ≡ k + suc rest.m = rest.place ∙ omega arith in
          let sum = size_joined are.own rest.lowered in
          let less = rest.less in
          record {
            m = suc rest.m;
            place = place;
            lowered = are.own ++ rest.lowered;
            are = record { own = are.own; others = rest.lowered; of_first = are.of_first; of_others = rest.are; all = refl };
            less = omega arith;
          }
    ]

-- the entries of all inputs with another number where an entry is
pub record LowerEntries (cs : List Content) (e : InputEntry) (n : ℤ) (bound : ℕ) : Type 0 where
  pub lowered : List InputEntry
  pub are : AreEntries 0 (with_number_at cs e.input e.index n) lowered
  pub less : size lowered < bound

pub lower_entries : (cs : List Content) (es xs : List InputEntry) (e : InputEntry) (ys : List InputEntry) (n : ℤ) → AreEntries 0 cs es → es ≡ xs ++ e ∷ ys
    → IsNearer n e.number → LowerEntries cs e n (size es)
lower_entries cs es xs e ys n are q low =
    let l = lower 0 cs es xs e ys n are q low in
    let place : l.m ≡ e.input = omega (arith, l.place) in
    record { lowered = l.lowered; are = subst (λ m. AreEntries 0 (with_number_at cs m e.index n) l.lowered) place l.are; less = l.less }
