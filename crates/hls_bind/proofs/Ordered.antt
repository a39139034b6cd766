-- Registers that are sorted, each once.
use Rattle.std.proofs.Common.{◌≡◌, ℕ, zero, suc, ◌<◌, List, [], ◌∷◌, length, map, ap, sym, refl, ◌∙◌, subst, arith, Bool, true, false, cond, Some}
use Rattle.std.specs.Prelude.{◌==◌, ◌||◌, nat_lt, Contains}
use Rattle.std.specs.List.{list_all, list_any, slice_index_or, dedup}
use Rattle.std.specs.List.Sorted.{IsSorted, IsPermutation}
use Rattle.std.specs.Ordering.{nat_cmp}
use Rattle.std.specs.Cmp.Lexicographic.{slice_cmp, nat_list_cmp_total, nat_list_eq_equiv, texts_ties}
use Rattle.std.specs.Str.{bytes_eq}
use Rattle.std.proofs.lemmas.Slice.Eq.{bytes_eq-Decides}
use Rattle.std.proofs.lemmas.List.Kept.{IsStrictlySortedBy-dedup, Contains-dedup, Contains-from_dedup}
use Rattle.std.proofs.lemmas.List.Sorted.{Contains-permutation, IsPermutation-sym}
use Rattle.std.proofs.lemmas.Bool.{or_right}
use Rattle.fs_model.proofs.Booleans.{and_first, and_second}
use Rattle.hls_bind.specs.Bindings.{register, is_rising, AreRegisters}
use Rattle.hls_bind.proofs.Losses.{behind, head_entry}

abbrev second : ℕ × List ℕ → List ℕ
second e = e.1

-- ---- a name that is contained is listed
listed_at : (ns : List (List ℕ)) (k : ℕ) (n : List ℕ) → k < length ns → slice_index_or ns k n ≡ n → list_any (λ m. bytes_eq m n) ns ≡ true
listed_at [] k n h e = absurd (omega (arith, h))
listed_at (m ∷ ns) zero n h e = ap (λ b. b || list_any (λ q. bytes_eq q n) ns) ((bytes_eq-Decides m n).1 e)
listed_at (m ∷ ns) (suc k) n h e = or_right (bytes_eq m n) (list_any (λ q. bytes_eq q n) ns) (listed_at ns k n (omega (arith, h)) e)

listed : (ns : List (List ℕ)) (n : List ℕ) → Contains ns n → list_any (λ m. bytes_eq m n) ns ≡ true
listed ns n c = listed_at ns c.0 n c.1 c.2

contained_by : (m : List ℕ) (ns : List (List ℕ)) (n : List ℕ) (t : Bool) → bytes_eq m n ≡ t → (t || list_any (λ q. bytes_eq q n) ns) ≡ true
    → (list_any (λ q. bytes_eq q n) ns ≡ true → Contains ns n) → Contains (m ∷ ns) n
contained_by m ns n true e h next = (0, omega arith, (bytes_eq-Decides m n).0 e)
contained_by m ns n false e h next = let c = next h in let low = c.1 in (suc c.0, omega (arith, low), c.2)

contained : (ns : List (List ℕ)) (n : List ℕ) → list_any (λ m. bytes_eq m n) ns ≡ true → Contains ns n
contained [] n h = absurd (cc h)
contained (m ∷ ns) n h = contained_by m ns n (bytes_eq m n) refl h (contained ns n)

-- ---- the registers of entries
has_by : (e : ℕ × List ℕ) (es : List (ℕ × List ℕ)) (x : ℕ) (r : List ℕ) (t : Bool) → (e.0 == x) ≡ t → cond t (Some e.1) (register es x) ≡ Some r
    → (register es x ≡ Some r → Contains (map second es) r) → Contains (e.1 ∷ map second es) r
has_by e es x r true g h next = (0, omega arith, cc h)
has_by e es x r false g h next = let c = next h in let low = c.1 in (suc c.0, omega (arith, low), c.2)

has : (es : List (ℕ × List ℕ)) (x : ℕ) (r : List ℕ) → register es x ≡ Some r → Contains (map second es) r
has [] x r h = absurd (cc h)
has (e ∷ es) x r h = has_by e es x r (e.0 == x) refl h (has es x r)

only_at : (es : List (ℕ × List ℕ)) (k : ℕ) (q : List ℕ) → is_rising es ≡ true → k < length (map second es) → slice_index_or (map second es) k q ≡ q
    → (x : ℕ) × (register es x ≡ Some q)
only_at [] k q r h e = absurd (omega (arith, h))
only_at (d ∷ es) zero q r h e = (d.0, head_entry d es ∙ ap (λ (n : List ℕ). Some n) e)
only_at (d ∷ es) (suc k) q r h e =
    let x = only_at es k q (and_second (list_all (λ c. nat_lt d.0 c.0) es) (is_rising es) r) (omega (arith, h)) e in
    (x.0, behind d es x.0 q (and_first (list_all (λ c. nat_lt d.0 c.0) es) (is_rising es) r) x.1)

-- ---- the whole
pub are : (es : List (ℕ × List ℕ)) (names sorted out : List (List ℕ)) → is_rising es ≡ true → names ≡ map second es → IsPermutation names sorted
    → IsSorted (slice_cmp nat_cmp) sorted → out ≡ dedup bytes_eq sorted → AreRegisters es out
are es names sorted out rising e moved order is =
    subst (λ (rs : List (List ℕ)). AreRegisters es rs) (sym is) (record {
      all = λ x r h.
          let c = subst (λ (ns : List (List ℕ)). Contains ns r) (sym e) (has es x r h) in
          listed (dedup bytes_eq sorted) r
          (Contains-dedup nat_list_eq_equiv (λ m n. (bytes_eq-Decides m n).0) sorted r (Contains-permutation names sorted r moved c));
      only = λ q h.
          let c = Contains-from_dedup bytes_eq sorted q (contained (dedup bytes_eq sorted) q h) in
          let d = subst (λ (ns : List (List ℕ)). Contains ns q) e (Contains-permutation sorted names q (IsPermutation-sym names sorted moved) c) in
          only_at es d.0 q rising d.1 d.2;
      in_order = IsStrictlySortedBy-dedup nat_list_cmp_total texts_ties sorted order;
    })
