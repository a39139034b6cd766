-- Arrays are the same where their listings are.
use Rattle.std.proofs.Common.{◌≡◌, Bool, ℤ, List, sym, ◌∙◌, ap, subst}
use Rattle.std.specs.Prelude.{◌&&◌}
use Rattle.std.specs.Bool.{Decides}
use Rattle.std.specs.Ordering.{int_eq}
use Rattle.std.specs.Cmp.Lexicographic.{pointwise}
use Rattle.std.proofs.lemmas.Slice.Eq.{slice_eq-Decides}
use Rattle.std.proofs.lemmas.Bool.Decides.{Decides-int_eq, Decides-and, Decides-like}
use Rattle.fs_stores.specs.EntryLists.{Entry, listed_number, IsListing}
use Rattle.fs_run_text.proofs.Listed.{listing_once, same_entry}

abbrev pub same_pair : Entry → Entry → Bool
same_pair a b = int_eq a.0 b.0 && int_eq a.1 b.1

pub pair_decides : (a b : Entry) → Decides (same_pair a b) (a ≡ b)
pair_decides a b =
    Decides-like (same_pair a b) (λ (p : (a.0 ≡ b.0) × (a.1 ≡ b.1)). same_entry a b p.0 p.1)
    (λ (p : a ≡ b). (ap (λ (x : Entry). x.0) p, ap (λ (x : Entry). x.1) p))
    (Decides-and (int_eq a.0 b.0) (int_eq a.1 b.1) (Decides-int_eq a.0 b.0) (Decides-int_eq a.1 b.1))

everywhere : (f g : ℤ → ℤ) → ((i : ℤ) → f i ≡ g i) → f ≡ g
everywhere f g h = λ j i. h i j

pub same_arrays : (f g : ℤ → ℤ) (es fs : List Entry) (r : Bool) → IsListing f es → IsListing g fs → r ≡ pointwise same_pair es fs → Decides r (f ≡ g)
same_arrays f g es fs r a b is =
    Decides-like r (λ (p : es ≡ fs). everywhere f g (λ i. sym (a.exact i) ∙ ap (λ (xs : List Entry). listed_number xs i) p ∙ b.exact i))
    (λ (p : f ≡ g). listing_once g es fs (subst (λ (h : ℤ → ℤ). IsListing h es) p a) b) (slice_eq-Decides pair_decides es fs r is)
