-- The places of atoms.
use Rattle.std.proofs.Common.{◌≡◌, ℕ, zero, suc, ◌+◌, ◌<◌, nat_lt, Bool, true, false, ◌||◌, not, cond, Some, None, List, [], ◌∷◌, ◌++◌, length, take, get_or}
use Rattle.std.proofs.Common.{arith, refl, ap, sym, subst, ◌∙◌}
use Rattle.std.proofs.lemmas.List.Quantifiers.{position-Some}
use Rattle.std.specs.List.{position_or_len, position, slice_get}
use Rattle.std.specs.Ordering.{is_eq}
use Rattle.std.proofs.lemmas.Bool.{or_left, or_right, not-true, lt-ltb}
use Rattle.fs_model.proofs.Booleans.{neither_first, neither_second}
use Rattle.fs_model.proofs.Orderings.{is_eq-true}
use Rattle.nf_trees.specs.NormalTerms.{Atom}
use Rattle.nf_trees.specs.Order.{cmp_atom, same_atom}
use Rattle.nf_trees.specs.TermKeys.{atom_ties, atom_same}
use Rattle.nf_bank.specs.Atoms.{holds_atom, atom_place, with_one, AreDifferent, IsBank}
use Rattle.nf_bank.specs.AtomNumbers.{past_end, atom_at}

pub equal_atoms : (a b : Atom) → same_atom a b ≡ true → a ≡ b
equal_atoms a b e = atom_ties a b (is_eq-true (cmp_atom a b) e)

pub own_atom : (a b : Atom) → a ≡ b → same_atom a b ≡ true
own_atom a b e = ap is_eq (atom_same a b e)

place_at : (test : Atom → Bool) (xs : List Atom) (k : ℕ) → position_or_len test xs ≡ k → k < length xs → position test xs ≡ Some k
place_at test xs k e h = ap (λ n. cond (nat_lt n (length xs)) (Some n) None) e ∙ ap (λ b. cond b (Some k) None) (lt-ltb k (length xs) h)

-- ---- different atoms

holds-last : (a b : Atom) (xs : List Atom) → holds_atom a xs ≡ false → same_atom a b ≡ false → holds_atom a (xs ++ b ∷ []) ≡ false
holds-last a b [] h s = ap (λ t. t || false) s
holds-last a b (x ∷ xs) h s =
    (λ k. neither_first (same_atom a x) (holds_atom a xs) h k || holds-last a b xs (neither_second (same_atom a x) (holds_atom a xs) h) s k)

turned : (a b : Atom) → same_atom a b ≡ false → same_atom b a ≡ false
turned a b e = by_value (same_atom b a) refl
  where
    by_value : (t : Bool) → same_atom b a ≡ t → t ≡ false
    by_value true f = absurd (let g : same_atom a b ≡ true = own_atom a b (sym (equal_atoms b a f)) in cc)
    by_value false f = refl

different-last : (xs : List Atom) (a : Atom) → AreDifferent xs → holds_atom a xs ≡ false → AreDifferent (xs ++ a ∷ [])
different-last [] a u h = (refl, tt)
different-last (x ∷ xs) a u h = (
  ap not (holds-last x a xs (not-true (holds_atom x xs) u.0) (turned a x (neither_first (same_atom a x) (holds_atom a xs) h))),
  different-last xs a u.1 (neither_second (same_atom a x) (holds_atom a xs) h),
)

-- a bank with one atom more is one
pub bank_one : (a : Atom) (xs : List Atom) → IsBank xs → IsBank (with_one a xs)
bank_one a xs b = by_value (holds_atom a xs) refl
  where
    by_value : (t : Bool) → holds_atom a xs ≡ t → IsBank (cond t xs (xs ++ a ∷ []))
    by_value true e = b
    by_value false e = record { different = different-last xs a b.different e }

not_held : (a : Atom) (n : ℕ) (xs : List Atom) → holds_atom a xs ≡ false → holds_atom a (take n xs) ≡ false
not_held a zero xs h = refl
not_held a (suc n) [] h = refl
not_held a (suc n) (x ∷ xs) h =
    (λ k. neither_first (same_atom a x) (holds_atom a xs) h k || not_held a n xs (neither_second (same_atom a x) (holds_atom a xs) h) k)

different_taken : (n : ℕ) (xs : List Atom) → AreDifferent xs → AreDifferent (take n xs)
different_taken zero xs u = tt
different_taken (suc n) [] u = tt
different_taken (suc n) (x ∷ xs) u = (ap not (not_held x n xs (not-true (holds_atom x xs) u.0)), different_taken n xs u.1)

-- the first atoms of a bank are one
pub bank_taken : (n : ℕ) (xs : List Atom) → IsBank xs → IsBank (take n xs)
bank_taken n xs b = record { different = different_taken n xs b.different }

pub there : (xs : List Atom) (k : ℕ) (a : Atom) → slice_get xs k ≡ Some a → holds_atom a xs ≡ true
there [] k a e = cc
there (x ∷ xs) zero a e = let f : x ≡ a = cc in or_left (same_atom a x) (holds_atom a xs) (own_atom a x (sym f))
there (x ∷ xs) (suc k) a e = or_right (same_atom a x) (holds_atom a xs) (there xs k a e)

first_place : (xs : List Atom) (k : ℕ) (a : Atom) → AreDifferent xs → slice_get xs k ≡ Some a → position_or_len (same_atom a) xs ≡ k
first_place [] k a u e = cc
first_place (x ∷ xs) zero a u e = let f : x ≡ a = cc in ap (λ t. cond (not t) (1 + position_or_len (same_atom a) xs) 0) (own_atom a x (sym f))
first_place (x ∷ xs) (suc k) a u e = by_value (same_atom a x) refl (first_place xs k a u.1 e)
  where
    by_value : (t : Bool) → same_atom a x ≡ t → position_or_len (same_atom a) xs ≡ k → cond (not t) (1 + position_or_len (same_atom a) xs) 0 ≡ suc k
    by_value true f g =
        absurd (let h : holds_atom x xs ≡ true = subst (λ y. holds_atom y xs ≡ true) (equal_atoms a x f) (there xs k a e) in
        let i : holds_atom x xs ≡ false = not-true (holds_atom x xs) u.0 in cc)
    by_value false f g = omega (arith, g)

place_within : (xs : List Atom) (k : ℕ) (a : Atom) → slice_get xs k ≡ Some a → k < length xs
place_within [] k a e = cc
place_within (x ∷ xs) zero a e = omega arith
place_within (x ∷ xs) (suc k) a e = omega (arith, place_within xs k a e)

-- in a bank an atom is found where it stands
pub one_place : (xs : List Atom) (a : Atom) (k : ℕ) → IsBank xs → slice_get xs k ≡ Some a → atom_place a xs ≡ Some k
one_place xs a k b e = place_at (same_atom a) xs k (first_place xs k a b.different e) (place_within xs k a e)

pub ruleset places = (one_place)

-- ---- atoms at their places

item_at : (xs : List Atom) (k : ℕ) (d : Atom) → k < length xs → slice_get xs k ≡ Some (get_or xs k d)
item_at [] k d h = absurd (omega arith)
item_at (x ∷ xs) zero d h = refl
item_at (x ∷ xs) (suc k) d h = item_at xs k d (omega arith)

-- the atom at a place within a list
pub at_place : (xs : List Atom) (k : ℕ) (a : Atom) → a ≡ atom_at xs k → k < length xs → slice_get xs k ≡ Some a
at_place xs k a e h = item_at xs k past_end h ∙ ap Some (sym e)

-- the atom that is found at a place stands there
pub found_at : (xs : List Atom) (k : ℕ) (a : Atom) → atom_place a xs ≡ Some k → (k < length xs) × (atom_at xs k ≡ a)
found_at xs k a e =
    let f = position-Some (same_atom a) xs k past_end e in
    (f.0, sym (equal_atoms a (atom_at xs k) f.1))
