-- The merge of the atoms of two ordered monomials.
use Rattle.std.proofs.Common.{◌≡◌, ℕ, ◌+◌, ◌<◌, ◌≤◌, ℤ, Bool, true, false, ◌&&◌, List, [], ◌∷◌, ◌++◌, map, length, get_or, drop, refl, ap, sym, subst, ◌∙◌}
use Rattle.std.proofs.Common.{drop-cons, add-one}
use Rattle.std.proofs.lemmas.List.{drop_all, append-nil}
use Rattle.std.specs.declared.cmp.Ordering.TheVariants.{Less}
use Rattle.std.specs.Ordering.{is_le, ordering_reverse}
use Rattle.nf_sums.proofs.Identities.{product_with_one}
use Rattle.nf_terms.proofs.Orderings.{is_le-false}
use Rattle.nf_trees.specs.NormalTerms.{Atom, Monomial, One, Times, monomial_of}
use Rattle.nf_trees.specs.View.{atom_in}
use Rattle.nf_trees.specs.Order.{cmp_atom}
use Rattle.nf_terms.specs.Normal.{ordered_atom, ordered_monomial}
use Rattle.nf_terms.specs.RawSums.{monomial_product}
use Rattle.nf_trees.specs.Comparison.{atoms_total}
use Rattle.nf_trees.specs.declared.tree.Atom.{Atom as AtomTree}
use Rattle.nf_sums.specs.OrderedSums.{IgnoresOrder, IsOrderedJoin}
use Rattle.nf_sums.proofs.Sorted.{sorted, follows, Sorted, sorted_move, sorted_insert}
use Rattle.nf_sums.proofs.Sorting.{joined_deep}

abbrev pub before_atom : Atom → Atom → Bool
before_atom a b = is_le (cmp_atom a b)

-- a list of atoms in order
pub record Stands (xs : List Atom) : Type 0 where
  pub stands : Sorted ordered_atom before_atom xs

ordered_sorted : (xs : List Atom) → ordered_monomial (monomial_of xs) ≡ sorted ordered_atom before_atom xs
ordered_sorted [] = refl
ordered_sorted (a ∷ []) = refl
ordered_sorted (a ∷ b ∷ xs) = ap (λ t. ordered_atom a && before_atom a b && t) (ordered_sorted (b ∷ xs))

stands_of : (xs : List Atom) → ordered_monomial (monomial_of xs) ≡ true → Stands xs
stands_of xs e = record { stands = record { holds = sym (ordered_sorted xs) ∙ e } }

ordered_of : (xs : List Atom) → Stands xs → ordered_monomial (monomial_of xs) ≡ true
ordered_of xs r = ordered_sorted xs ∙ r.stands.holds

monomial_of-append : (xs ys : List Atom) → monomial_of (xs ++ ys) ≡ monomial_product (monomial_of xs) (monomial_of ys)
monomial_of-append [] ys = refl
monomial_of-append (a ∷ xs) ys = ap (Times a) (monomial_of-append xs ys)

-- an atom moves to the front
moved : (f : Monomial → ℤ) → IgnoresOrder f → (k m : Monomial) (a : Atom) (n : Monomial)
    → f (monomial_product k (monomial_product m (Times a n))) ≡ f (monomial_product k (Times a (monomial_product m n)))
moved f h k One a n = refl
moved f h k (Times b m) a n =
    ap f (sym (joined_deep k (Times b One) (monomial_product m (Times a n))))
    ∙ moved f h (monomial_product k (Times b One)) m a n
    ∙ ap f (joined_deep k (Times b One) (Times a (monomial_product m n)))
    ∙ h.swapped k b a (monomial_product m n)

-- a merge on its way: what is out, and what is left of both sides
pub record Joining (l r out a b : List Atom) : Type 0 where
  pub left : Stands (out ++ a)
  pub right : Stands (out ++ b)
  pub same : (f : Monomial → ℤ) → IgnoresOrder f → f (monomial_product (monomial_of out) (monomial_product (monomial_of a) (monomial_of b)))
      ≡ f (monomial_product (monomial_of l) (monomial_of r))

after : (out : List Atom) (x : Atom) (m : Monomial) → monomial_product (monomial_of (out ++ x ∷ [])) m ≡ monomial_product (monomial_of out) (Times x m)
after out x m = ap (λ k. monomial_product k m) (monomial_of-append out (x ∷ [])) ∙ joined_deep (monomial_of out) (Times x One) m

module _ (l r out : List Atom) where
  join_left : (x : Atom) (a b : List Atom) → Joining l r out (x ∷ a) b → follows before_atom x b ≡ true → Joining l r (out ++ x ∷ []) a b
  join_left x a b m f = record {
    left = record { stands = sorted_move ordered_atom before_atom out x a m.left.stands };
    right = record { stands = sorted_insert ordered_atom before_atom out x a b m.left.stands m.right.stands f };
    same = λ g h. ap g (after out x (monomial_product (monomial_of a) (monomial_of b))) ∙ m.same g h;
  }

  join_right : (x : Atom) (a b : List Atom) → Joining l r out a (x ∷ b) → follows before_atom x a ≡ true → Joining l r (out ++ x ∷ []) a b
  join_right x a b m f = record {
    left = record { stands = sorted_insert ordered_atom before_atom out x b a m.right.stands m.left.stands f };
    right = record { stands = sorted_move ordered_atom before_atom out x b m.right.stands };
    same = λ g h. ap g (after out x (monomial_product (monomial_of a) (monomial_of b)))
        ∙ sym (moved g h (monomial_of out) (monomial_of a) x (monomial_of b)) ∙ m.same g h;
  }

-- the atoms before i and j are merged into out
pub record Joined (l r out : List AtomTree) (i j : ℕ) : Type 0 where
  pub so_far : Joining (map atom_in l) (map atom_in r) (map atom_in out) (map atom_in (drop i l)) (map atom_in (drop j r))

pub begun : (l r out : List AtomTree) (i j : ℕ) → out ≡ [] → i ≡ 0 → j ≡ 0 → ordered_monomial (monomial_of (map atom_in l)) ≡ true
    → ordered_monomial (monomial_of (map atom_in r)) ≡ true → Joined l r out i j
begun l r out i j e f g p q =
    let m : Joined l r [] 0 0 = record { so_far = record { left = stands_of (map atom_in l) p; right = stands_of (map atom_in r) q; same = λ h k. refl } } in
    subst (λ o. Joined l r o i j) (sym e) (subst (λ a. Joined l r [] a j) (sym f) (subst (λ b. Joined l r [] 0 b) (sym g) m))

next : (l : List AtomTree) (i : ℕ) (x : AtomTree) → i < length l → x ≡ get_or l i x → map atom_in (drop i l) ≡ atom_in x ∷ map atom_in (drop (i + 1) l)
next l i x h e = rw (drop-cons l i x, ← e, add-one) refl

past : (l : List AtomTree) (i : ℕ) → length l ≤ i → map atom_in (drop i l) ≡ []
past l i h = ap (map atom_in) (drop_all i l h)

pub ended : (l r out : List AtomTree) (i j : ℕ) → Joined l r out i j → length l ≤ i → length r ≤ j
    → IsOrderedJoin (monomial_of (map atom_in l)) (monomial_of (map atom_in r)) (monomial_of (map atom_in out))
ended l r out i j m h k =
    let P = λ (a b : List Atom). Joining (map atom_in l) (map atom_in r) (map atom_in out) a b in
    let s : P [] [] = subst (λ a. P a []) (past l i h) (subst (λ b. P (map atom_in (drop i l)) b) (past r j k) m.so_far) in
    record {
      in_order = ordered_of (map atom_in out) (rw (← append-nil (map atom_in out)) s.left);
      same = λ f g. ap f (sym (product_with_one (monomial_of (map atom_in out)))) ∙ s.same f g;
    }

module _ (l r out out' : List AtomTree) (i j : ℕ) (m : Joined l r out i j) where
  pub turn_left_end : (x : AtomTree) → i < length l → x ≡ get_or l i x → length r ≤ j → map atom_in out' ≡ map atom_in out ++ atom_in x ∷ []
      → Joined l r out' (i + 1) j
  turn_left_end x h e k o =
      let s : Joining (map atom_in l) (map atom_in r) (map atom_in out) (atom_in x ∷ map atom_in (drop (i + 1) l)) (map atom_in (drop j r)) =
      rw (← next l i x h e) m.so_far in
      record { so_far = rw o (join_left (map atom_in l) (map atom_in r) (map atom_in out) (atom_in x) _ _ s (rw (past r j k) refl)) }

  pub turn_right_end : (y : AtomTree) → j < length r → y ≡ get_or r j y → length l ≤ i → map atom_in out' ≡ map atom_in out ++ atom_in y ∷ []
      → Joined l r out' i (j + 1)
  turn_right_end y h e k o =
      let s : Joining (map atom_in l) (map atom_in r) (map atom_in out) (map atom_in (drop i l)) (atom_in y ∷ map atom_in (drop (j + 1) r)) =
      rw (← next r j y h e) m.so_far in
      record { so_far = rw o (join_right (map atom_in l) (map atom_in r) (map atom_in out) (atom_in y) _ _ s (rw (past l i k) refl)) }

  pub turn_left : (x y : AtomTree) → i < length l → x ≡ get_or l i x → j < length r → y ≡ get_or r j y → is_le (cmp_atom (atom_in x) (atom_in y)) ≡ true
      → map atom_in out' ≡ map atom_in out ++ atom_in x ∷ [] → Joined l r out' (i + 1) j
  turn_left x y h e k f c o =
      let s : Joining (map atom_in l) (map atom_in r) (map atom_in out) (atom_in x ∷ map atom_in (drop (i + 1) l)) (map atom_in (drop j r)) =
      rw (← next l i x h e) m.so_far in
      record { so_far = rw o (join_left (map atom_in l) (map atom_in r) (map atom_in out) (atom_in x) _ _ s (rw (next r j y k f) c)) }

  pub turn_right : (x y : AtomTree) → i < length l → x ≡ get_or l i x → j < length r → y ≡ get_or r j y → is_le (cmp_atom (atom_in x) (atom_in y)) ≡ false
      → map atom_in out' ≡ map atom_in out ++ atom_in y ∷ [] → Joined l r out' i (j + 1)
  turn_right x y h e k f c o =
      let s : Joining (map atom_in l) (map atom_in r) (map atom_in out) (map atom_in (drop i l)) (atom_in y ∷ map atom_in (drop (j + 1) r)) =
      rw (← next r j y k f) m.so_far in
      let less : cmp_atom (atom_in y) (atom_in x) ≡ Less = atoms_total.antisymm (atom_in y) (atom_in x)
      ∙ ap ordering_reverse (is_le-false (cmp_atom (atom_in x) (atom_in y)) c) in
      record { so_far = rw o (join_right (map atom_in l) (map atom_in r) (map atom_in out) (atom_in y) _ _ s (rw (next l i x h e) (ap is_le less))) }
