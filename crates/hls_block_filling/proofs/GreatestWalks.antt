-- Heights are the greatest numbers of strict edges on walks.
use Rattle.std.proofs.Common.{◌≡◌, ℕ, zero, suc, ◌<◌, ◌≤◌, List, [], ◌∷◌, refl, sym, subst, arith, Bool, true, false, inl, inr, ◌⊎◌, length}
use Rattle.std.specs.Prelude.{cond, max}
use Rattle.std.specs.List.{slice_index_or}
use Rattle.hls_block_filling.specs.Items.{Item, is_strict, is_weak}
use Rattle.hls_block_filling.specs.Heights.{strict_edges_through, height_over, heights, greatest, chain_of}
use Rattle.hls_block_filling.specs.Filling.{graph_of}
use Rattle.hls_block_filling.specs.Walks.{IsItemWalk, stays, strictly, weakly, AreGreatest, IsGreatestChain}
use Rattle.hls_block_filling.proofs.Lists.{heights_fall, below_chain}

-- ---- no walk has more
above_strict : (a b : Bool) (h i : ℕ) → a ≡ true → cond a (suc h) (cond b h 0) ≤ i → suc h ≤ i
above_strict true b h i e p = p
above_strict false b h i e p = absurd (cc e)

above_weak : (a b : Bool) (h i : ℕ) → b ≡ true → cond a (suc h) (cond b h 0) ≤ i → h ≤ i
above_weak true b h i e p = omega (arith, p)
above_weak false true h i e p = p
above_weak false false h i e p = absurd (cc e)

inside : (items : List Item) (i n : ℕ) → IsItemWalk (graph_of items) i n → i < length items
inside items _ _ (stays i p) = p
inside items _ _ (strictly i j k p e w) = let q = inside items j k w in omega (arith, p, q)
inside items _ _ (weakly i j n p e w) = let q = inside items j n w in omega (arith, p, q)

no_more : (items : List Item) (i n : ℕ) → IsItemWalk (graph_of items) i n → n ≤ slice_index_or (heights items) i 0
no_more items _ _ (stays i p) = omega arith
no_more items _ _ (strictly i j k p e w) =
    let up = above_strict (is_strict (slice_index_or items i []) (slice_index_or items j [])) (is_weak (slice_index_or items i []) (slice_index_or items j []))
    (slice_index_or (heights items) j 0) (slice_index_or (heights items) i 0) e (heights_fall items i j p (inside items j k w)) in
    let rest = no_more items j k w in
    omega (arith, up, rest)
no_more items _ _ (weakly i j n p e w) =
    let up = above_weak (is_strict (slice_index_or items i []) (slice_index_or items j [])) (is_weak (slice_index_or items i []) (slice_index_or items j []))
    (slice_index_or (heights items) j 0) (slice_index_or (heights items) i 0) e (heights_fall items i j p (inside items j n w)) in
    let rest = no_more items j n w in
    omega (arith, up, rest)

-- ---- a walk has as many
-- a walk of later items, behind one more
behind : (a : Item) (items : List Item) (i n : ℕ) → IsItemWalk (graph_of items) i n → IsItemWalk (graph_of (a ∷ items)) (suc i) n
behind a items _ _ (stays i p) = stays (suc i) (omega (arith, p))
behind a items _ _ (strictly i j k p e w) = strictly (suc i) (suc j) k (omega (arith, p)) e (behind a items j k w)
behind a items _ _ (weakly i j n p e w) = weakly (suc i) (suc j) n (omega (arith, p)) e (behind a items j n w)

-- the item over which an item is as high as it is
record IsReached (a : Item) (items : List Item) (hs : List ℕ) (n : ℕ) : Type 0 where
  number : ℕ
  within : number < length items
  height : n ≡ strict_edges_through a (slice_index_or items number []) (slice_index_or hs number 0)

later : (a b : Item) (items : List Item) (h : ℕ) (hs : List ℕ) (n : ℕ) → IsReached a items hs n → IsReached a (b ∷ items) (h ∷ hs) n
later a b items h hs n r = record { number = suc r.number; within = (let p = r.within in omega (arith, p)); height = r.height }

max_cases : (x y : ℕ) → (max x y ≡ x) ⊎ (max x y ≡ y)
max_cases zero y = inr (omega arith)
max_cases (suc x) zero = inl (omega arith)
max_cases (suc x) (suc y) = elim (max_cases x y) [ inl e ↦ inl (omega (arith, e)) | inr e ↦ inr (omega (arith, e)) ]

none_or_reached : (a : Item) (items : List Item) → (height_over a items (heights items) ≡ 0)
    ⊎ IsReached a items (heights items) (height_over a items (heights items))
none_or_reached a [] = inl refl
none_or_reached a (b ∷ items) =
    elim (max_cases (strict_edges_through a b (height_over b items (heights items))) (height_over a items (heights items))) [
      | inl e ↦ inr (record { number = 0; within = omega arith; height = e })
      | inr e ↦ elim (none_or_reached a items) [
        | inl z ↦ inl (omega (arith, e, z))
        | inr r ↦
            inr
            (subst (λ n. IsReached a (b ∷ items) (heights (b ∷ items)) n) (sym e)
            (later a b items (height_over b items (heights items)) (heights items) (height_over a items (heights items)) r))
      ]
    ]

by_edge : (a : Item) (items : List Item) (j h n : ℕ) (s t : Bool) → is_strict a (slice_index_or items j []) ≡ s → is_weak a (slice_index_or items j []) ≡ t
    → IsItemWalk (graph_of items) j h → n ≡ cond s (suc h) (cond t h 0) → IsItemWalk (graph_of (a ∷ items)) 0 n
by_edge a items j h n true t e f w g = subst (IsItemWalk (graph_of (a ∷ items)) 0) (sym g) (strictly 0 (suc j) h (omega arith) e (behind a items j h w))
by_edge a items j h n false true e f w g = subst (IsItemWalk (graph_of (a ∷ items)) 0) (sym g) (weakly 0 (suc j) h (omega arith) f (behind a items j h w))
by_edge a items j h n false false e f w g = subst (IsItemWalk (graph_of (a ∷ items)) 0) (sym g) (stays 0 (omega arith))

from_first : (a : Item) (items : List Item) → ((i : ℕ) → i < length items → IsItemWalk (graph_of items) i (slice_index_or (heights items) i 0))
    → IsItemWalk (graph_of (a ∷ items)) 0 (height_over a items (heights items))
from_first a items next =
    elim (none_or_reached a items) [
      | inl z ↦ subst (IsItemWalk (graph_of (a ∷ items)) 0) (sym z) (stays 0 (omega arith))
      | inr r ↦ by_edge a items r.number (slice_index_or (heights items) r.number 0) (height_over a items (heights items))
          (is_strict a (slice_index_or items r.number [])) (is_weak a (slice_index_or items r.number [])) refl refl (next r.number r.within) r.height
    ]

as_many : (items : List Item) (i : ℕ) → i < length items → IsItemWalk (graph_of items) i (slice_index_or (heights items) i 0)
as_many [] i p = absurd (omega (arith, p))
as_many (a ∷ items) zero p = from_first a items (as_many items)
as_many (a ∷ items) (suc i) p = behind a items i (slice_index_or (heights items) i 0) (as_many items i (omega (arith, p)))

pub are_greatest : (items : List Item) → AreGreatest items
are_greatest items = record { walks = as_many items; no_greater = no_more items }

-- ---- the chain
-- the item whose height the chain is past by one
record IsTop (items : List Item) (n : ℕ) : Type 0 where
  number : ℕ
  within : number < length items
  height : slice_index_or (heights items) number 0 ≡ n

top_later : (a : Item) (items : List Item) (n : ℕ) → IsTop items n → IsTop (a ∷ items) n
top_later a items n t = record { number = suc t.number; within = (let p = t.within in omega (arith, p)); height = t.height }

top_of : (items : List Item) (n : ℕ) → chain_of items ≡ suc n → IsTop items n
top_of [] n e = absurd (omega (arith, e))
top_of (a ∷ items) n e =
    elim (max_cases (suc (height_over a items (heights items))) (greatest (heights items))) [
      | inl f ↦ record { number = 0; within = omega arith; height = omega (arith, e, f) }
      | inr f ↦ top_later a items n (top_of items n (omega (arith, e, f)))
    ]

pub is_greatest_chain : (items : List Item) → IsGreatestChain items
is_greatest_chain items = record {
  no_greater = λ i n w. (let up = no_more items i n w in let low = below_chain items i (inside items i n w) in omega (arith, up, low));
  walks =
      λ n e.
      (let t = top_of items n e in record { first = t.number; walk = subst (IsItemWalk (graph_of items) t.number) t.height (as_many items t.number t.within) });
}
