-- Ranks are the lengths of longest chains.
use Rattle.std.proofs.Common.{◌≡◌, ℕ, zero, suc, ◌≤◌, ◌⊎◌, inl, inr, max, refl, ap, sym, ◌∙◌, arith, List, [], ◌∷◌, length}
use Rattle.std.specs.Prelude.{Option, Some, None, slice_get, slice_index}
use Rattle.std.proofs.lemmas.List.{get_or_past}
use Rattle.base_laws.proofs.Lists.{slice_get-none}
use Rattle.search_tables.specs.Graphs.{IsChain, LongestChain, above, AreRanks}
use Rattle.search_tables.proofs.Falls.{edge_falls}

-- no chain is longer than the rank of the node at which it begins
none_longer : (E : List (List ℕ)) (ranks : List ℕ) (i : ℕ) (xs : List ℕ) → AreRanks E ranks → IsChain E i xs → length xs ≤ slice_index ranks i
none_longer E ranks i [] a h = omega arith
none_longer E ranks i (x ∷ xs) a h =
    let b = edge_falls E ranks i x a h.0 in let c = none_longer E ranks x xs a h.1 in omega (arith, b, c)

-- a target with the greatest rank
record Greatest (ranks js : List ℕ) (n : ℕ) : Type 0 where
  pub place : ℕ
  pub target : ℕ
  pub is_in : slice_get js place ≡ Some target
  pub rank : slice_index ranks target ≡ n

greatest : (ranks js : List ℕ) (n : ℕ) → above ranks js ≡ suc n → Greatest ranks js n
greatest ranks [] n e = absurd (cc e)
greatest ranks (j ∷ js) n e = by_greater (which (suc (slice_index ranks j)) (above ranks js)) (λ h. greatest ranks js n h)
  where
    which : (x y : ℕ) → (max x y ≡ x) ⊎ (max x y ≡ y)
    which x y = grind arith

    by_greater : (max (suc (slice_index ranks j)) (above ranks js) ≡ suc (slice_index ranks j))
        ⊎ (max (suc (slice_index ranks j)) (above ranks js) ≡ above ranks js)
        → (above ranks js ≡ suc n → Greatest ranks js n) → Greatest ranks (j ∷ js) n
    by_greater (inl h) again = record { place = zero; target = j; is_in = refl; rank = omega (arith, h, e) }
    by_greater (inr h) again =
        let g = again (sym h ∙ e) in record { place = suc g.place; target = g.target; is_in = g.is_in; rank = g.rank }

-- a chain as long as the rank
record ChainOf (E : List (List ℕ)) (i n : ℕ) : Type 0 where
  pub nodes : List ℕ
  pub is_chain : IsChain E i nodes
  pub count : length nodes ≡ n

some_chain : (E : List (List ℕ)) (ranks : List ℕ) (n i : ℕ) → AreRanks E ranks → slice_index ranks i ≡ n → ChainOf E i n
some_chain E ranks zero i a e = record { nodes = []; is_chain = tt; count = refl }
some_chain E ranks (suc n) i a e = from (slice_get E i) refl (λ j h. some_chain E ranks n j a h)
  where
    edge : (js : List ℕ) → slice_get E i ≡ Some js → (g : Greatest ranks js n) → ChainOf E g.target n → ChainOf E i (suc n)
    edge js q g c = record {
      nodes = g.target ∷ c.nodes;
      is_chain = (record { targets = js; from = q; place = g.place; is_in = g.is_in }, c.is_chain);
      count = ap suc c.count;
    }

    from : (t : Option (List ℕ)) → slice_get E i ≡ t → ((j : ℕ) → slice_index ranks j ≡ n → ChainOf E j n) → ChainOf E i (suc n)
    from None q again = absurd (omega (arith, e, get_or_past ranks i 0 (let p = slice_get-none E i q in omega (arith, p, a.count))))
    from (Some js) q again = let g = greatest ranks js n (sym (a.each i js q) ∙ e) in edge js q g (again g.target g.rank)

pub longest_chain : (E : List (List ℕ)) (ranks : List ℕ) (i : ℕ) → AreRanks E ranks → LongestChain E i (slice_index ranks i)
longest_chain E ranks i a =
    let c = some_chain E ranks (slice_index ranks i) i a refl in
    record { nodes = c.nodes; is_chain = c.is_chain; count = c.count; longest = λ xs h. none_longer E ranks i xs a h }
