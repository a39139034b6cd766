-- Entries whose values change.
use Rattle.std.proofs.Common.{◌≡◌, ℕ, zero, suc, ◌∙◌, ap, subst, List, [], ◌∷◌, map}
use Rattle.std.proofs.lemmas.List.{map-set}
use Rattle.std.specs.Prelude.{Some, slice_get, slice_set}
use Rattle.fs_model.proofs.Lists.{slice_get-of_map}
use Rattle.indexmap.specs.IndexMap.{set_value_at}
use Rattle.search_tables.specs.declared.pairs.PointPair.{PointPair}
use Rattle.search_places.specs.declared.node_state.NodeState.{NodeState}
use Rattle.search_places.specs.NodeRecords.{record_of_node, node_records}
use Rattle.search_tables.proofs.RankLists.{get_map_back}

set_is : (es : List (PointPair × NodeState)) (k : ℕ) (e : PointPair × NodeState) (v : NodeState) → slice_get es k ≡ Some e
    → set_value_at es k v ≡ slice_set es k (e.0, v)
set_is [] k e v g = cc
set_is (a ∷ es) zero e v g = let s : a ≡ e = cc in ap (λ (z : PointPair × NodeState). (z.0, v) ∷ es) s
set_is (a ∷ es) (suc k) e v g = ap (λ xs. a ∷ xs) (set_is es k e v g)

-- the entry with a value, and the nodes where it has another
pub record Held (es : List (PointPair × NodeState)) (k : ℕ) (old : NodeState) : Type 0 where
  pub pair : PointPair
  pub is_in : slice_get (node_records es) k ≡ Some (record_of_node (pair, old))
  pub set : (v : NodeState) → node_records (set_value_at es k v) ≡ slice_set (node_records es) k (record_of_node (pair, v))

pub held : (es : List (PointPair × NodeState)) (k : ℕ) (old : NodeState) → slice_get (map (λ (e : PointPair × NodeState). e.1) es) k ≡ Some old → Held es k old
held es k old g =
    let b = get_map_back (λ (e : PointPair × NodeState). e.1) es k old g in
    subst (Held es k) b.2 (record {
      pair = b.0.0;
      is_in = slice_get-of_map record_of_node es k b.0 b.1;
      set = λ v. ap node_records (set_is es k b.0 v b.1) ∙ map-set record_of_node es k (b.0.0, v);
    })
