-- A plan is the filling of the items that it is made from.
use Rattle.std.proofs.Common.{◌≡◌, ℕ, suc, ◌<◌, List, [], ◌∷◌, refl, sym, ◌∙◌, ap, arith, Some, length}
use Rattle.std.specs.Prelude.{cond, slice_get}
use Rattle.std.specs.List.{slice_index_or}
use Rattle.std.proofs.lemmas.Option.{slice_get_within}
use Rattle.fs_model.proofs.Lists.{element_at}
use Rattle.hls_block_filling.specs.Items.{Item, is_strict}
use Rattle.hls_block_filling.specs.ItemUnits.{Units}
use Rattle.hls_block_filling.specs.Heights.{strict_edges_through, heights, greatest, chain_of}
use Rattle.hls_block_filling.specs.Filling.{graph_of, filling_of}
use Rattle.hls_block_filling.specs.declared.effects.Effects.{Effects}
use Rattle.hls_block_filling.specs.declared.uses.Uses.{Uses}
use Rattle.hls_block_filling.specs.declared.profiles.Profile.{Profile}
use Rattle.hls_block_filling.specs.EffectSets.{edge_between}
use Rattle.hls_block_filling.specs.Profiles.{weak_in, through_edge, edge_of_effects, graph_in, AreProfiles}
use Rattle.hls_block_filling.specs.KnownHeights.{AreHeights}
use Rattle.hls_block_filling.specs.Plans.{AreCountedOf, AreJoined}
use Rattle.hls_block_filling.proofs.Edges.{same_graph, strict_between, weak_between, length_heights}
use Rattle.hls_block_filling.proofs.Levels.{through_by, SameEdges, height_is}

same_numbers : (xs ys : List ℕ) → length xs ≡ length ys → ((i : ℕ) → i < length ys → slice_index_or xs i 0 ≡ slice_index_or ys i 0) → xs ≡ ys
same_numbers [] [] e h = refl
same_numbers [] (y ∷ ys) e h = absurd (omega (arith, e))
same_numbers (x ∷ xs) [] e h = absurd (omega (arith, e))
same_numbers (x ∷ xs) (y ∷ ys) e h = ap (λ z. z ∷ xs) (h 0 (omega arith))
    ∙ ap (λ zs. y ∷ zs) (same_numbers xs ys (omega (arith, e)) (λ i p. h (suc i) (omega (arith, p))))

module _ (effects : List Effects) (uses : List Uses) (items : List Item) (are : AreCountedOf effects uses items) where
  edges_by : (i j h : ℕ) → i < length items → j < length items → (e f : Effects) → slice_get effects i ≡ Some e → slice_get effects j ≡ Some f
      → through_edge (edge_of_effects (slice_get effects i) (slice_get effects j)) h
      ≡ strict_edges_through (slice_index_or items i []) (slice_index_or items j []) h
  edges_by i j h p q e f d g =
      let s = strict_between e f (slice_index_or items i []) (slice_index_or items j []) (are.effects i e d) (are.effects j f g) (are.within i p)
      (are.within j q) in
      let w = weak_between e f (slice_index_or items i []) (slice_index_or items j []) (are.effects i e d) (are.effects j f g) (are.within i p)
      (are.within j q) in
      ap (λ o. through_edge (edge_of_effects o (slice_get effects j)) h) d
      ∙ ap (λ o. through_edge (edge_of_effects (Some e) o) h) g
      ∙ through_by (edge_between e f) h
      ∙ ap (λ b. cond b (suc h) (cond (weak_in (edge_between e f)) h 0)) s
      ∙ ap (λ b. cond (is_strict (slice_index_or items i []) (slice_index_or items j [])) (suc h) (cond b h 0)) w

  same_edges : SameEdges effects items
  same_edges i j h p q =
      let e = element_at effects i (omega (arith, p, are.count)) in
      let f = element_at effects j (omega (arith, q, are.count)) in
      edges_by i j h p q e.0 f.0 e.1 f.1

  pub known_heights : (known : List ℕ) → AreHeights effects 0 known → length known ≡ length effects → known ≡ heights items
  known_heights known h l =
      same_numbers known (heights items) (omega (arith, l, are.count, length_heights items))
      (λ i p. height_is effects items known are.count same_edges h i (omega (arith, p, length_heights items)))

  pub are_profiles : (known : List ℕ) (table : List Profile) → AreHeights effects 0 known → length known ≡ length effects → AreJoined effects known uses table
      → AreProfiles table items
  are_profiles known table h l j = record {
    count = omega (arith, j.count, are.count);
    within = λ i p e. are.within i (omega (arith, slice_get_within table i p e, j.count, are.count));
    effects = λ i p e. are.effects i p.effects (j.effect i p e);
    height = λ i p e. sym (j.height i p e) ∙ ap (λ hs. slice_index_or hs i 0) (known_heights known h l);
    uses = λ i p e. are.uses i p.uses (j.use_of i p e);
  }

  pub plan_is : (known : List ℕ) (table : List Profile) (units : Units) → AreHeights effects 0 known → length known ≡ length effects
      → AreJoined effects known uses table → filling_of (graph_in table) units ≡ filling_of (graph_of items) units
  plan_is known table units h l j = ap (λ g. filling_of g units) (same_graph table items (are_profiles known table h l j))

  pub chain_is : (known : List ℕ) → AreHeights effects 0 known → length known ≡ length effects → greatest known ≡ chain_of items
  chain_is known h l = ap greatest (known_heights known h l)
