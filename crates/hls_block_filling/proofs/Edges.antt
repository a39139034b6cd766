-- The graph of profiles is that of their items.
use Rattle.std.proofs.Common.{◌≡◌, ℕ, zero, suc, List, [], ◌∷◌, refl, sym, ◌∙◌, ap, ap₂, arith, Bool, true, false, Option, Some, None, length}
use Rattle.std.specs.Prelude.{not, ◌&&◌, ◌||◌, nat_lt, cond, slice_get}
use Rattle.std.specs.List.{slice_index_or}
use Rattle.fs_model.proofs.Booleans.{and_false, or_false}
use Rattle.fs_model.specs.SoundMachines.{assigned_in, occurs}
use Rattle.hls_block_filling.specs.Items.{Item, reads_of_item, changes, stored_in, emits, has_common_number, is_strict, is_weak}
use Rattle.hls_block_filling.specs.ItemUnits.{used_by}
use Rattle.hls_block_filling.specs.Heights.{heights}
use Rattle.hls_block_filling.specs.Filling.{graph_of}
use Rattle.hls_block_filling.proofs.Exchange.{meet_nothing}
use Rattle.hls_block_filling.specs.declared.effects.Effects.{Effects}
use Rattle.hls_block_filling.specs.declared.effects.Edge.TheVariants.{Apart, Weak, Strict}
use Rattle.hls_block_filling.specs.declared.profiles.Profile.{Profile}
use Rattle.hls_block_filling.specs.EffectSets.{ItemSets, sets_of, none_changed, sets_from, is_strict_in, is_weak_in, edge_between}
use Rattle.hls_block_filling.specs.Profiles.{strict_in, weak_in, edge_at, graph_in, IsWithinSets, AreProfiles}
use Rattle.hls_block_filling.proofs.Sets.{IsSetOf, meets_is, item_reads, item_changes, item_assigns, item_writes, item_emits}

-- sets that are those of an item
module _ (e : Effects) (item : Item) (is : sets_of e ≡ sets_from item none_changed) where
  reads_is : IsSetOf e.reads (reads_of_item item)
  reads_is i = ap (λ (s : ItemSets). s.reads i) is ∙ item_reads item none_changed i ∙ or_false (occurs i (reads_of_item item) && nat_lt i 128)

  changes_is : IsSetOf e.changes (changes item)
  changes_is i = ap (λ (s : ItemSets). s.changes i) is ∙ item_changes item none_changed i ∙ or_false (occurs i (changes item) && nat_lt i 128)

  assigns_is : IsSetOf e.assigns (assigned_in item)
  assigns_is i = ap (λ (s : ItemSets). s.assigns i) is ∙ item_assigns item none_changed i ∙ or_false (occurs i (assigned_in item) && nat_lt i 128)

  writes_is : IsSetOf e.writes (stored_in item)
  writes_is i = ap (λ (s : ItemSets). s.writes i) is ∙ item_writes item none_changed i ∙ or_false (occurs i (stored_in item) && nat_lt i 128)

  emits_is : e.emits ≡ emits item
  emits_is = ap (λ (s : ItemSets). s.emits) is ∙ item_emits item none_changed ∙ or_false (emits item)

strict_edge : (s w : Bool) → strict_in (cond s Strict (cond w Weak Apart)) ≡ s
strict_edge true w = refl
strict_edge false true = refl
strict_edge false false = refl

weak_edge : (s w : Bool) → weak_in (cond s Strict (cond w Weak Apart)) ≡ (not s && w)
weak_edge true w = refl
weak_edge false true = refl
weak_edge false false = refl

module _ (e f : Effects) (a b : Item) (is_e : sets_of e ≡ sets_from a none_changed) (is_f : sets_of f ≡ sets_from b none_changed) (in_a : IsWithinSets a)
    (in_b : IsWithinSets b) where
  strict_is : is_strict_in e f ≡ is_strict a b
  strict_is =
      ap₂ (λ x y. x || y) (meets_is e.changes f.reads (changes a) (reads_of_item b) (changes_is e a is_e) (reads_is f b is_f) in_b.reads)
      (ap₂ (λ x y. x || y) (meets_is e.assigns f.assigns (assigned_in a) (assigned_in b) (assigns_is e a is_e) (assigns_is f b is_f) in_b.assigns)
      (ap₂ (λ x y. x && y) (emits_is e a is_e) (emits_is f b is_f)))

  weak_is : is_weak_in e f ≡ (has_common_number (changes b) (reads_of_item a) || has_common_number (stored_in a) (stored_in b))
  weak_is =
      ap₂ (λ x y. x || y) (meets_is f.changes e.reads (changes b) (reads_of_item a) (changes_is f b is_f) (reads_is e a is_e) in_a.reads)
      (meets_is e.writes f.writes (stored_in a) (stored_in b) (writes_is e a is_e) (writes_is f b is_f) in_b.writes)

  pub strict_between : strict_in (edge_between e f) ≡ is_strict a b
  strict_between = strict_edge (is_strict_in e f) (is_weak_in e f) ∙ strict_is

  pub weak_between : weak_in (edge_between e f) ≡ is_weak a b
  weak_between = weak_edge (is_strict_in e f) (is_weak_in e f) ∙ ap₂ (λ x y. not x && y) strict_is weak_is

-- ---- items that are not there

none_strict_first : (b : Item) → is_strict [] b ≡ false
none_strict_first b = ap₂ (λ x y. x || (y || false)) (meet_nothing (reads_of_item b)) (meet_nothing (assigned_in b))

none_strict_second : (a : Item) → is_strict a [] ≡ false
none_strict_second a = and_false (emits a)

none_weak_first : (b : Item) → is_weak [] b ≡ false
none_weak_first b = ap₂ (λ x y. not x && (false || y)) (none_strict_first b) (meet_nothing (stored_in b))

none_weak_second : (a : Item) → is_weak a [] ≡ false
none_weak_second a = ap₂ (λ x y. not x && (y || false)) (none_strict_second a) (meet_nothing (reads_of_item a))

-- past the end of one of two lists of the same length
past_end : {X Y : Type 0} (xs : List X) (ys : List Y) (i : ℕ) (d : Y) → length xs ≡ length ys → slice_get xs i ≡ None → slice_index_or ys i d ≡ d
past_end xs [] i d h e = refl
past_end [] (y ∷ ys) i d h e = absurd (omega (arith, h))
past_end (x ∷ xs) (y ∷ ys) zero d h e = absurd (cc e)
past_end (x ∷ xs) (y ∷ ys) (suc i) d h e = past_end xs ys i d (omega (arith, h)) e

pub length_heights : (items : List Item) → length (heights items) ≡ length items
length_heights [] = refl
length_heights (a ∷ items) = ap suc (length_heights items)

module _ (table : List Profile) (items : List Item) (are : AreProfiles table items) where
  strict_by : (i j : ℕ) (o p : Option Profile) → slice_get table i ≡ o → slice_get table j ≡ p
      → strict_in (edge_at table i j) ≡ is_strict (slice_index_or items i []) (slice_index_or items j [])
  strict_by i j None p e f = rw e (rw (past_end table items i [] are.count e) (sym (none_strict_first (slice_index_or items j []))))
  strict_by i j (Some x) None e f = rw e (rw f (rw (past_end table items j [] are.count f) (sym (none_strict_second (slice_index_or items i [])))))
  strict_by i j (Some x) (Some y) e f =
      rw e
      (rw f
      (strict_between x.effects y.effects (slice_index_or items i []) (slice_index_or items j []) (are.effects i x e) (are.effects j y f) (are.within i x e)
      (are.within j y f)))

  weak_by : (i j : ℕ) (o p : Option Profile) → slice_get table i ≡ o → slice_get table j ≡ p
      → weak_in (edge_at table i j) ≡ is_weak (slice_index_or items i []) (slice_index_or items j [])
  weak_by i j None p e f = rw e (rw (past_end table items i [] are.count e) (sym (none_weak_first (slice_index_or items j []))))
  weak_by i j (Some x) None e f = rw e (rw f (rw (past_end table items j [] are.count f) (sym (none_weak_second (slice_index_or items i [])))))
  weak_by i j (Some x) (Some y) e f =
      rw e
      (rw f
      (weak_between x.effects y.effects (slice_index_or items i []) (slice_index_or items j []) (are.effects i x e) (are.effects j y f) (are.within i x e)
      (are.within j y f)))

  height_by : (i : ℕ) (o : Option Profile) → slice_get table i ≡ o → (graph_in table).height i ≡ slice_index_or (heights items) i 0
  height_by i None e = rw e (sym (past_end table (heights items) i 0 (are.count ∙ sym (length_heights items)) e))
  height_by i (Some x) e = rw e (are.height i x e)

  uses_by : (i : ℕ) (o : Option Profile) → slice_get table i ≡ o → (graph_in table).uses i ≡ used_by (slice_index_or items i [])
  uses_by i None e = rw e (rw (past_end table items i [] are.count e) refl)
  uses_by i (Some x) e = rw e (are.uses i x e)

  pub same_graph : graph_in table ≡ graph_of items
  same_graph = λ j. record {
    count = are.count j;
    strict = λ x y. strict_by x y (slice_get table x) (slice_get table y) refl refl j;
    weak = λ x y. weak_by x y (slice_get table x) (slice_get table y) refl refl j;
    height = λ x. height_by x (slice_get table x) refl j;
    uses = λ x. uses_by x (slice_get table x) refl j;
  }
