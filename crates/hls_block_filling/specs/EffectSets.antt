-- The effects of items as sets of variables, and the edges between items.
use Rattle.std.specs.Prelude.{ℕ, Bool, true, false, ◌&&◌, ◌||◌, cond, [], ◌∷◌}
use Rattle.fs_model.specs.Expressions.{Assignment, Assign, ArrayWrite, Emit}
use Rattle.hls_block_filling.specs.Items.{Item, read_in}
use Rattle.fs_variable_sets.specs.Sets.{has_variable, also, also_all, sets_meet}
use Rattle.hls_block_filling.specs.declared.effects.Effects.{Effects}
use Rattle.hls_block_filling.specs.declared.effects.Edge.{Edge}
use Rattle.hls_block_filling.specs.declared.effects.Edge.TheVariants.{Apart, Weak, Strict}

-- the effects of items as sets
pub record ItemSets : Type 0 where
  pub reads : ℕ → Bool
  pub changes : ℕ → Bool
  pub assigns : ℕ → Bool
  pub writes : ℕ → Bool
  pub emits : Bool

abbrev pub sets_of : Effects → ItemSets
sets_of e = record {
  reads = has_variable e.reads;
  changes = has_variable e.changes;
  assigns = has_variable e.assigns;
  writes = has_variable e.writes;
  emits = e.emits;
}

abbrev pub none_changed : ItemSets
none_changed = record { reads = λ x. false; changes = λ x. false; assigns = λ x. false; writes = λ x. false; emits = false }

-- the sets after one assignment more
abbrev pub sets_after : Assignment ℕ → ItemSets → ItemSets
sets_after (Assign x e) s = record {
  reads = also_all (read_in e) s.reads;
  changes = also x s.changes;
  assigns = also x s.assigns;
  writes = s.writes;
  emits = s.emits;
}
sets_after (ArrayWrite x i e) s = record {
  reads = also_all (read_in e) (also_all (read_in i) s.reads);
  changes = also x s.changes;
  assigns = s.assigns;
  writes = also x s.writes;
  emits = s.emits;
}
sets_after (Emit x e) s = record {
  reads = also_all (read_in e) s.reads;
  changes = also x s.changes;
  assigns = s.assigns;
  writes = s.writes;
  emits = true;
}

abbrev pub sets_from : Item → ItemSets → ItemSets
sets_from [] s = s
sets_from (a ∷ rest) s = sets_from rest (sets_after a s)

-- the edge from an item to a later one, by their sets
abbrev pub is_strict_in : Effects → Effects → Bool
is_strict_in e f = sets_meet (has_variable e.changes) (has_variable f.reads)
    || (sets_meet (has_variable e.assigns) (has_variable f.assigns) || (e.emits && f.emits))

abbrev pub is_weak_in : Effects → Effects → Bool
is_weak_in e f = sets_meet (has_variable f.changes) (has_variable e.reads)
    || sets_meet (has_variable e.writes) (has_variable f.writes)

abbrev pub edge_between : Effects → Effects → Edge
edge_between e f = cond (is_strict_in e f) Strict (cond (is_weak_in e f) Weak Apart)
