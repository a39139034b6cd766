-- The variables of items fit into sets, and what items use is counted exactly.
use Rattle.std.proofs.Common.{◌≡◌, ℕ, ◌+◌, ◌^◌, ◌<◌, ◌≤◌, List, [], ◌∷◌, ◌++◌, length, refl, sym, ◌∙◌, subst, arith, Option, Some, None, Bool, true}
use Rattle.std.specs.Prelude.{nat_lt, slice_get}
use Rattle.std.specs.List.{list_all, slice_index_or}
use Rattle.std.proofs.lemmas.Bool.Decides.{nat_tests}
use Rattle.std.proofs.lemmas.List.{get_or-map, length-map}
use Rattle.std.proofs.lemmas.List.Folds.{list_all-append}
use Rattle.std.proofs.lemmas.Option.{slice_get-get_or, slice_get_within}
use Rattle.std.proofs.lemmas.Bool.{and_from}
use Rattle.fs_model.proofs.Booleans.{and_first, and_second}
use Rattle.fs_model.proofs.Quantifiers.{list_all_weaker}
use Rattle.fs_model.specs.declared.parts.Sort.{Sort}
use Rattle.fs_model.specs.declared.parts.VarInfo.{VarInfo}
use Rattle.fs_model.specs.Runs.{is_scalar, is_array}
use Rattle.fs_model.specs.Expressions.{Expression, Number, Variable, Read, Sum, Difference, Product, Quotient, Remainder, Negative, Assignment, Assign}
use Rattle.fs_model.specs.Expressions.{ArrayWrite, Emit}
use Rattle.fs_model.specs.Machines.{Fsmd, transitions_of}
use Rattle.fs_model.specs.Trees.{branches_of}
use Rattle.fs_model.specs.SoundMachines.{IsSound, has_sort, scalar_at, array_at, scalars_in, arrays_in, scalars_in_assignment, arrays_in_assignment}
use Rattle.fs_model.specs.SoundMachines.{assigned_in}
use Rattle.fs_ast.specs.Branches.{is_sound_assignment}
use Rattle.fs_ast.proofs.Lifted.{branch_sound}
use Rattle.fs_cut.specs.Paths.{branch_at}
use Rattle.fs_cut.proofs.Branches.{some_branch, no_branch}
use Rattle.hls_unit_counts.specs.declared.units.Unit.{Unit as Kind}
use Rattle.hls_block_filling.specs.Items.{Item, read_in, variables_read_by, reads_of_item, stored_in}
use Rattle.hls_block_filling.specs.BasicBlocks.{basic_block_at, is_first_of_block, item_of, items_at}
use Rattle.hls_block_filling.proofs.Trails.{block_in}
use Rattle.hls_block_filling.specs.ItemUnits.{Units, none_used, used_by}
use Rattle.hls_block_filling.specs.Filling.{graph_of, EachItemFits}
use Rattle.hls_block_filling.proofs.Placings.{suffices}
use Rattle.hls_block_filling.specs.Schedules.{IsWithin}
use Rattle.hls_block_filling.proofs.Schedules.{each_fits}
use Rattle.hls_block_filling.specs.declared.effects.Effects.{Effects}
use Rattle.hls_block_filling.specs.declared.uses.Uses.{Uses}
use Rattle.hls_block_filling.specs.Profiles.{capped_count, IsWithinSets}
use Rattle.hls_block_filling.specs.Plans.{AreCountedOf}
use Rattle.hls_block_filling.specs.Counted.{AreCounts, AreCounted}

-- ---- what an item reads, assigns and writes is among the scalars and the arrays that it uses
module _ (p : ℕ → Bool) where
  front : (a b : List ℕ) → list_all p (a ++ b) ≡ true → list_all p a ≡ true
  front a b h = and_first (list_all p a) (list_all p b) (sym (list_all-append p a b) ∙ h)

  back : (a b : List ℕ) → list_all p (a ++ b) ≡ true → list_all p b ≡ true
  back a b h = and_second (list_all p a) (list_all p b) (sym (list_all-append p a b) ∙ h)

  both : (a b : List ℕ) → list_all p a ≡ true → list_all p b ≡ true → list_all p (a ++ b) ≡ true
  both a b h i = list_all-append p a b ∙ and_from (list_all p a) (list_all p b) h i

  two : (a b : Expression ℕ) → (list_all p (scalars_in a) ≡ true → list_all p (arrays_in a) ≡ true → list_all p (read_in a) ≡ true)
      → (list_all p (scalars_in b) ≡ true → list_all p (arrays_in b) ≡ true → list_all p (read_in b) ≡ true)
      → list_all p (scalars_in a ++ scalars_in b) ≡ true → list_all p (arrays_in a ++ arrays_in b) ≡ true → list_all p (read_in a ++ read_in b) ≡ true
  two a b v w h i =
      both (read_in a) (read_in b) (v (front (scalars_in a) (scalars_in b) h) (front (arrays_in a) (arrays_in b) i))
      (w (back (scalars_in a) (scalars_in b) h) (back (arrays_in a) (arrays_in b) i))

  expression_passes : (t : Expression ℕ) → list_all p (scalars_in t) ≡ true → list_all p (arrays_in t) ≡ true → list_all p (read_in t) ≡ true
  expression_passes (Number n) h i = refl
  expression_passes (Variable x) h i = h
  expression_passes (Read x e) h i = and_from (p x) (list_all p (read_in e)) (and_first (p x) (list_all p (arrays_in e)) i)
      (expression_passes e h (and_second (p x) (list_all p (arrays_in e)) i))
  expression_passes (Sum a b) h i = two a b (expression_passes a) (expression_passes b) h i
  expression_passes (Difference a b) h i = two a b (expression_passes a) (expression_passes b) h i
  expression_passes (Product a b) h i = two a b (expression_passes a) (expression_passes b) h i
  expression_passes (Quotient a b) h i = two a b (expression_passes a) (expression_passes b) h i
  expression_passes (Remainder a b) h i = two a b (expression_passes a) (expression_passes b) h i
  expression_passes (Negative a) h i = expression_passes a h i

  read_passes : (a : Assignment ℕ) → list_all p (scalars_in_assignment a) ≡ true → list_all p (arrays_in_assignment a) ≡ true
      → list_all p (variables_read_by a) ≡ true
  read_passes (Assign x e) h i = expression_passes e (and_second (p x) (list_all p (scalars_in e)) h) i
  read_passes (ArrayWrite x j e) h i = two j e (expression_passes j) (expression_passes e) h (and_second (p x) (list_all p (arrays_in j ++ arrays_in e)) i)
  read_passes (Emit x e) h i = expression_passes e h i

  abbrev scalars_pass : Assignment ℕ → Bool
  scalars_pass a = list_all p (scalars_in_assignment a)

  abbrev arrays_pass : Assignment ℕ → Bool
  arrays_pass a = list_all p (arrays_in_assignment a)

  reads_pass : (item : Item) → list_all scalars_pass item ≡ true → list_all arrays_pass item ≡ true → list_all p (reads_of_item item) ≡ true
  reads_pass [] h i = refl
  reads_pass (a ∷ rest) h i =
      both (variables_read_by a) (reads_of_item rest)
      (read_passes a (and_first (scalars_pass a) (list_all scalars_pass rest) h) (and_first (arrays_pass a) (list_all arrays_pass rest) i))
      (reads_pass rest (and_second (scalars_pass a) (list_all scalars_pass rest) h) (and_second (arrays_pass a) (list_all arrays_pass rest) i))

  assigned_pass : (item : Item) → list_all scalars_pass item ≡ true → list_all p (assigned_in item) ≡ true
  assigned_pass [] h = refl
  assigned_pass (Assign x e ∷ rest) h =
      and_from (p x) (list_all p (assigned_in rest))
      (and_first (p x) (list_all p (scalars_in e)) (and_first (scalars_pass (Assign x e)) (list_all scalars_pass rest) h))
      (assigned_pass rest (and_second (scalars_pass (Assign x e)) (list_all scalars_pass rest) h))
  assigned_pass (ArrayWrite x i e ∷ rest) h = assigned_pass rest (and_second (scalars_pass (ArrayWrite x i e)) (list_all scalars_pass rest) h)
  assigned_pass (Emit x e ∷ rest) h = assigned_pass rest (and_second (scalars_pass (Emit x e)) (list_all scalars_pass rest) h)

  stored_pass : (item : Item) → list_all arrays_pass item ≡ true → list_all p (stored_in item) ≡ true
  stored_pass [] h = refl
  stored_pass (Assign x e ∷ rest) h = stored_pass rest (and_second (arrays_pass (Assign x e)) (list_all arrays_pass rest) h)
  stored_pass (ArrayWrite x i e ∷ rest) h =
      and_from (p x) (list_all p (stored_in rest))
      (and_first (p x) (list_all p (arrays_in i ++ arrays_in e)) (and_first (arrays_pass (ArrayWrite x i e)) (list_all arrays_pass rest) h))
      (stored_pass rest (and_second (arrays_pass (ArrayWrite x i e)) (list_all arrays_pass rest) h))
  stored_pass (Emit x e ∷ rest) h = stored_pass rest (and_second (arrays_pass (Emit x e)) (list_all arrays_pass rest) h)

-- ---- variables that there are
abbrev low : ℕ → Bool
low x = nat_lt x 128

sort_low : (test : Sort → Bool) (vs : List VarInfo) (x : ℕ) (o : Option VarInfo) → length vs ≤ 128 → slice_get vs x ≡ o → has_sort test o ≡ true → low x ≡ true
sort_low test vs x None few e h = absurd (cc h)
sort_low test vs x (Some v) few e h = let i : x < 128 = omega (arith, slice_get_within vs x v e, few) in grind (arith, nat_tests)

module _ (vs : List VarInfo) (few : length vs ≤ 128) where
  scalars_low : (a : Assignment ℕ) → is_sound_assignment vs a ≡ true → scalars_pass low a ≡ true
  scalars_low a h = list_all_weaker (scalar_at vs) low (λ x. sort_low is_scalar vs x (slice_get vs x) few refl) (scalars_in_assignment a)
      (and_first (list_all (scalar_at vs) (scalars_in_assignment a)) _ h)

  arrays_low : (a : Assignment ℕ) → is_sound_assignment vs a ≡ true → arrays_pass low a ≡ true
  arrays_low a h =
      list_all_weaker (array_at vs) low (λ x. sort_low is_array vs x (slice_get vs x) few refl) (arrays_in_assignment a)
      (and_first (list_all (array_at vs) (arrays_in_assignment a)) _ (and_second (list_all (scalar_at vs) (scalars_in_assignment a)) _ h))

  within_sets : (item : Item) → list_all (is_sound_assignment vs) item ≡ true → IsWithinSets item
  within_sets item h =
      let s = list_all_weaker (is_sound_assignment vs) (scalars_pass low) scalars_low item h in
      let a = list_all_weaker (is_sound_assignment vs) (arrays_pass low) arrays_low item h in
      record { reads = reads_pass low item s a; assigns = assigned_pass low item s; writes = stored_pass low item a }

-- ---- the items of a block
count_is : (n most : ℕ) → n ≤ most → most < 2 ^ 64 → capped_count n ≡ n
count_is n most h i = omega (arith, h, i)

module _ (m : Fsmd) (sound : IsSound m) where
  item_within : (q : ℕ) → q < length m.states → IsWithinSets (item_of m q)
  item_within q h =
      let bs = branches_of (transitions_of m q) in
      let b = branch_sound m sound q 0 (branch_at m q 0) (slice_get-get_or bs 0 no_branch (some_branch m sound q h)) in
      within_sets m.variables sound.few_variables (item_of m q) b.assignments

  items_within : (q i : ℕ) → q < length m.states → i < length (items_at m q) → IsWithinSets (slice_index_or (items_at m q) i [])
  items_within q i h l =
      let k : i < length (basic_block_at m q) = omega (arith, l, length-map (basic_block_at m q) (item_of m)) in
      let r = slice_index_or (basic_block_at m q) i 0 in
      subst (λ (item : Item). IsWithinSets item) (sym (get_or-map (item_of m) (basic_block_at m q) i 0 [] k))
      (item_within r (block_in m sound (length m.states) i q r h (slice_get-get_or (basic_block_at m q) i 0 k)))

  module _ (units : Units) (within : IsWithin units m) (counts : AreCounts units) (q : ℕ) (h : q < length m.states) (e : is_first_of_block m q ≡ true) where
    use_is : (i : ℕ) (kind : Kind) → i < length (items_at m q)
        → capped_count (used_by (slice_index_or (items_at m q) i []) kind) ≡ used_by (slice_index_or (items_at m q) i []) kind
    use_is i kind l =
        let each : EachItemFits (graph_of (items_at m q)) units = each_fits m units sound within q h e in
        let few : 0 + used_by (slice_index_or (items_at m q) i []) kind ≤ units kind =
        suffices units none_used (used_by (slice_index_or (items_at m q) i [])) (each i l) kind in
        count_is (used_by (slice_index_or (items_at m q) i []) kind) (units kind) (omega (arith, few)) (counts kind)

    pub are_of : (es : List Effects) (us : List Uses) → AreCounted es us (items_at m q) → AreCountedOf es us (items_at m q)
    are_of es us c = record {
      count = c.count;
      within = λ i l. items_within q i h l;
      effects = c.effects;
      uses = λ i u g j kind. (c.uses i u kind g ∙ use_is i kind (omega (arith, slice_get_within us i u g, c.same))) j;
    }
