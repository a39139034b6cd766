-- The sets of an item hold what they should.
use Rattle.std.proofs.Common.{◌≡◌, ℕ, ◌<◌, List, [], ◌∷◌, ◌++◌, refl, sym, ◌∙◌, ap, subst, arith, Bool, true, false}
use Rattle.std.specs.Prelude.{◌==◌, nat_lt, ◌&&◌, ◌||◌}
use Rattle.std.specs.List.{list_all}
use Rattle.std.proofs.lemmas.Bool.{both_ways, and_parts, and_from, false_from_ne_true}
use Rattle.std.proofs.lemmas.Bool.Decides.{nat_tests}
use Rattle.fs_model.proofs.Booleans.{or_true}
use Rattle.fs_model.specs.Expressions.{Assign, ArrayWrite, Emit}
use Rattle.fs_model.specs.SoundMachines.{assigned_in, occurs}
use Rattle.hls_block_filling.specs.Items.{Item, read_in, reads_of_item, changes, stored_in, emits, has_common_number}
use Rattle.fs_variable_sets.specs.declared.VariableSet.{VariableSet}
use Rattle.fs_variable_sets.specs.Sets.{has_variable, also_all, sets_meet}
use Rattle.fs_variable_sets.proofs.Members.{in_all, some_met, met_by}
use Rattle.hls_block_filling.specs.EffectSets.{ItemSets, sets_after, sets_from}

-- ---- what is in the sets
mix : (a b l m : Bool) → ((b && l) || ((a && l) || m)) ≡ (((a || b) && l) || m)
mix true true true m = refl
mix true true false m = refl
mix true false true m = refl
mix true false false m = refl
mix false true true m = refl
mix false true false m = refl
mix false false true m = refl
mix false false false m = refl

regroup : (a b c : Bool) → (a || (b || c)) ≡ ((a || b) || c)
regroup true b c = refl
regroup false b c = refl

pub occurs_both : (i : ℕ) (xs ys : List ℕ) → occurs i (xs ++ ys) ≡ (occurs i xs || occurs i ys)
occurs_both i [] ys = refl
occurs_both i (x ∷ xs) ys = ap (λ b. (x == i) || b) (occurs_both i xs ys) ∙ regroup (x == i) (occurs i xs) (occurs i ys)

-- in a set: of these, and among those that have room
abbrev InSet : ℕ → List ℕ → Bool → Bool
InSet i xs m = (occurs i xs && nat_lt i 128) || m

two : (i : ℕ) (xs ys : List ℕ) (m : Bool) → InSet i ys (InSet i xs m) ≡ InSet i (xs ++ ys) m
two i xs ys m = mix (occurs i xs) (occurs i ys) (nat_lt i 128) m ∙ ap (λ b. (b && nat_lt i 128) || m) (sym (occurs_both i xs ys))

-- first these, then those
both : (i : ℕ) (xs ys : List ℕ) (members : ℕ → Bool) → InSet i ys (also_all xs members i) ≡ InSet i (xs ++ ys) (members i)
both i xs ys members = ap (InSet i ys) (in_all xs members i) ∙ two i xs ys (members i)

pub item_reads : (item : Item) (s : ItemSets) (i : ℕ) → (sets_from item s).reads i ≡ InSet i (reads_of_item item) (s.reads i)
item_reads [] s i = refl
item_reads (Assign x e ∷ rest) s i = item_reads rest (sets_after (Assign x e) s) i ∙ both i (read_in e) (reads_of_item rest) s.reads
item_reads (ArrayWrite x k e ∷ rest) s i =
    item_reads rest (sets_after (ArrayWrite x k e) s) i
    ∙ ap (InSet i (reads_of_item rest)) (in_all (read_in e) (also_all (read_in k) s.reads) i ∙ both i (read_in k) (read_in e) s.reads)
    ∙ two i (read_in k ++ read_in e) (reads_of_item rest) (s.reads i)
item_reads (Emit x e ∷ rest) s i = item_reads rest (sets_after (Emit x e) s) i ∙ both i (read_in e) (reads_of_item rest) s.reads

pub item_changes : (item : Item) (s : ItemSets) (i : ℕ) → (sets_from item s).changes i ≡ InSet i (changes item) (s.changes i)
item_changes [] s i = refl
item_changes (Assign x e ∷ rest) s i = item_changes rest (sets_after (Assign x e) s) i ∙ both i (x ∷ []) (changes rest) s.changes
item_changes (ArrayWrite x k e ∷ rest) s i = item_changes rest (sets_after (ArrayWrite x k e) s) i ∙ both i (x ∷ []) (changes rest) s.changes
item_changes (Emit x e ∷ rest) s i = item_changes rest (sets_after (Emit x e) s) i ∙ both i (x ∷ []) (changes rest) s.changes

pub item_assigns : (item : Item) (s : ItemSets) (i : ℕ) → (sets_from item s).assigns i ≡ InSet i (assigned_in item) (s.assigns i)
item_assigns [] s i = refl
item_assigns (Assign x e ∷ rest) s i = item_assigns rest (sets_after (Assign x e) s) i ∙ both i (x ∷ []) (assigned_in rest) s.assigns
item_assigns (ArrayWrite x k e ∷ rest) s i = item_assigns rest (sets_after (ArrayWrite x k e) s) i
item_assigns (Emit x e ∷ rest) s i = item_assigns rest (sets_after (Emit x e) s) i

pub item_writes : (item : Item) (s : ItemSets) (i : ℕ) → (sets_from item s).writes i ≡ InSet i (stored_in item) (s.writes i)
item_writes [] s i = refl
item_writes (Assign x e ∷ rest) s i = item_writes rest (sets_after (Assign x e) s) i
item_writes (ArrayWrite x k e ∷ rest) s i = item_writes rest (sets_after (ArrayWrite x k e) s) i ∙ both i (x ∷ []) (stored_in rest) s.writes
item_writes (Emit x e ∷ rest) s i = item_writes rest (sets_after (Emit x e) s) i

pub item_emits : (item : Item) (s : ItemSets) → (sets_from item s).emits ≡ (emits item || s.emits)
item_emits [] s = refl
item_emits (Assign x e ∷ rest) s = item_emits rest (sets_after (Assign x e) s)
item_emits (ArrayWrite x k e ∷ rest) s = item_emits rest (sets_after (ArrayWrite x k e) s)
item_emits (Emit x e ∷ rest) s = item_emits rest (sets_after (Emit x e) s) ∙ or_true (emits rest)

-- ---- whether sets meet
-- a set of these variables
abbrev pub IsSetOf : VariableSet → List ℕ → Type 0
IsSetOf set xs = (i : ℕ) → has_variable set i ≡ (occurs i xs && nat_lt i 128)

abbrev pub all_in : List ℕ → Bool
all_in xs = list_all (λ x. nat_lt x 128) xs

record Common (xs ys : List ℕ) : Type 0 where
  variable : ℕ
  in_first : occurs variable xs ≡ true
  in_second : occurs variable ys ≡ true

common_step : (y : ℕ) (xs ys : List ℕ) (t : Bool) → occurs y xs ≡ t → (t || has_common_number xs ys) ≡ true → (has_common_number xs ys ≡ true → Common xs ys)
    → Common xs (y ∷ ys)
common_step y xs ys true e h w = record { variable = y; in_first = e; in_second = (let d : (y == y) ≡ true = grind (arith, nat_tests) in rw d refl) }
common_step y xs ys false e h w = let c = w h in record { variable = c.variable; in_first = c.in_first; in_second = rw c.in_second (or_true (y == c.variable)) }

common : (xs ys : List ℕ) → has_common_number xs ys ≡ true → Common xs ys
common xs [] h = absurd (cc h)
common xs (y ∷ ys) h = common_step y xs ys (occurs y xs) refl h (common xs ys)

room_step : (x y : ℕ) (ys : List ℕ) (t : Bool) → (y == x) ≡ t → (t || occurs x ys) ≡ true → (nat_lt y 128 && all_in ys) ≡ true
    → (occurs x ys ≡ true → all_in ys ≡ true → nat_lt x 128 ≡ true) → nat_lt x 128 ≡ true
room_step x y ys true e h a w = let c : y ≡ x = grind (arith, nat_tests) in subst (λ z. nat_lt z 128 ≡ true) c (and_parts (nat_lt y 128) (all_in ys) a).0
room_step x y ys false e h a w = w h (and_parts (nat_lt y 128) (all_in ys) a).1

has_room : (x : ℕ) (ys : List ℕ) → occurs x ys ≡ true → all_in ys ≡ true → nat_lt x 128 ≡ true
has_room x [] h a = absurd (cc h)
has_room x (y ∷ ys) h a = room_step x y ys (y == x) refl h a (has_room x ys)

meet_step : (y z : ℕ) (xs zs : List ℕ) (t : Bool) → (z == y) ≡ t → occurs y xs ≡ true → (t || occurs y zs) ≡ true
    → (occurs y zs ≡ true → has_common_number xs zs ≡ true)
    → (occurs z xs || has_common_number xs zs) ≡ true
meet_step y z xs zs true e p q w = let c : z ≡ y = grind (arith, nat_tests) in rw c (rw p refl)
meet_step y z xs zs false e p q w = let m : has_common_number xs zs ≡ true = w q in rw m (or_true (occurs z xs))

meet_by : (y : ℕ) (xs ys : List ℕ) → occurs y xs ≡ true → occurs y ys ≡ true → has_common_number xs ys ≡ true
meet_by y xs [] p q = absurd (cc q)
meet_by y xs (z ∷ zs) p q = meet_step y z xs zs (z == y) refl p q (meet_by y xs zs p)

module _ (a b : VariableSet) (xs ys : List ℕ) (first : IsSetOf a xs) (second : IsSetOf b ys) where
  no_common : has_common_number xs ys ≡ false → sets_meet (has_variable a) (has_variable b) ≡ false
  no_common h = false_from_ne_true (sets_meet (has_variable a) (has_variable b)) (λ e.
      let c = some_met (has_variable a) (has_variable b) e in
      let two = and_parts (has_variable a c.0) (has_variable b c.0) c.1 in
      let x = and_parts (occurs c.0 xs) (nat_lt c.0 128) (sym (first c.0) ∙ two.0) in
      let y = and_parts (occurs c.0 ys) (nat_lt c.0 128) (sym (second c.0) ∙ two.1) in
      both_ways (has_common_number xs ys) h (meet_by c.0 xs ys x.0 y.0))

  is_common : all_in ys ≡ true → has_common_number xs ys ≡ true → sets_meet (has_variable a) (has_variable b) ≡ true
  is_common r h =
      let c = common xs ys h in
      let room : nat_lt c.variable 128 ≡ true = has_room c.variable ys c.in_second r in
      let low : c.variable < 128 = grind (arith, nat_tests, room) in
      let x : has_variable a c.variable ≡ true = first c.variable ∙ and_from (occurs c.variable xs) (nat_lt c.variable 128) c.in_first room in
      let y : has_variable b c.variable ≡ true = second c.variable ∙ and_from (occurs c.variable ys) (nat_lt c.variable 128) c.in_second room in
      met_by (has_variable a) (has_variable b) c.variable low (and_from (has_variable a c.variable) (has_variable b c.variable) x y)

  meets_by : (t : Bool) → has_common_number xs ys ≡ t → all_in ys ≡ true → sets_meet (has_variable a) (has_variable b) ≡ t
  meets_by true h r = is_common r h
  meets_by false h r = no_common h

  pub meets_is : all_in ys ≡ true → sets_meet (has_variable a) (has_variable b) ≡ has_common_number xs ys
  meets_is r = meets_by (has_common_number xs ys) refl r
