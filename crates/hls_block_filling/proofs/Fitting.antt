-- A machine is within the units where none of its branches uses more.
use Rattle.std.proofs.Common.{◌≡◌, ℕ, ◌+◌, ◌-◌, ◌<◌, ◌≤◌, List, [], ◌∷◌, map, length, refl, sym, ◌∙◌, ap, arith, Option, Some, None, Bool, true, false}
use Rattle.std.specs.Prelude.{◌≢◌, not, ◌&&◌, nat_lt, cond, slice_get, option_map}
use Rattle.std.specs.List.{list_all, slice_index_or, range_with_len}
use Rattle.std.specs.Option.{is_none, option_or}
use Rattle.std.proofs.lemmas.Bool.Decides.{nat_tests}
use Rattle.std.proofs.lemmas.List.{get_or_past}
use Rattle.std.proofs.lemmas.List.Sums.{AllPass-from_list_all, list_all-from_AllPass}
use Rattle.std.proofs.lemmas.Option.{slice_get-get_or, slice_get_within, get_or_from_slice_get}
use Rattle.fs_model.proofs.Options.{is_none-map}
use Rattle.fs_model.specs.Expressions.{Transition}
use Rattle.fs_model.specs.Machines.{Fsmd, transitions_of}
use Rattle.fs_model.specs.Trees.{Branch, branches_of}
use Rattle.fs_model.specs.SoundMachines.{IsSound}
use Rattle.fs_cut.proofs.Loops.{range_map_step}
use Rattle.hls_unit_counts.specs.declared.units.Unit.{Unit as Kind}
use Rattle.hls_unit_counts.specs.declared.units.Unit.TheVariants.{Add, Mul, Div, Mem}
use Rattle.hls_block_filling.specs.Items.{Item}
use Rattle.hls_block_filling.specs.BasicBlocks.{all_states}
use Rattle.hls_block_filling.specs.ItemUnits.{Units, none_used, used_by, suffice}
use Rattle.hls_block_filling.proofs.Fills.{all_range, in_all}
use Rattle.hls_block_filling.specs.Schedules.{IsWithin}
use Rattle.hls_block_filling.specs.Over.{first_of, over_of, over_among, over_at, over_in}
use Rattle.hls_block_filling.proofs.EachLeaf.{branches_are}

-- ---- the first of some
none_or : {A : Type 0} (o rest : Option A) → is_none (option_or o rest) ≡ (is_none o && is_none rest)
none_or None rest = refl
none_or (Some x) rest = refl

none_first : {A B : Type 0} (f : A → Option B) (xs : List A) → is_none (first_of (map f xs)) ≡ list_all (λ x. is_none (f x)) xs
none_first f [] = refl
none_first f (x ∷ xs) = none_or (f x) (first_of (map f xs)) ∙ ap (λ b. is_none (f x) && b) (none_first f xs)

is_no : {A : Type 0} (o : Option A) → is_none o ≡ true → o ≡ None
is_no None e = refl
is_no (Some x) e = absurd (cc e)

pub none_unless : {A : Type 0} (o : Option A) → ((x : A) → o ≢ Some x) → o ≡ None
none_unless None h = refl
none_unless (Some x) h = absurd (h x refl)

-- a state that uses no more is not the first
pub none_here : (m : Fsmd) (units : Units) (k n : ℕ) → k < n → over_among units (branches_of (transitions_of m k)) ≡ None
    → first_of (map (over_at units m) (range_with_len k (n - k))) ≡ first_of (map (over_at units m) (range_with_len (k + 1) (n - (k + 1))))
none_here m units k n h e =
    let rest = first_of (map (over_at units m) (range_with_len (k + 1) (n - (k + 1)))) in
    ap first_of (range_map_step (over_at units m) k n h) ∙ ap (λ (o : Option Kind). option_or (option_map (λ kind. (k, kind)) o) rest) e

-- ---- an item
pub of_each : (P : Kind → Type 0) → P Add → P Mul → P Div → P Mem → (kind : Kind) → P kind
of_each P a b c d Add = a
of_each P a b c d Mul = b
of_each P a b c d Div = c
of_each P a b c d Mem = d

none_of_four : (a b c d : Bool) → is_none {T = Kind} (cond a (Some Add) (cond b (Some Mul) (cond c (Some Div) (cond d (Some Mem) None))))
    ≡ (not a && not b && not c && not d)
none_of_four true b c d = refl
none_of_four false true c d = refl
none_of_four false false true d = refl
none_of_four false false false true = refl
none_of_four false false false false = refl

four_same : (units : Units) (a b c d e f g h : ℕ) → a ≡ e → b ≡ f → c ≡ g → d ≡ h
    → (not (nat_lt (units Add) a) && not (nat_lt (units Mul) b) && not (nat_lt (units Div) c) && not (nat_lt (units Mem) d))
    ≡ (not (nat_lt (units Add) e) && not (nat_lt (units Mul) f) && not (nat_lt (units Div) g) && not (nat_lt (units Mem) h))
four_same units a b c d e f g h p q r s = λ i. not (nat_lt (units Add) (p i)) && not (nat_lt (units Mul) (q i)) && not (nat_lt (units Div) (r i))
    && not (nat_lt (units Mem) (s i))

item_fits : (units : Units) (item : Item) → is_none (over_of units item) ≡ suffice units none_used (used_by item)
item_fits units item =
    let used = used_by item in
    let none : (kind : Kind) → used_by item kind ≡ 0 + used_by item kind = λ kind. omega arith in
    none_of_four (nat_lt (units Add) (used Add)) (nat_lt (units Mul) (used Mul)) (nat_lt (units Div) (used Div)) (nat_lt (units Mem) (used Mem))
    ∙ four_same units (used Add) (used Mul) (used Div) (used Mem) (0 + used Add) (0 + used Mul) (0 + used Div) (0 + used Mem) (none Add) (none Mul)
    (none Div) (none Mem)

-- ---- a machine
module _ (m : Fsmd) (units : Units) (sound : IsSound m) where
  abbrev fits : Transition ℕ ℕ → Bool
  fits l = suffice units none_used (used_by l.assignments)

  state_fits : (q : ℕ) → q < length m.states → is_none (over_at units m q) ≡ list_all fits (transitions_of m q)
  state_fits q h =
      let bs = branches_of (transitions_of m q) in
      let same : (λ (b : Branch). is_none (over_of units b.assignments)) ≡ (λ (b : Branch). suffice units none_used (used_by b.assignments)) =
      λ j b. item_fits units b.assignments j in
      is_none-map (λ kind. (q, kind)) (over_among units bs)
      ∙ none_first (λ (b : Branch). over_of units b.assignments) bs
      ∙ ap (λ (test : Branch → Bool). list_all test bs) same
      ∙ branches_are (λ item. suffice units none_used (used_by item)) (transitions_of m q) (sound.open_last q h)

  all_fit : is_none (over_in units m) ≡ list_all (λ q. is_none (over_at units m q)) (all_states m)
  all_fit = none_first (over_at units m) (all_states m)

  pub none_over : IsWithin units m → over_in units m ≡ None
  none_over within =
      is_no (over_in units m)
      (all_fit
      ∙ all_range (λ q. is_none (over_at units m q)) (length m.states) 0
      (λ q p h. (
      let ls = transitions_of m q in
      state_fits q (omega (arith, h)) ∙ list_all-from_AllPass fits ls (λ k d i. within q k (slice_index_or ls k d) (slice_get-get_or ls k d i)))))

  no_transition : (q k : ℕ) (l : Transition ℕ ℕ) → length m.states ≤ q → slice_get (transitions_of m q) k ≡ Some l → ⊥
  no_transition q k l h e =
      let past : transitions_of m q ≡ [] = ap (λ s. s.transitions) (get_or_past m.states q (record { name = []; transitions = [] }) h) in
      cc (ap (λ ls. slice_get ls k) (sym past) ∙ e)

  within_step : (q k : ℕ) (l : Transition ℕ ℕ) (t : Bool) → nat_lt q (length m.states) ≡ t → over_in units m ≡ None → slice_get (transitions_of m q) k ≡ Some l
      → fits l ≡ true
  within_step q k l false h e g = absurd (no_transition q k l (let i : length m.states ≤ q = grind (arith, nat_tests) in i) g)
  within_step q k l true h e g =
      let ls = transitions_of m q in
      let i : q < length m.states = grind (arith, nat_tests) in
      let all : list_all (λ q. is_none (over_at units m q)) (all_states m) ≡ true = sym all_fit ∙ ap is_none e in
      let here : list_all fits ls ≡ true = sym (state_fits q i)
      ∙ in_all (λ q. is_none (over_at units m q)) (length m.states) 0 q all (omega arith) (omega (arith, i)) in
      ap fits (sym (get_or_from_slice_get ls k l l g)) ∙ AllPass-from_list_all fits ls here k l (slice_get_within ls k l g)

  pub within_units : over_in units m ≡ None → IsWithin units m
  within_units e q k l g = within_step q k l (nat_lt q (length m.states)) refl e g
