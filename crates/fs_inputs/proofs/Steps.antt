-- One member after another.
use Rattle.std.proofs.Common.{◌≡◌, ℕ, ℤ, pos, Bool, true, false, cond, List, Option, Some, None, refl, ap, ◌∙◌}
use Rattle.std.specs.Option.{is_some, option_or, option_map}
use Rattle.std.specs.Str.{bytes_eq}
use Rattle.std.specs.Ordering.{int_eq}
use Rattle.fs_model.proofs.Booleans.{and_three}
use Rattle.serde_json.specs.Data.{Data, Members, no_members, member}
use Rattle.fs_stores.specs.declared.values.Entries.{Entries}
use Rattle.fs_stores.specs.Values.{entry_number}
use Rattle.fs_model.specs.Runs.{Inputs}
use Rattle.fs_stores.specs.InputValues.{Signature, sort_named, all_zero}
use Rattle.fs_inputs.specs.declared.numbers.Reading.TheVariants.{Number}
use Rattle.fs_inputs.specs.Numbers.{number_in, number_reading}
use Rattle.fs_inputs.specs.InputMembers.{whole_number_of, input_number_or_zero, element_at, last_member_value, spells, are_numbers, all_fit, fits_if_any}
use Rattle.fs_inputs.specs.InputMembers.{fault_of_input, first_input_fault, inputs_in}
use Rattle.fs_inputs.specs.Steps.{PutsEntry, GivesMember, number_over, element_over, entry_over, inputs_over, reads_number}
use Rattle.fs_inputs.proofs.Readings.{read_back, is_read}

pub puts : (name : List ℕ) (d : Data) (old new : Entries) (i v : ℤ) → number_reading (number_in name) ≡ Number i → number_reading (whole_number_of d) ≡ Number v
    → ((j : ℤ) → entry_number new j ≡ cond (int_eq i j) v (entry_number old j)) → PutsEntry name d old new
puts name d old new i v index number h = record { entries = λ j. rw (read_back (number_in name) i index, read_back (whole_number_of d) v number) (h j) }

-- what is put at a place counts where nothing after it stands there
number_under : (t : Bool) (z : ℤ) (d : Data) (o : Option Data)
    → number_over (cond t (input_number_or_zero (Some d)) z) o ≡ number_over z (option_or o (cond t (Some d) None))
number_under true z d None = refl
number_under false z d None = refl
number_under t z d (Some x) = refl

element_under : (t : Bool) (z : ℤ) (d : Data) (o : Option Data) (i : ℤ)
    → element_over (cond t (element_at (Some d) i) z) o i ≡ element_over z (option_or o (cond t (Some d) None)) i
element_under true z d None i = refl
element_under false z d None i = refl
element_under t z d (Some x) i = refl

pub entry_step : (name : List ℕ) (d : Data) (ms : Members) (old new : Entries) (i : ℤ) → PutsEntry name d old new
    → entry_over (entry_number new i) ms i ≡ entry_over (entry_number old i) (member name d ms) i
entry_step name d ms old new i p = ap (λ z. number_over z (last_member_value (spells i) ms)) (p.entries i)
    ∙ number_under (spells i name) (entry_number old i) d (last_member_value (spells i) ms)

pub first_read : (name : List ℕ) (d : Data) (ms : Members) → are_numbers (member name d ms) ≡ true → all_fit (member name d ms) ≡ true
    → (reads_number (number_reading (number_in name)) ≡ true) × (reads_number (number_reading (whole_number_of d)) ≡ true) × (are_numbers ms ≡ true)
    × (all_fit ms ≡ true)
first_read name d ms numbers size =
    let n = and_three (is_some (number_in name)) (is_some (whole_number_of d)) (are_numbers ms) numbers in
    let s = and_three (fits_if_any (number_in name)) (fits_if_any (whole_number_of d)) (all_fit ms) size in
    (is_read (number_in name) n.0 s.0, is_read (whole_number_of d) n.1 s.1, n.2, s.2)

inputs_ext : (a b : Inputs) → ((q : List ℕ) → a.scalar q ≡ b.scalar q) → ((q : List ℕ) (i : ℤ) → a.array q i ≡ b.array q i) → a ≡ b
inputs_ext a b p r = λ k. record { scalar = λ q. p q k; array = λ q i. r q i k }

pub inputs_step : (name : List ℕ) (d : Data) (ms : Members) (old new : Inputs) → GivesMember name d old new
    → inputs_over new ms ≡ inputs_over old (member name d ms)
inputs_step name d ms old new g = inputs_ext _ _
    (λ q. ap (λ z. number_over z (last_member_value (λ k. bytes_eq k q) ms)) (g.scalar q)
    ∙ number_under (bytes_eq name q) (old.scalar q) d (last_member_value (λ k. bytes_eq k q) ms))
    (λ q i. ap (λ z. element_over z (last_member_value (λ k. bytes_eq k q) ms) i) (g.array q i)
    ∙ element_under (bytes_eq name q) (old.array q i) d (last_member_value (λ k. bytes_eq k q) ms) i)

number_over_zero : (o : Option Data) → number_over (pos 0) o ≡ input_number_or_zero o
number_over_zero None = refl
number_over_zero (Some d) = refl

element_over_zero : (o : Option Data) (i : ℤ) → element_over (pos 0) o i ≡ element_at o i
element_over_zero None i = refl
element_over_zero (Some d) i = refl

pub over_zero : (ms : Members) → inputs_over all_zero ms ≡ inputs_in ms
over_zero ms = inputs_ext _ _ (λ q. number_over_zero (last_member_value (λ k. bytes_eq k q) ms))
    (λ q i. element_over_zero (last_member_value (λ k. bytes_eq k q) ms) i)

none_of : {A B : Type 0} (f : A → B) (o : Option A) (r : Option B) → option_or (option_map f o) r ≡ None → (o ≡ None) × (r ≡ None)
none_of f None r e = (refl, e)
none_of f (Some a) r e = cc

pub first_fine : (signatures : List Signature) (name : List ℕ) (d : Data) (ms : Members) → first_input_fault signatures (member name d ms) ≡ None
    → (fault_of_input (sort_named signatures name) d ≡ None) × (first_input_fault signatures ms ≡ None)
first_fine signatures name d ms e = none_of (λ f. (name, f)) (fault_of_input (sort_named signatures name) d) (first_input_fault signatures ms) e

pub over_none : (ins : Inputs) → ins ≡ inputs_over ins no_members
over_none ins = inputs_ext _ _ (λ q. refl) (λ q i. refl)
