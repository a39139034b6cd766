-- Inputs of which one is changed.
use Rattle.std.proofs.Common.{◌≡◌, ℕ, zero, suc, ◌<◌, ◌≤◌, true, false, List, [], ◌∷◌, length, refl, sym, ◌∙◌, ap, arith}
use Rattle.std.specs.Prelude.{ℤ, Option, Some, None, map, slice_get, slice_set, option_map}
use Rattle.std.specs.Option.{is_none}
use Rattle.std.proofs.lemmas.Bool.{false≢true}
use Rattle.std.proofs.lemmas.List.{map-set}
use Rattle.std.proofs.lemmas.Option.{slice_get-map, slice_get_within}
use Rattle.fs_model.proofs.Lists.{slice_get-none, length_map}
use Rattle.fs_model.specs.SoundMachines.{IsSound}
use Rattle.fs_model.specs.declared.parts.Sort.{Sort}
use Rattle.fs_model.specs.Machines.{Fsmd}
use Rattle.fs_model.specs.Runs.{Content}
use Rattle.fs_stores.specs.declared.values.Value.{Value}
use Rattle.fs_stores.specs.declared.inputs.Input.{Input}
use Rattle.fs_stores.specs.declared.inputs.Inputs.{Inputs}
use Rattle.fs_stores.specs.Values.{content_of, sort_of}
use Rattle.fs_stores.specs.InputValues.{Signature, signature, input_values, signatures_of, input_signatures, sort_named, Serves}
use Rattle.fs_stores.proofs.InputValues.{serves_own}
use Rattle.hls_shrink.specs.InputEntries.{contents_in}
use Rattle.hls_shrink.specs.Reductions.{content_with, with_number_at}

pub as_many : (ins : Inputs) → length (contents_in ins) ≡ length (signatures_of ins)
as_many ins = length_map content_of (input_values ins) ∙ length_map (λ (i : Input). i.value) ins.items.items ∙ sym (length_map signature ins.items.items)

none_mapped : {A B : Type 0} (f : A → B) (o : Option A) → is_none (option_map f o) ≡ true → o ≡ None
none_mapped f None e = refl
none_mapped f (Some x) e = absurd (false≢true e)

-- where there is no sort, there are no more inputs
pub none_left : (ins : Inputs) (k : ℕ) (o : Option Sort) → o ≡ option_map (λ (f : Signature). f.1) (slice_get (signatures_of ins) k) → is_none o ≡ true
    → length (contents_in ins) ≤ k
none_left ins k o e gone =
    let h = slice_get-none (signatures_of ins) k (none_mapped (λ (f : Signature). f.1) (slice_get (signatures_of ins) k) (ap is_none (sym e) ∙ gone)) in
    let count = as_many ins in
    omega arith

some_mapped : {A B : Type 0} (f : A → B) (xs : List A) (k : ℕ) (o : Option A) → slice_get xs k ≡ o → is_none (option_map f o) ≡ false → k < length xs
some_mapped f xs k None at e = absurd (false≢true (sym e))
some_mapped f xs k (Some x) at e = slice_get_within xs k x at

-- where there is a sort, there is an input
pub some_left : (ins : Inputs) (k : ℕ) (o : Option Sort) → o ≡ option_map (λ (f : Signature). f.1) (slice_get (signatures_of ins) k) → is_none o ≡ false
    → k < length (signatures_of ins)
some_left ins k o e there = some_mapped (λ (f : Signature). f.1) (signatures_of ins) k (slice_get (signatures_of ins) k) refl (ap is_none (sym e) ∙ there)

-- inputs by the names and sorts of a machine's inputs serve that machine
pub serve_own : (m : Fsmd) (ins : Inputs) → IsSound m → signatures_of ins ≡ input_signatures m.variables → Serves (signatures_of ins) m
serve_own m ins sound e k v is input = ap (λ fs. sort_named fs v.name) e ∙ serves_own m.variables k v sound.variables_differ is input

-- ---- the sort of a value

sort_of_input : (x : Option Input) (v : Value) → option_map (λ (i : Input). i.value) x ≡ Some v
    → option_map (λ (f : Signature). f.1) (option_map signature x) ≡ Some (sort_of v)
sort_of_input None v e = absurd (cc)
sort_of_input (Some x) v e = let same : x.value ≡ v = cc in ap (λ w. Some (sort_of w)) same

pub sort_there : (ins : Inputs) (k : ℕ) (v : Value) → slice_get (input_values ins) k ≡ Some v
    → option_map (λ (f : Signature). f.1) (slice_get (signatures_of ins) k) ≡ Some (sort_of v)
sort_there ins k v e =
    ap (option_map (λ (f : Signature). f.1)) (slice_get-map signature ins.items.items k)
    ∙ sort_of_input (slice_get ins.items.items k) v (sym (slice_get-map (λ (i : Input). i.value) ins.items.items k) ∙ e)

pub content_there : (ins : Inputs) (k : ℕ) (v : Value) → slice_get (input_values ins) k ≡ Some v → slice_get (contents_in ins) k ≡ Some (content_of v)
content_there ins k v e = slice_get-map content_of (input_values ins) k ∙ ap (option_map content_of) e

-- ---- a changed content

pub changed_past : (cs : List Content) (k : ℕ) (i n : ℤ) → length cs ≤ k → with_number_at cs k i n ≡ cs
changed_past [] k i n h = refl
changed_past (c ∷ cs) zero i n h = absurd (omega arith)
changed_past (c ∷ cs) (suc k) i n h = ap (λ r. c ∷ r) (changed_past cs k i n (omega arith))

changed_there : (cs : List Content) (k : ℕ) (c : Content) (i n : ℤ) → slice_get cs k ≡ Some c → slice_set cs k (content_with c i n) ≡ with_number_at cs k i n
changed_there [] k c i n e = absurd (cc)
changed_there (d ∷ cs) zero c i n e = let same : d ≡ c = cc in ap (λ x. content_with x i n ∷ cs) (sym same)
changed_there (d ∷ cs) (suc k) c i n e = ap (λ r. d ∷ r) (changed_there cs k c i n e)

pub changed_is : (old new : List Value) (k : ℕ) (v : Value) (c : Content) (i n : ℤ) → slice_get (map content_of old) k ≡ Some c
    → content_of v ≡ content_with c i n → new ≡ slice_set old k v → map content_of new ≡ with_number_at (map content_of old) k i n
changed_is old new k v c i n there own put =
    ap (map content_of) put ∙ map-set content_of old k v ∙ ap (slice_set (map content_of old) k) own ∙ changed_there (map content_of old) k c i n there
