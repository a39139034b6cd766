-- What is given at a place is given for its name.
use Rattle.std.proofs.Common.{◌≡◌, ℕ, zero, suc, ℤ, Bool, true, false, true≢false, cond, List, [], ◌∷◌, length, Option, Some, None, refl, sym, ap, ◌∙◌, arith}
use Rattle.std.specs.Prelude.{map, slice_get, slice_set}
use Rattle.std.specs.Option.{option_map}
use Rattle.std.specs.Str.{bytes_eq}
use Rattle.std.proofs.lemmas.Slice.Eq.{bytes_eq-Decides}
use Rattle.std.proofs.lemmas.List.{length-map}
use Rattle.serde_json.specs.Data.{Data}
use Rattle.fs_model.specs.declared.parts.Sort.{Sort}
use Rattle.fs_stores.specs.declared.values.Value.{Value}
use Rattle.fs_stores.specs.declared.inputs.Input.{Input}
use Rattle.fs_stores.specs.declared.inputs.Inputs.{Inputs as Held}
use Rattle.fs_stores.specs.Values.{value_number, entry_in}
use Rattle.fs_stores.specs.InputValues.{Signature, signature, value_named, input_values, signatures_of, sort_named, inputs_of}
use Rattle.fs_inputs.specs.InputMembers.{input_number_or_zero, element_at}
use Rattle.fs_inputs.specs.Steps.{input_place, IsGivenAt, GivesMember}

abbrev value : Input → Value
value i = i.value

-- the value of a name, where names and values stand in two lists
abbrev given_by : List Signature → List Value → List ℕ → Option Value
given_by [] vs q = None
given_by (f ∷ fs) [] q = None
given_by (f ∷ fs) (v ∷ vs) q = cond (bytes_eq f.0 q) (Some v) (given_by fs vs q)

given_is : (items : List Input) (q : List ℕ) → value_named items q ≡ given_by (map signature items) (map value items) q
given_is [] q = refl
given_is (i ∷ rest) q = ap (cond (bytes_eq i.name q) (Some i.value)) (given_is rest q)

-- a name is no other
apart : (a b q : List ℕ) → bytes_eq a b ≡ false → bytes_eq a q ≡ true → bytes_eq b q ≡ true → ⊥
apart a b q e s t =
    let same : a ≡ b = (bytes_eq-Decides a q).0 s ∙ sym ((bytes_eq-Decides b q).0 t) in
    true≢false (sym ((bytes_eq-Decides a b).1 same) ∙ e)

swap : {A : Type 0} (a b : Bool) (x y z : A) → (a ≡ true → b ≡ true → ⊥) → cond a x (cond b y z) ≡ cond b y (cond a x z)
swap true true x y z h = absurd (h refl refl)
swap true false x y z h = refl
swap false b x y z h = refl

twice : {A : Type 0} (a : Bool) (x y z : A) → cond a x z ≡ cond a x (cond a y z)
twice true x y z = refl
twice false x y z = refl

-- the place of a name in a longer list
abbrev behind : Bool → Option ℕ → Option ℕ
behind here o = cond here (Some 0) (option_map suc o)

at_first : (b : Bool) (o : Option ℕ) (f : Signature) (fs : List Signature) (x : Value) (vs : List Value) (k : ℕ) (v : Value) (name q : List ℕ)
    → ((j : ℕ) → input_place fs name ≡ Some j → given_by fs (slice_set vs j v) q ≡ cond (bytes_eq name q) (Some v) (given_by fs vs q))
    → bytes_eq f.0 name ≡ b → input_place fs name ≡ o → behind b o ≡ Some k
    → given_by (f ∷ fs) (slice_set (x ∷ vs) k v) q ≡ cond (bytes_eq name q) (Some v) (given_by (f ∷ fs) (x ∷ vs) q)
at_first true o f fs x vs zero v name q later e p h =
    let same : f.0 ≡ name = (bytes_eq-Decides f.0 name).0 e in
    twice (bytes_eq f.0 q) (Some v) (Some x) (given_by fs vs q) ∙ ap (λ n. cond (bytes_eq n q) (Some v) (given_by (f ∷ fs) (x ∷ vs) q)) same
at_first true o f fs x vs (suc k) v name q later e p h = cc
at_first false None f fs x vs k v name q later e p h = cc
at_first false (Some j) f fs x vs zero v name q later e p h = cc
at_first false (Some j) f fs x vs (suc k) v name q later e p h =
    let same : j ≡ k = cc in
    ap (cond (bytes_eq f.0 q) (Some x)) (later k (p ∙ ap Some same))
    ∙ swap (bytes_eq f.0 q) (bytes_eq name q) (Some x) (Some v) (given_by fs vs q) (apart f.0 name q e)

given_by_set : (fs : List Signature) (vs : List Value) (k : ℕ) (v : Value) (name q : List ℕ) → length fs ≡ length vs → input_place fs name ≡ Some k
    → given_by fs (slice_set vs k v) q ≡ cond (bytes_eq name q) (Some v) (given_by fs vs q)
given_by_set [] vs k v name q l p = cc
given_by_set (f ∷ fs) [] k v name q l p = absurd (omega arith)
given_by_set (f ∷ fs) (x ∷ vs) k v name q l p =
    at_first (bytes_eq f.0 name) (input_place fs name) f fs x vs k v name q (λ j. given_by_set fs vs j v name q (omega arith)) refl refl p

sort_at : (b : Bool) (o : Option ℕ) (f : Signature) (fs : List Signature) (name : List ℕ) (k : ℕ) (s : Sort)
    → ((j : ℕ) → input_place fs name ≡ Some j → sort_named fs name ≡ Some s → option_map (λ (f : Signature). f.1) (slice_get fs j) ≡ Some s)
    → input_place fs name ≡ o → behind b o ≡ Some k → cond b (Some f.1) (sort_named fs name) ≡ Some s
    → option_map (λ (f : Signature). f.1) (slice_get (f ∷ fs) k) ≡ Some s
sort_at true o f fs name zero s later p h e = e
sort_at true o f fs name (suc k) s later p h e = cc
sort_at false None f fs name k s later p h e = cc
sort_at false (Some j) f fs name zero s later p h e = cc
sort_at false (Some j) f fs name (suc k) s later p h e = let same : j ≡ k = cc in later k (p ∙ ap Some same) e

pub sort_there : (fs : List Signature) (name : List ℕ) (k : ℕ) (s : Sort) → input_place fs name ≡ Some k → sort_named fs name ≡ Some s
    → option_map (λ (f : Signature). f.1) (slice_get fs k) ≡ Some s
sort_there [] name k s p e = cc
sort_there (f ∷ fs) name k s p e = sort_at (bytes_eq f.0 name) (input_place fs name) f fs name k s (λ j. sort_there fs name j s) refl p e

given_after : (old new : Held) (k : ℕ) (v : Value) (name q : List ℕ) → signatures_of new ≡ signatures_of old
    → input_values new ≡ slice_set (input_values old) k v → input_place (signatures_of old) name ≡ Some k
    → value_named new.items.items q ≡ cond (bytes_eq name q) (Some v) (value_named old.items.items q)
given_after old new k v name q signatures values p =
    given_is new.items.items q
    ∙ ap (λ fs. given_by fs (input_values new) q) signatures
    ∙ ap (λ vs. given_by (signatures_of old) vs q) values
    ∙ given_by_set (signatures_of old) (input_values old) k v name q (length-map old.items.items signature ∙ sym (length-map old.items.items value)) p
    ∙ ap (cond (bytes_eq name q) (Some v)) (sym (given_is old.items.items q))

number_by : (b : Bool) (v : Value) (o : Option Value) (z : ℤ) → value_number (Some v) ≡ z → value_number (cond b (Some v) o) ≡ cond b z (value_number o)
number_by true v o z e = e
number_by false v o z e = refl

entry_by : (b : Bool) (v : Value) (o : Option Value) (i z : ℤ) → entry_in (Some v) i ≡ z → entry_in (cond b (Some v) o) i ≡ cond b z (entry_in o i)
entry_by true v o i z e = e
entry_by false v o i z e = refl

-- inputs after a value was put at the place of a name
pub gives : (old new : Held) (k : ℕ) (name : List ℕ) (d : Data) → signatures_of new ≡ signatures_of old → input_place (signatures_of old) name ≡ Some k
    → IsGivenAt (input_values old) (input_values new) k d → GivesMember name d (inputs_of old) (inputs_of new)
gives old new k name d signatures p h = record {
  scalar = λ q. ap value_number (given_after old new k h.held name q signatures h.values p)
      ∙ number_by (bytes_eq name q) h.held (value_named old.items.items q) (input_number_or_zero (Some d)) h.holds.number;
  array = λ q i. ap (λ o. entry_in o i) (given_after old new k h.held name q signatures h.values p)
      ∙ entry_by (bytes_eq name q) h.held (value_named old.items.items q) i (element_at (Some d) i) (h.holds.entries i);
}
