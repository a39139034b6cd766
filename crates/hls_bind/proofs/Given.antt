-- What an object without fault gives is a binding of the variables.
use Rattle.std.proofs.Common.{◌≡◌, ℕ, suc, ◌+◌, ◌<◌, List, [], ◌∷◌, ◌++◌, ap, sym, refl, ◌∙◌, subst, arith, Bool, true, false, cond, Option, Some, None}
use Rattle.std.specs.Prelude.{◌==◌, nat_lt, option_map, slice_get, IfSome}
use Rattle.std.specs.List.{list_all}
use Rattle.std.specs.Option.{option_or}
use Rattle.std.specs.Str.{bytes_eq}
use Rattle.std.proofs.lemmas.Slice.Eq.{bytes_eq-Decides}
use Rattle.std.proofs.lemmas.Bool.{and_from, lt-ltb, eqb-true}
use Rattle.serde_json.specs.Data.{Data, Members, no_members, member}
use Rattle.serde_json.specs.Find.{as_str}
use Rattle.fs_model.specs.declared.parts.VarInfo.{VarInfo}
use Rattle.fs_model.specs.Words.{is_name}
use Rattle.fs_ast.specs.MachineOfParts.{names_of}
use Rattle.fs_model.specs.SoundMachines.{names_differ}
use Rattle.hls_bind.specs.Bindings.{register, is_rising, is_scalar_local, IsBindingOf}
use Rattle.hls_bind.proofs.Looks.{place_own}
use Rattle.hls_bind.specs.declared.faults.Fault.{Fault}
use Rattle.hls_bind.specs.declared.faults.Fault.TheVariants as faults
use Rattle.hls_bind.specs.BindingMembers.{is_taken, names_local, register_fault, fault_of_binding, first_binding_fault, register_given, entry_at, binding_from}

-- ---- rising
above_by : (y x : ℕ) (o : Option (List ℕ)) (rest : List (ℕ × List ℕ)) → y < x → list_all (λ d. nat_lt y d.0) rest ≡ true
    → list_all (λ d. nat_lt y d.0) (entry_at x o ++ rest) ≡ true
above_by y x None rest h i = i
above_by y x (Some r) rest h i = and_from (nat_lt y x) (list_all (λ d. nat_lt y d.0) rest) (lt-ltb y x h) i

above : (y x : ℕ) (vs : List VarInfo) (ms : Members) → y < x → list_all (λ d. nat_lt y d.0) (binding_from x vs ms) ≡ true
above y x [] ms h = refl
above y x (v ∷ vs) ms h = above_by y x (register_given ms v.name) (binding_from (suc x) vs ms) h (above y (suc x) vs ms (omega (arith, h)))

rises_by : (x : ℕ) (o : Option (List ℕ)) (rest : List (ℕ × List ℕ)) → list_all (λ d. nat_lt x d.0) rest ≡ true → is_rising rest ≡ true
    → is_rising (entry_at x o ++ rest) ≡ true
rises_by x None rest h i = i
rises_by x (Some r) rest h i = and_from (list_all (λ d. nat_lt x d.0) rest) (is_rising rest) h i

pub rises : (x : ℕ) (vs : List VarInfo) (ms : Members) → is_rising (binding_from x vs ms) ≡ true
rises x [] ms = refl
rises x (v ∷ vs) ms = rises_by x (register_given ms v.name) (binding_from (suc x) vs ms) (above x (suc x) vs ms (omega arith)) (rises (suc x) vs ms)

-- ---- the entry of a variable
record IsGiven (x : ℕ) (vs : List VarInfo) (ms : Members) (y : ℕ) (r : List ℕ) : Type 0 where
  place : ℕ
  number : y ≡ x + place
  variable : VarInfo
  there : slice_get vs place ≡ Some variable
  given : register_given ms variable.name ≡ Some r

later : (x : ℕ) (v : VarInfo) (vs : List VarInfo) (ms : Members) (y : ℕ) (r : List ℕ) → IsGiven (suc x) vs ms y r → IsGiven x (v ∷ vs) ms y r
later x v vs ms y r g = record { place = suc g.place; number = let n = g.number in omega (arith, n); variable = g.variable; there = g.there; given = g.given }

given_head : (x : ℕ) (v : VarInfo) (vs : List VarInfo) (ms : Members) (s : List ℕ) (y : ℕ) (r : List ℕ) (t : Bool) → (x == y) ≡ t
    → register_given ms v.name ≡ Some s → cond t (Some s) (register (binding_from (suc x) vs ms) y) ≡ Some r
    → (register (binding_from (suc x) vs ms) y ≡ Some r → IsGiven (suc x) vs ms y r) → IsGiven x (v ∷ vs) ms y r
given_head x v vs ms s y r true e o h next = record {
  place = 0;
  number = let same = eqb-true x y e in omega (arith, same);
  variable = v;
  there = refl;
  given = o ∙ h;
}
given_head x v vs ms s y r false e o h next = later x v vs ms y r (next h)

given_by : (x : ℕ) (v : VarInfo) (vs : List VarInfo) (ms : Members) (o : Option (List ℕ)) (y : ℕ) (r : List ℕ) → register_given ms v.name ≡ o
    → register (entry_at x o ++ binding_from (suc x) vs ms) y ≡ Some r
    → (register (binding_from (suc x) vs ms) y ≡ Some r → IsGiven (suc x) vs ms y r) → IsGiven x (v ∷ vs) ms y r
given_by x v vs ms None y r o h next = later x v vs ms y r (next h)
given_by x v vs ms (Some s) y r o h next = given_head x v vs ms s y r (x == y) refl o h next

given : (x : ℕ) (vs : List VarInfo) (ms : Members) (y : ℕ) (r : List ℕ) → register (binding_from x vs ms) y ≡ Some r → IsGiven x vs ms y r
given x [] ms y r h = absurd (cc h)
given x (v ∷ vs) ms y r h = given_by x v vs ms (register_given ms v.name) y r refl h (given (suc x) vs ms y r)

-- ---- a member without fault
none_first : (o : Option Fault) (name : List ℕ) (rest : Option (List ℕ × Fault)) → option_or (option_map (λ f. (name, f)) o) rest ≡ None
    → (o ≡ None) × (rest ≡ None)
none_first None name rest h = (refl, h)
none_first (Some f) name rest h = absurd (cc h)

member_by : (vs : List VarInfo) (k : List ℕ) (d : Data) (ms : Members) (name r : List ℕ) (t : Bool) → bytes_eq name k ≡ t
    → cond t (as_str d) (register_given ms name) ≡ Some r → fault_of_binding vs k d ≡ None
    → (register_given ms name ≡ Some r → (e : Data) × ((as_str e ≡ Some r) × (fault_of_binding vs name e ≡ None)))
    → (e : Data) × ((as_str e ≡ Some r) × (fault_of_binding vs name e ≡ None))
member_by vs k d ms name r true e h f next = let same : name ≡ k = (bytes_eq-Decides name k).0 e in
    (d, (h, subst (λ n. fault_of_binding vs n d ≡ None) (sym same) f))
member_by vs k d ms name r false e h f next = next h

member_fine : (vs : List VarInfo) (ms : Members) (name r : List ℕ) → first_binding_fault vs ms ≡ None → register_given ms name ≡ Some r
    → (e : Data) × ((as_str e ≡ Some r) × (fault_of_binding vs name e ≡ None))
member_fine vs no_members name r f h = absurd (cc h)
member_fine vs (member k d ms) name r f h =
    let n = none_first (fault_of_binding vs k d) k (first_binding_fault vs ms) f in
    member_by vs k d ms name r (bytes_eq name k) refl h n.0 (member_fine vs ms name r n.1)

record IsFine (vs : List VarInfo) (name r : List ℕ) : Type 0 where
  local : names_local vs name ≡ true
  named : is_name r ≡ true
  free : is_taken vs r ≡ false

taken_by : (t : Bool) → cond t (Some faults.Taken) None ≡ None → t ≡ false
taken_by true h = absurd (cc h)
taken_by false h = refl

register_by : (vs : List VarInfo) (r : List ℕ) (t : Bool) → cond t (cond (is_taken vs r) (Some faults.Taken) None) (Some faults.BadName) ≡ None
    → (t ≡ true) × (is_taken vs r ≡ false)
register_by vs r true h = (refl, taken_by (is_taken vs r) h)
register_by vs r false h = absurd (cc h)

fine_by : (vs : List VarInfo) (name r : List ℕ) (t : Bool) → names_local vs name ≡ t → cond t (register_fault vs (Some r)) (Some faults.Unknown) ≡ None
    → IsFine vs name r
fine_by vs name r true e h = let x = register_by vs r (is_name r) h in record { local = e; named = x.0; free = x.1 }
fine_by vs name r false e h = absurd (cc h)

fine : (vs : List VarInfo) (ms : Members) (name r : List ℕ) → first_binding_fault vs ms ≡ None → register_given ms name ≡ Some r → IsFine vs name r
fine vs ms name r f h =
    let m = member_fine vs ms name r f h in
    fine_by vs name r (names_local vs name) refl (subst (λ o. cond (names_local vs name) (register_fault vs o) (Some faults.Unknown) ≡ None) m.1.0 m.1.1)

-- what is given is a name
pub named_if : {R : Type 0} (view : R → List ℕ) (o : Option R) (vs : List VarInfo) (ms : Members) (name : List ℕ) → first_binding_fault vs ms ≡ None
    → option_map view o ≡ register_given ms name → IfSome o (λ r. is_name (view r) ≡ true)
named_if view None vs ms name f h = tt
named_if view (Some r) vs ms name f h = (fine vs ms name (view r) f (sym h)).named

-- ---- the whole
pub binds : (vs : List VarInfo) (ms : Members) → names_differ (names_of vs) ≡ true → first_binding_fault vs ms ≡ None → IsBindingOf vs (binding_from 0 vs ms)
binds vs ms differ f = record {
  locals = λ x r h.
      let g = given 0 vs ms x r h in
      let same : x ≡ g.place = let n = g.number in omega (arith, n) in
      let i = fine vs ms g.variable.name r f g.given in
      ap (λ y. is_scalar_local (slice_get vs y)) (same ∙ sym (place_own vs g.place g.variable differ g.there)) ∙ i.local;
  fresh = λ x r h. let g = given 0 vs ms x r h in (fine vs ms g.variable.name r f g.given).free;
}
