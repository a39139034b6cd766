-- Outputs that hold the same by number hold the same by name.
use Rattle.std.proofs.Common.{◌≡◌, ℕ, ◌+◌, List, [], ◌∷◌, ap, sym, refl, ◌∙◌, subst, Option, Some, None, Bool, true, false, cond}
use Rattle.std.specs.Prelude.{not, ◌&&◌, option_map}
use Rattle.std.specs.List.{position_from, AllByRecursion}
use Rattle.std.specs.Str.{bytes_eq}
use Rattle.std.proofs.lemmas.Slice.Eq.{bytes_eq-Decides}
use Rattle.std.proofs.lemmas.Bool.{and_from, and_right, not-false}
use Rattle.fs_model.proofs.Options.{option_or_first, option_or_second, cond_none}
use Rattle.fs_model.proofs.Booleans.{and_first, and_second}
use Rattle.fs_model.specs.declared.parts.Role.{Role}
use Rattle.fs_model.specs.declared.parts.Role.TheVariants.{Input, Output, Local}
use Rattle.fs_model.specs.declared.parts.Sort.{Sort}
use Rattle.fs_model.specs.declared.parts.VarInfo.{VarInfo}
use Rattle.fs_model.specs.Machines.{Fsmd}
use Rattle.fs_model.specs.Stores.{Store}
use Rattle.fs_model.specs.Runs.{Content, is_output, content, output_from, output}
use Rattle.fs_model.proofs.Roles.{is_output-true}
use Rattle.fs_pair.proofs.Tests.{same_sort_is}
use Rattle.fs_pair.specs.Interfaces.{is_interface, same_role, same_sort, variable_named, is_like, lacks_match, first_unmatched, interface_fault}
use Rattle.fs_pair.specs.PairedOutputs.{OutputPair, output_pairs, AgreeOnOutput}

-- an output by its number, with its sort
pub record NumberedOutput : Type 0 where
  pub place : ℕ
  pub sort : Sort

abbrev output_place : List VarInfo → ℕ → List ℕ → Option NumberedOutput
output_place [] x name = None
output_place (v ∷ vs) x name = cond (is_output v.role && bytes_eq v.name name) (Some (record { place = x; sort = v.sort })) (output_place vs (x + 1) name)

abbrev held_at : Store → Option NumberedOutput → Option Content
held_at s o = option_map (λ p. content p.sort p.place s) o

by_place : (vs : List VarInfo) (x : ℕ) (s : Store) (name : List ℕ) → output_from vs x s name ≡ held_at s (output_place vs x name)
by_place [] x s name = refl
by_place (v ∷ vs) x s name = step (is_output v.role && bytes_eq v.name name) (by_place vs (x + 1) s name)
  where
    step : (b : Bool) → output_from vs (x + 1) s name ≡ held_at s (output_place vs (x + 1) name)
        → cond b (Some (content v.sort x s)) (output_from vs (x + 1) s name)
        ≡ held_at s (cond b (Some (record { place = x; sort = v.sort })) (output_place vs (x + 1) name))
    step true h = refl
    step false h = h

-- ---- each output pair
record OutputFound (P : OutputPair → Type 0) (rights : List VarInfo) (name : List ℕ) (k : ℕ) (σ : Sort) : Type 0 where
  variable : VarInfo
  is_out : is_output variable.role ≡ true
  sorted : variable.sort ≡ σ
  named_so : variable.name ≡ name
  matched : lacks_match rights variable ≡ false
  met : P (record { left = k; sort = variable.sort; right = position_from (λ u. bytes_eq u.name variable.name) 0 rights })

head_met : (P : OutputPair → Type 0) (o : OutputPair) (os : List OutputPair) (b : Bool) → b ≡ true → AllByRecursion P (cond b (o ∷ os) os) → P o
head_met P o os true e h = h.0
head_met P o os false e h = absurd (cc e)

tail_met : (P : OutputPair → Type 0) (o : OutputPair) (os : List OutputPair) (b : Bool) → AllByRecursion P (cond b (o ∷ os) os) → AllByRecursion P os
tail_met P o os true h = h.1
tail_met P o os false h = h

found_output : (P : OutputPair → Type 0) (vs rights : List VarInfo) (x : ℕ) (name : List ℕ) (k : ℕ) (σ : Sort) → first_unmatched vs rights ≡ None
    → AllByRecursion P (output_pairs x vs rights)
    → output_place vs x name ≡ Some (record { place = k; sort = σ }) → OutputFound P rights name k σ
found_output P [] rights x name k σ u h e = absurd (cc e)
found_output P (v ∷ vs) rights x name k σ u h e =
    step (is_output v.role && bytes_eq v.name name) refl e
    (λ g. found_output P vs rights (x + 1) name k σ (cond_none (lacks_match rights v) v.name (first_unmatched vs rights) u).1
    (tail_met P _ (output_pairs (x + 1) vs rights) (is_output v.role) h) g)
  where
    step : (b : Bool) → is_output v.role && bytes_eq v.name name ≡ b
        → cond {A = Option NumberedOutput} b (Some (record { place = x; sort = v.sort })) (output_place vs (x + 1) name) ≡ Some (record { place = k; sort = σ })
        → (output_place vs (x + 1) name ≡ Some (record { place = k; sort = σ }) → OutputFound P rights name k σ) → OutputFound P rights name k σ
    step true t g again =
        let o : is_output v.role ≡ true = and_first (is_output v.role) (bytes_eq v.name name) t in
        let here : NumberedOutput = record { place = x; sort = v.sort } in
        let there : NumberedOutput = record { place = k; sort = σ } in
        let r : here ≡ there = cc g in
        let p : x ≡ k = ap (λ (z : NumberedOutput). z.place) r in
        let m = head_met P _ (output_pairs (x + 1) vs rights) (is_output v.role) o h in
        record {
          variable = v;
          is_out = o;
          sorted = ap (λ (z : NumberedOutput). z.sort) r;
          named_so = (bytes_eq-Decides v.name name).0 (and_second (is_output v.role) (bytes_eq v.name name) t);
          matched = (cond_none (lacks_match rights v) v.name (first_unmatched vs rights) u).0;
          met = subst (λ z. P (record { left = z; sort = v.sort; right = position_from (λ w. bytes_eq w.name v.name) 0 rights })) p m;
        }
    step false t g again = again g

-- ---- the first variable of a name, where it is an output
record FirstOutput (vs : List VarInfo) (x : ℕ) (name : List ℕ) (σ : Sort) : Type 0 where
  place : ℕ
  stands : output_place vs x name ≡ Some (record { place = place; sort = σ })
  position : position_from (λ u. bytes_eq u.name name) x vs ≡ Some place

first_output : (vs : List VarInfo) (x : ℕ) (name : List ℕ) (u : VarInfo) → variable_named vs name ≡ Some u → is_output u.role ≡ true
    → FirstOutput vs x name u.sort
first_output [] x name u e o = absurd (cc e)
first_output (v ∷ vs) x name u e o = step (bytes_eq v.name name) refl e (λ g. first_output vs (x + 1) name u g o)
  where
    step : (b : Bool) → bytes_eq v.name name ≡ b → cond b (Some v) (variable_named vs name) ≡ Some u
        → (variable_named vs name ≡ Some u → FirstOutput vs (x + 1) name u.sort) → FirstOutput (v ∷ vs) x name u.sort
    step true t g again =
        let same : v ≡ u = cc g in
        let ov : is_output v.role ≡ true = ap (λ (z : VarInfo). is_output z.role) same ∙ o in
        record {
          place = x;
          stands = ap (λ c. cond {A = Option NumberedOutput} c (Some (record { place = x; sort = v.sort })) (output_place vs (x + 1) name))
              (and_from (is_output v.role) (bytes_eq v.name name) ov t) ∙ ap (λ (z : VarInfo). Some (record { place = x; sort = z.sort })) same;
          position = ap (λ c. cond {A = Option ℕ} c (Some x) (position_from (λ w. bytes_eq w.name name) (x + 1) vs)) t;
        }
    step false t g again =
        let r = again g in
        record {
          place = r.place;
          stands = ap (λ c. cond {A = Option NumberedOutput} c (Some (record { place = x; sort = v.sort })) (output_place vs (x + 1) name))
              (and_right (is_output v.role) (bytes_eq v.name name) t) ∙ r.stands;
          position = ap (λ c. cond {A = Option ℕ} c (Some x) (position_from (λ w. bytes_eq w.name name) (x + 1) vs)) t ∙ r.position;
        }

-- ---- a match
record Match (v : VarInfo) (rights : List VarInfo) : Type 0 where
  partner : VarInfo
  is_named : variable_named rights v.name ≡ Some partner
  is_out : is_output partner.role ≡ true
  sorted : partner.sort ≡ v.sort

out_role : (r : Role) → same_role Output r ≡ true → is_output r ≡ true
out_role Input e = absurd (cc e)
out_role Output e = refl
out_role Local e = absurd (cc e)

alike : (v : VarInfo) (o : Option VarInfo) (r : Role) → v.role ≡ r → is_output r ≡ true → is_interface r && not (is_like v o) ≡ false → is_like v o ≡ true
alike v o Input e h l = absurd (cc h)
alike v o Output e h l = not-false (is_like v o) l
alike v o Local e h l = absurd (cc h)

match_by : (v : VarInfo) (rights : List VarInfo) (o : Option VarInfo) → variable_named rights v.name ≡ o → is_output v.role ≡ true → is_like v o ≡ true
    → Match v rights
match_by v rights None n h l = absurd (cc l)
match_by v rights (Some u) n h l =
    record {
      partner = u;
      is_named = n;
      is_out = out_role u.role (ap (λ r. same_role r u.role) (sym (is_output-true v.role h)) ∙ and_first (same_role v.role u.role) (same_sort v.sort u.sort) l);
      sorted = sym (same_sort_is v.sort u.sort (and_second (same_role v.role u.role) (same_sort v.sort u.sort) l));
    }

match_of : (v : VarInfo) (rights : List VarInfo) → is_output v.role ≡ true → lacks_match rights v ≡ false → Match v rights
match_of v rights h l = match_by v rights (variable_named rights v.name) refl h (alike v (variable_named rights v.name) v.role refl h l)

-- ---- both machines
record TwoPlaces (P : OutputPair → Type 0) (rights : List VarInfo) (name : List ℕ) (k : ℕ) (σ : Sort) : Type 0 where
  place : ℕ
  stands : output_place rights 0 name ≡ Some (record { place = place; sort = σ })
  met : P (record { left = k; sort = σ; right = Some place })

both_places : (P : OutputPair → Type 0) (lefts rights : List VarInfo) (name : List ℕ) (k : ℕ) (σ : Sort) → first_unmatched lefts rights ≡ None
    → AllByRecursion P (output_pairs 0 lefts rights)
    → output_place lefts 0 name ≡ Some (record { place = k; sort = σ }) → TwoPlaces P rights name k σ
both_places P lefts rights name k σ u h e =
    let f = found_output P lefts rights 0 name k σ u h e in
    let m = match_of f.variable rights f.is_out f.matched in
    let g = first_output rights 0 f.variable.name m.partner m.is_named m.is_out in
    let st : m.partner.sort ≡ σ = m.sorted ∙ f.sorted in
    record {
      place = g.place;
      stands = subst (λ n. output_place rights 0 n ≡ Some (record { place = g.place; sort = σ })) f.named_so
          (g.stands ∙ ap (λ t. Some (record { place = g.place; sort = t })) st);
      met = subst (λ t. P (record { left = k; sort = t; right = Some g.place })) f.sorted
          (subst (λ o. P (record { left = k; sort = f.variable.sort; right = o })) g.position f.met);
    }

trivial : (os : List OutputPair) → AllByRecursion (λ o. Unit {0}) os
trivial [] = tt
trivial (o ∷ os) = (tt, trivial os)

module _ (a b : Fsmd) (s u : Store) (matched : interface_fault a b ≡ None) (all : AllByRecursion (AgreeOnOutput s u) (output_pairs 0 a.variables b.variables))
    (name : List ℕ) where
  by_places : (o : Option NumberedOutput) → output_place a.variables 0 name ≡ o → (r : Option NumberedOutput) → output_place b.variables 0 name ≡ r
      → held_at s o ≡ held_at u r
  by_places None e None f = refl
  by_places None e (Some y) f =
      let t = both_places (λ o. Unit {0}) b.variables a.variables name y.place y.sort
      (option_or_second (first_unmatched a.variables b.variables) (first_unmatched b.variables a.variables) matched)
      (trivial (output_pairs 0 b.variables a.variables)) f in
      let c : None ≡ Some (record { place = t.place; sort = y.sort }) = sym e ∙ t.stands in
      absurd (cc c)
  by_places (Some x) e r f =
      let t = both_places (AgreeOnOutput s u) a.variables b.variables name x.place x.sort
      (option_or_first (first_unmatched a.variables b.variables) (first_unmatched b.variables a.variables) matched) all e in
      ap Some (t.met t.place refl) ∙ ap (held_at u) (sym t.stands ∙ f)

  pub same_outputs : output a s name ≡ output b u name
  same_outputs = by_place a.variables 0 s name ∙ by_places (output_place a.variables 0 name) refl (output_place b.variables 0 name) refl
      ∙ sym (by_place b.variables 0 u name)
