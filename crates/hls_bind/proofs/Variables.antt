-- The variables of the parts in which registers stand for locals.
use Rattle.std.proofs.Common.{◌≡◌, ℕ, suc, ◌+◌, ◌-◌, ◌<◌, ◌≤◌, append-nil, ℤ, List, [], ◌∷◌, ◌++◌, length, map, ap, ap₂, sym, refl, ◌∙◌, subst, arith, Option}
use Rattle.std.proofs.Common.{Some, None, Bool, true, false}
use Rattle.std.specs.Prelude.{◌&&◌, ◌||◌, ◌==◌, cond, not, slice_get, filter, nat_lt}
use Rattle.std.specs.List.{list_any, flat_map}
use Rattle.std.specs.Option.{unwrap_or, is_some}
use Rattle.std.specs.Str.{bytes_eq}
use Rattle.std.proofs.lemmas.Bool.Decides.{nat_tests}
use Rattle.std.proofs.lemmas.Option.{slice_get_past, slice_get_within}
use Rattle.std.proofs.lemmas.List.Elements.{filter-append}
use Rattle.std.proofs.lemmas.Grind.{flat_map-append}
use Rattle.std.proofs.lemmas.Bool.{lt-ltb, ltb-false, ltb-true}
use Rattle.fs_model.proofs.Lists.{bytes_eq-true, element_at}
use Rattle.fs_model.specs.declared.parts.Role.{Role}
use Rattle.fs_model.specs.declared.parts.Role.TheVariants.{Local, Input, Output}
use Rattle.fs_model.specs.declared.parts.Sort.{Sort}
use Rattle.fs_model.specs.declared.parts.Sort.TheVariants.{Scalar, Array, Port}
use Rattle.fs_model.specs.declared.parts.VarInfo.{VarInfo}
use Rattle.fs_model.specs.Source.{Declaration}
use Rattle.fs_model.specs.Stores.{Store}
use Rattle.fs_model.specs.Runs.{Content, content, output_from, is_output, is_scalar}
use Rattle.fs_model.specs.Runs as runs
use Rattle.fs_model.specs.SoundMachines.{names_differ}
use Rattle.fs_ast.specs.MachineOfParts.{place_or_end, names_of, variables_of, declared_by}
use Rattle.hls_bind.proofs.RegisterMachines.{Agree}
use Rattle.hls_bind.specs.Bindings.{is_local, is_scalar_local, register, is_bound, stays, declaration_without_bound, remaining_declarations}
use Rattle.hls_bind.specs.Bindings.{of_registers, IsBindingOf, AreRegisters}
use Rattle.hls_bind.proofs.Looks.{look, or_else, get_place, look_name, look_joined, look_none, look_stays, look_goes, place_own, shown, output_is}

-- a register as a variable
abbrev pub as_local : List ℕ → VarInfo
as_local r = record { name = r; role = Local; sort = Scalar }

-- ---- declarations
kept_by : (d : Declaration) (n : List ℕ) (kept : List (List ℕ)) (vs : List VarInfo) (t : Bool)
    → map (λ m. record { name = m; role = d.role; sort = d.sort }) kept ≡ vs
    → map (λ m. record { name = m; role = d.role; sort = d.sort }) (cond t (n ∷ kept) kept) ≡ cond t (record { name = n; role = d.role; sort = d.sort } ∷ vs) vs
kept_by d n kept vs true h = ap (λ (ws : List VarInfo). record { name = n; role = d.role; sort = d.sort } ∷ ws) h
kept_by d n kept vs false h = h

names_kept : (keep : List ℕ → Bool) (d : Declaration) (ns : List (List ℕ))
    → map (λ n. record { name = n; role = d.role; sort = d.sort }) (filter keep ns)
    ≡ filter (λ (v : VarInfo). keep v.name) (map (λ n. record { name = n; role = d.role; sort = d.sort }) ns)
names_kept keep d [] = refl
names_kept keep d (n ∷ ns) = kept_by d n (filter keep ns)
    (filter (λ (v : VarInfo). keep v.name) (map (λ m. record { name = m; role = d.role; sort = d.sort }) ns)) (keep n) (names_kept keep d ns)

none_named : (d : Declaration) (ns : List (List ℕ)) → (length ns == 0) ≡ true
    → map {B = VarInfo} (λ n. record { name = n; role = d.role; sort = d.sort }) ns ≡ []
none_named d [] h = refl
none_named d (n ∷ ns) h = let e : suc (length ns) ≡ 0 = grind (arith, nat_tests) in absurd (omega (arith, e))

dropped : (d : Declaration) (ds : List Declaration) (t : Bool) → (length d.names == 0) ≡ t
    → flat_map declared_by (cond (not t) (d ∷ ds) ds) ≡ declared_by d ++ flat_map declared_by ds
dropped d ds true e = ap (λ (ws : List VarInfo). ws ++ flat_map declared_by ds) (sym (none_named d d.names e))
dropped d ds false e = refl

of_them : (line : ℕ) (rs : List (List ℕ)) → variables_of (of_registers line rs) ≡ map as_local rs
of_them line [] = refl
of_them line (r ∷ rs) = let n : (suc (length rs) == 0) ≡ false = grind (arith, nat_tests) in rw n (append-nil (map as_local (r ∷ rs)))

module _ (b : List (ℕ × List ℕ)) (vs : List (List ℕ)) where
  abbrev pub keeps : VarInfo → Bool
  keeps v = stays b vs v.name

  variables_remain : (ds : List Declaration) → variables_of (remaining_declarations b vs ds) ≡ filter keeps (variables_of ds)
  variables_remain [] = refl
  variables_remain (d ∷ ds) =
      let w = declaration_without_bound b vs d in
      dropped w (remaining_declarations b vs ds) (length w.names == 0) refl
      ∙ ap₂ (λ (x y : List VarInfo). x ++ y) (names_kept (stays b vs) d d.names) (variables_remain ds)
      ∙ sym (filter-append keeps (declared_by d) (variables_of ds))

  pub variables_bound : (line : ℕ) (rs : List (List ℕ)) (ds : List Declaration)
      → variables_of (remaining_declarations b vs ds ++ of_registers line rs) ≡ filter keeps (variables_of ds) ++ map as_local rs
  variables_bound line rs ds = flat_map-append declared_by (remaining_declarations b vs ds) (of_registers line rs)
      ∙ ap₂ (λ (x y : List VarInfo). x ++ y) (variables_remain ds) (of_them line rs)

-- ---- looking up among registers
look_local_by : (r : List ℕ) (rs : List (List ℕ)) (n : List ℕ) (t : Bool) → bytes_eq r n ≡ t
    → (list_any (λ q. bytes_eq q n) rs ≡ true → look (map as_local rs) n ≡ Some (as_local n)) → (t || list_any (λ q. bytes_eq q n) rs) ≡ true
    → cond t (Some (as_local r)) (look (map as_local rs) n) ≡ Some (as_local n)
look_local_by r rs n true e next h = ap (λ (m : List ℕ). Some (as_local m)) (bytes_eq-true r n e)
look_local_by r rs n false e next h = next h

look_local : (rs : List (List ℕ)) (n : List ℕ) → list_any (λ q. bytes_eq q n) rs ≡ true → look (map as_local rs) n ≡ Some (as_local n)
look_local [] n h = cc
look_local (r ∷ rs) n h = look_local_by r rs n (bytes_eq r n) refl (look_local rs n) h

hidden_by : (r : List ℕ) (o : Option VarInfo) (i : ℕ) (t : Store) (c : Bool) → shown o i t ≡ None → shown (cond c (Some (as_local r)) o) i t ≡ None
hidden_by r o i t true h = refl
hidden_by r o i t false h = h

local_hidden : (rs : List (List ℕ)) (n : List ℕ) (i : ℕ) (t : Store) → shown (look (map as_local rs) n) i t ≡ None
local_hidden [] n i t = refl
local_hidden (r ∷ rs) n i t = hidden_by r (look (map as_local rs) n) i t (bytes_eq r n) (local_hidden rs n i t)

pub bound_is : (b : List (ℕ × List ℕ)) (x : ℕ) (o : Option (List ℕ)) → register b x ≡ o → is_some o ≡ true → (r : List ℕ) × (register b x ≡ Some r)
bound_is b x None e h = absurd (cc h)
bound_is b x (Some r) e h = (r, e)

unbound_is : (b : List (ℕ × List ℕ)) (x : ℕ) (o : Option (List ℕ)) → register b x ≡ o → is_some o ≡ false → register b x ≡ None
unbound_is b x None e h = e
unbound_is b x (Some r) e h = absurd (cc h)

local_role : (r : Role) (t : Bool) → (is_local r && t) ≡ true → is_output r ≡ false
local_role Local t h = refl
local_role Input t h = refl
local_role Output t h = absurd (cc h)

pub some_there : (o : Option VarInfo) → is_scalar_local o ≡ true → (v : VarInfo) × (o ≡ Some v)
some_there None h = absurd (cc h)
some_there (Some v) h = (v, refl)

none_is_not_some : (o : Option VarInfo) (v : VarInfo) → o ≡ None → o ≡ Some v → ⊥
none_is_not_some o v h i = cc (h, i)

-- a binding of variables vs with registers rs, and the new variables
module _ (b : List (ℕ × List ℕ)) (vs : List VarInfo) (rs : List (List ℕ)) (binds : IsBindingOf vs b) (are : AreRegisters b rs)
    (differ : names_differ (names_of vs) ≡ true) where
  abbrev pub new : List VarInfo
  new = filter (keeps b (names_of vs)) vs ++ map as_local rs

  abbrev pub name_at : Option VarInfo → List ℕ
  name_at None = []
  name_at (Some v) = v.name

  -- the name that stands for the variable of a number
  abbrev pub name_for : ℕ → List ℕ
  name_for x = unwrap_or (register b x) (name_at (slice_get vs x))

  -- the number of a variable among the new ones; those past the last stay past the last
  abbrev pub number_for : ℕ → ℕ
  number_for x = cond (nat_lt x (length vs)) (place_or_end (names_of new) (name_for x)) (length new + (x - length vs))

  pub inside_is : (x : ℕ) → x < length vs → number_for x ≡ place_or_end (names_of new) (name_for x)
  inside_is x h = rw (lt-ltb x (length vs) h) refl

  -- ---- looking up
  look_kept : (n : List ℕ) (v : VarInfo) → register b (place_or_end (names_of vs) n) ≡ None → look vs n ≡ Some v → look new n ≡ Some v
  look_kept n v e h =
      let k : stays b (names_of vs) n ≡ true = rw e refl in
      look_joined (filter (keeps b (names_of vs)) vs) (map as_local rs) n
      ∙ ap (λ (o : Option VarInfo). or_else o (look (map as_local rs) n)) (look_stays (stays b (names_of vs)) vs n k ∙ h)

  no_by : (n : List ℕ) (t : Bool) → stays b (names_of vs) n ≡ t → look vs n ≡ None → look (filter (keeps b (names_of vs)) vs) n ≡ None
  no_by n true e h = look_stays (stays b (names_of vs)) vs n e ∙ h
  no_by n false e h = look_goes (stays b (names_of vs)) vs n e

  look_rest : (n : List ℕ) → look (filter (keeps b (names_of vs)) vs) n ≡ None → look new n ≡ look (map as_local rs) n
  look_rest n h = look_joined (filter (keeps b (names_of vs)) vs) (map as_local rs) n ∙ ap (λ (o : Option VarInfo). or_else o (look (map as_local rs) n)) h

  look_new : (x : ℕ) (r : List ℕ) → register b x ≡ Some r → look new r ≡ Some (as_local r)
  look_new x r e = look_rest r (no_by r (stays b (names_of vs) r) refl (look_none vs r (binds.fresh x r e))) ∙ look_local rs r (are.all x r e)

  look_own : (x : ℕ) (v : VarInfo) → slice_get vs x ≡ Some v → look vs v.name ≡ Some v
  look_own x v h = sym (get_place vs v.name) ∙ ap (slice_get vs) (place_own vs x v differ h) ∙ h

  bound_inside : (x : ℕ) (r : List ℕ) → register b x ≡ Some r → x < length vs
  bound_inside x r e = let s = some_there (slice_get vs x) (binds.locals x r e) in slice_get_within vs x s.0 s.1

  -- the number of a local with a register is that of the register
  pub bound_number : (x : ℕ) (r : List ℕ) → register b x ≡ Some r → number_for x ≡ place_or_end (names_of new) r
  bound_number x r e = inside_is x (bound_inside x r e) ∙ rw e refl

  pub kept_number : (x : ℕ) (v : VarInfo) → register b x ≡ None → slice_get vs x ≡ Some v → number_for x ≡ place_or_end (names_of new) v.name
  kept_number x v e h = inside_is x (slice_get_within vs x v h) ∙ rw (e, h) refl

  there_kept : (x : ℕ) (v : VarInfo) → register b x ≡ None → slice_get vs x ≡ Some v → slice_get new (number_for x) ≡ Some v
  there_kept x v e h = ap (slice_get new) (kept_number x v e h) ∙ get_place new v.name
      ∙ look_kept v.name v (ap (register b) (place_own vs x v differ h) ∙ e) (look_own x v h)

  there_bound : (x : ℕ) (r : List ℕ) → register b x ≡ Some r → slice_get new (number_for x) ≡ Some (as_local r)
  there_bound x r e = ap (slice_get new) (bound_number x r e) ∙ get_place new r ∙ look_new x r e

  past_is : (x : ℕ) → nat_lt x (length vs) ≡ false → number_for x ≡ length new + (x - length vs)
  past_is x h = rw h refl

  kept_by_place : (x : ℕ) (t : Bool) → nat_lt x (length vs) ≡ t → register b x ≡ None → slice_get new (number_for x) ≡ slice_get vs x
  kept_by_place x true h e = let v = element_at vs x (ltb-true x (length vs) h) in there_kept x v.0 e v.1 ∙ sym v.1
  kept_by_place x false h e =
      let past : length vs ≤ x = ltb-false x (length vs) h in
      ap (slice_get new) (past_is x h) ∙ slice_get_past new (length new + (x - length vs)) (omega arith) ∙ sym (slice_get_past vs x past)

  pub is_kept : (x : ℕ) → is_bound b x ≡ false → slice_get new (number_for x) ≡ slice_get vs x
  is_kept x h = kept_by_place x (nat_lt x (length vs)) refl (unbound_is b x (register b x) refl h)

  pub is_register : (x : ℕ) → is_bound b x ≡ true → is_scalar_local (slice_get new (number_for x)) ≡ true
  is_register x h = let r = bound_is b x (register b x) refl h in rw (there_bound x r.0 r.1) refl

  pub is_local_of : (x : ℕ) → is_bound b x ≡ true → is_scalar_local (slice_get vs x) ≡ true
  is_local_of x h = let r = bound_is b x (register b x) refl h in binds.locals x r.0 r.1

  -- ---- numbers that differ
  not_fresh : (x y : ℕ) (v : VarInfo) (r : List ℕ) → slice_get vs x ≡ Some v → register b y ≡ Some r → v.name ≡ r → ⊥
  not_fresh x y v r h e same = none_is_not_some (look vs r) v (look_none vs r (binds.fresh y r e)) (subst (λ n. look vs n ≡ Some v) same (look_own x v h))

  apart_in : (x y : ℕ) (v : VarInfo) (o : Option (List ℕ)) → register b x ≡ None → slice_get vs x ≡ Some v → register b y ≡ o → y < length vs
      → number_for x ≡ number_for y → x ≡ y
  apart_in x y v None e h g i same =
      let w = element_at vs y i in
      let equal : Some v ≡ Some w.0 = sym (there_kept x v e h) ∙ ap (slice_get new) same ∙ there_kept y w.0 g w.1 in
      let vw : v ≡ w.0 = cc equal in
      sym (place_own vs x v differ h) ∙ ap (λ (u : VarInfo). place_or_end (names_of vs) u.name) vw ∙ place_own vs y w.0 differ w.1
  apart_in x y v (Some r) e h g i same =
      let equal : Some v ≡ Some (as_local r) = sym (there_kept x v e h) ∙ ap (slice_get new) same ∙ there_bound y r g in
      let vr : v ≡ as_local r = cc equal in
      absurd (not_fresh x y v r h g (ap (λ (u : VarInfo). u.name) vr))

  number_in : (y : ℕ) (o : Option (List ℕ)) → register b y ≡ o → y < length vs → number_for y < length new
  number_in y None g i = let w = element_at vs y i in slice_get_within new (number_for y) w.0 (there_kept y w.0 g w.1)
  number_in y (Some r) g i = slice_get_within new (number_for y) (as_local r) (there_bound y r g)

  apart_by : (x y : ℕ) (s t : Bool) → nat_lt x (length vs) ≡ s → nat_lt y (length vs) ≡ t → register b x ≡ None → number_for x ≡ number_for y → x ≡ y
  apart_by x y true true h i e same = let v = element_at vs x (ltb-true x (length vs) h) in
      apart_in x y v.0 (register b y) e v.1 refl (ltb-true y (length vs) i) same
  apart_by x y true false h i e same = absurd (omega (arith, number_in x (register b x) refl (ltb-true x (length vs) h), past_is y i, same))
  apart_by x y false true h i e same = absurd (omega (arith, number_in y (register b y) refl (ltb-true y (length vs) i), past_is x h, same))
  apart_by x y false false h i e same = omega (arith, ltb-false x (length vs) h, ltb-false y (length vs) i, past_is x h, past_is y i, same)

  pub are_apart : (x y : ℕ) → is_bound b x ≡ false → number_for x ≡ number_for y → x ≡ y
  are_apart x y h same = apart_by x y (nat_lt x (length vs)) (nat_lt y (length vs)) refl refl (unbound_is b x (register b x) refl h) same

  -- locals that share a number have one register
  pub shared_register : (x y : ℕ) (r q : List ℕ) → register b x ≡ Some r → register b y ≡ Some q → number_for x ≡ number_for y → r ≡ q
  shared_register x y r q e g same =
      let equal : Some (as_local r) ≡ Some (as_local q) = sym (there_bound x r e) ∙ ap (slice_get new) same ∙ there_bound y q g in
      let rq : as_local r ≡ as_local q = cc equal in
      ap (λ (u : VarInfo). u.name) rq

  -- ---- outputs
  module _ (s t : Store) (agree : Agree number_for (is_bound b) s t) (differ_new : names_differ (names_of new) ≡ true) where
    content_by : (o : Sort) (x : ℕ) → is_bound b x ≡ false → content o x s ≡ content o (number_for x) t
    content_by Scalar x h = ap (λ z. runs.Number z) (agree.scalars x h)
    content_by Array x h = ap (λ (g : ℤ → ℤ). runs.Entries g) (agree.arrays x h)
    content_by Port x h = ap (λ (ns : List ℤ). runs.Emitted ns) (agree.ports x h)

    shown_by : (n : List ℕ) (o : Option VarInfo) (r : Option (List ℕ)) → look vs n ≡ o → register b (place_or_end (names_of vs) n) ≡ r
        → shown o (0 + place_or_end (names_of vs) n) s ≡ shown (look new n) (0 + place_or_end (names_of new) n) t
    shown_by n None r h e =
        sym (ap (λ (u : Option VarInfo). shown u (0 + place_or_end (names_of new) n) t) (look_rest n (no_by n (stays b (names_of vs) n) refl h))
        ∙ local_hidden rs n (0 + place_or_end (names_of new) n) t)
    shown_by n (Some v) (Some r) h e =
        let x = place_or_end (names_of vs) n in
        let k : stays b (names_of vs) n ≡ false = rw e refl in
        let there : slice_get vs x ≡ Some v = get_place vs n ∙ h in
        let local : is_scalar_local (Some v) ≡ true = subst (λ (u : Option VarInfo). is_scalar_local u ≡ true) there (binds.locals x r e) in
        let role : is_output v.role ≡ false = local_role v.role (is_scalar v.sort) local in
        rw role
        (sym (ap (λ (u : Option VarInfo). shown u (0 + place_or_end (names_of new) n) t) (look_rest n (look_goes (stays b (names_of vs)) vs n k))
        ∙ local_hidden rs n (0 + place_or_end (names_of new) n) t))
    shown_by n (Some v) None h e =
        let x = place_or_end (names_of vs) n in
        let there : slice_get vs x ≡ Some v = get_place vs n ∙ h in
        let free : is_bound b x ≡ false = rw e refl in
        let named : v.name ≡ n = look_name vs n v h in
        let number : number_for x ≡ place_or_end (names_of new) n = kept_number x v e there ∙ ap (place_or_end (names_of new)) named in
        let z : 0 + x ≡ x = omega arith in
        let w : 0 + place_or_end (names_of new) n ≡ number_for x = omega (arith, number) in
        rw (look_kept n v e h, z, w) (ap (λ (c : Content). cond (is_output v.role) (Some c) None) (content_by v.sort x free))

    pub same_output : (n : List ℕ) → output_from vs 0 s n ≡ output_from new 0 t n
    same_output n = output_is vs 0 s n differ ∙ shown_by n (look vs n) (register b (place_or_end (names_of vs) n)) refl refl
        ∙ sym (output_is new 0 t n differ_new)
