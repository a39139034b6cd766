-- The names of the variables when registers stand for locals: they differ, and there are no more than before.
use Rattle.std.proofs.Common.{◌≡◌, ℕ, zero, suc, ◌+◌, ◌≤◌, List, [], ◌∷◌, ◌++◌, length, map, ap, sym, refl, ◌∙◌, subst, arith, Bool, true, false, cond, Option}
use Rattle.std.proofs.Common.{Some, None, Less, Equal}
use Rattle.std.specs.Prelude.{◌||◌, not, filter, slice_get, is_some}
use Rattle.std.specs.List.{list_any, AllByRecursion}
use Rattle.std.specs.List.Sorted.{IsStrictlySortedBy}
use Rattle.std.specs.Option.{option_to_list}
use Rattle.std.specs.Ordering.{nat_cmp, ordering_then}
use Rattle.std.specs.Cmp.{nat_cmp_total}
use Rattle.std.proofs.lemmas.Cmp.{tied_itself}
use Rattle.std.specs.Cmp.Lexicographic.{slice_cmp}
use Rattle.std.specs.Str.{bytes_eq}
use Rattle.std.proofs.lemmas.Bool.{or_parts, or_from, or_left, and_from, or_right, false_from_ne_true, not-true}
use Rattle.std.proofs.lemmas.List.{map-append}
use Rattle.fs_model.proofs.Booleans.{and_first, and_second}
use Rattle.fs_model.proofs.Lists.{bytes_eq-true, bytes_eq-self}
use Rattle.fs_model.specs.declared.parts.VarInfo.{VarInfo}
use Rattle.fs_ast.specs.MachineOfParts.{place_or_end, names_of}
use Rattle.fs_model.specs.SoundMachines.{names_differ}
use Rattle.fs_ast.proofs.Repeats.{is_listed, kept_absent, kept_differ}
use Rattle.hls_bind.specs.Bindings.{register, IsBindingOf, AreRegisters}
use Rattle.hls_bind.proofs.Looks.{place_own}
use Rattle.hls_bind.proofs.Variables.{as_local, keeps, some_there}

-- ---- lists one after another
listed_cases : (x : List ℕ) (cs bs : List (List ℕ)) → is_listed x cs ≡ false → is_listed x bs ≡ false → is_listed x (cs ++ bs) ≡ false
listed_cases x [] bs h i = i
listed_cases x (a ∷ cs) bs h i = let e = or_parts (bytes_eq a x) (is_listed x cs) h in
    or_from (bytes_eq a x) (is_listed x (cs ++ bs)) e.0 (listed_cases x cs bs e.1 i)

joined_differ : (cs bs : List (List ℕ)) → names_differ cs ≡ true → names_differ bs ≡ true → ((x : List ℕ) → is_listed x cs ≡ true → is_listed x bs ≡ false)
    → names_differ (cs ++ bs) ≡ true
joined_differ [] bs h i apart = i
joined_differ (a ∷ cs) bs h i apart =
    and_from (not (is_listed a (cs ++ bs))) (names_differ (cs ++ bs))
    (ap not
    (listed_cases a cs bs (not-true (is_listed a cs) (and_first (not (is_listed a cs)) (names_differ cs) h))
    (apart a (or_left (bytes_eq a a) (is_listed a cs) (bytes_eq-self a)))))
    (joined_differ cs bs (and_second (not (is_listed a cs)) (names_differ cs) h) i (λ x e. apart x (or_right (bytes_eq a x) (is_listed x cs) e)))

-- ---- registers in order
cmp_same : (n : List ℕ) → slice_cmp nat_cmp n n ≡ Equal
cmp_same [] = refl
cmp_same (x ∷ xs) = ap (λ o. ordering_then o (slice_cmp nat_cmp xs xs)) (tied_itself nat_cmp_total x) ∙ cmp_same xs

not_less : (x y : List ℕ) → slice_cmp nat_cmp x y ≡ Less → bytes_eq y x ≡ false
not_less x y h = false_from_ne_true (bytes_eq y x)
    (λ e. let same = bytes_eq-true y x e in let g : slice_cmp nat_cmp x x ≡ Less = subst (λ z. slice_cmp nat_cmp x z ≡ Less) same h in
    let i = cmp_same x in cc (g, i))

above_absent : (x : List ℕ) (xs : List (List ℕ)) → AllByRecursion (λ y. slice_cmp nat_cmp x y ≡ Less) xs → is_listed x xs ≡ false
above_absent x [] h = refl
above_absent x (y ∷ ys) h = or_from (bytes_eq y x) (is_listed x ys) (not_less x y h.0) (above_absent x ys h.1)

sorted_differ : (xs : List (List ℕ)) → IsStrictlySortedBy (slice_cmp nat_cmp) xs → names_differ xs ≡ true
unfolding IsStrictlySortedBy
sorted_differ [] h = refl
sorted_differ (x ∷ xs) h = and_from (not (is_listed x xs)) (names_differ xs) (ap not (above_absent x xs h.0)) (sorted_differ xs h.1)

register_names : (rs : List (List ℕ)) → names_of (map as_local rs) ≡ rs
register_names [] = refl
register_names (r ∷ rs) = ap (λ qs. r ∷ qs) (register_names rs)

-- ---- no more names than places
abbrev without_one : List ℕ → List (List ℕ) → List (List ℕ)
without_one n [] = []
without_one n (m ∷ ms) = cond (bytes_eq m n) ms (m ∷ without_one n ms)

one_less_by : (n m : List ℕ) (ms : List (List ℕ)) (t : Bool) → bytes_eq m n ≡ t → (t || is_listed n ms) ≡ true
    → (is_listed n ms ≡ true → suc (length (without_one n ms)) ≡ length ms) → suc (length (cond t ms (m ∷ without_one n ms))) ≡ suc (length ms)
one_less_by n m ms true e h next = refl
one_less_by n m ms false e h next = ap suc (next h)

one_less : (n : List ℕ) (ms : List (List ℕ)) → is_listed n ms ≡ true → suc (length (without_one n ms)) ≡ length ms
one_less n [] h = absurd (cc h)
one_less n (m ∷ ms) h = one_less_by n m ms (bytes_eq m n) refl h (one_less n ms)

still_by : (n x m : List ℕ) (ms : List (List ℕ)) (t s : Bool) → bytes_eq m n ≡ t → bytes_eq m x ≡ s → bytes_eq n x ≡ false → (s || is_listed x ms) ≡ true
    → (is_listed x ms ≡ true → is_listed x (without_one n ms) ≡ true) → is_listed x (cond t ms (m ∷ without_one n ms)) ≡ true
still_by n x m ms true true e g h i next = let same = bytes_eq-true m n e in let f : bytes_eq n x ≡ true = subst (λ k. bytes_eq k x ≡ true) same g in
    absurd (cc (f, h))
still_by n x m ms true false e g h i next = i
still_by n x m ms false true e g h i next = or_left (bytes_eq m x) (is_listed x (without_one n ms)) g
still_by n x m ms false false e g h i next = or_right (bytes_eq m x) (is_listed x (without_one n ms)) (next i)

still_there : (n x : List ℕ) (ms : List (List ℕ)) → bytes_eq n x ≡ false → is_listed x ms ≡ true → is_listed x (without_one n ms) ≡ true
still_there n x [] h i = absurd (cc i)
still_there n x (m ∷ ms) h i = still_by n x m ms (bytes_eq m n) (bytes_eq m x) refl refl h i (still_there n x ms h)

apart_by : (n x : List ℕ) (ns : List (List ℕ)) → is_listed n ns ≡ false → is_listed x ns ≡ true → bytes_eq n x ≡ false
apart_by n x ns h i = false_from_ne_true (bytes_eq n x)
    (λ e. let same = bytes_eq-true n x e in let f : is_listed x ns ≡ false = subst (λ k. is_listed k ns ≡ false) same h in cc (f, i))

few_names : (ns ms : List (List ℕ)) → names_differ ns ≡ true → ((x : List ℕ) → is_listed x ns ≡ true → is_listed x ms ≡ true) → length ns ≤ length ms
few_names [] ms h i = omega arith
few_names (n ∷ ns) ms h i =
    let fresh = not-true (is_listed n ns) (and_first (not (is_listed n ns)) (names_differ ns) h) in
    let less = one_less n ms (i n (or_left (bytes_eq n n) (is_listed n ns) (bytes_eq-self n))) in
    let rest = few_names ns (without_one n ms) (and_second (not (is_listed n ns)) (names_differ ns) h)
    (λ x e. still_there n x ms (apart_by n x ns fresh e) (i x (or_right (bytes_eq n x) (is_listed x ns) e))) in
    omega (arith, less, rest)

-- ---- the new variables
module _ (b : List (ℕ × List ℕ)) (vs : List VarInfo) (rs : List (List ℕ)) (binds : IsBindingOf vs b) (are : AreRegisters b rs)
    (differ : names_differ (names_of vs) ≡ true) where
  abbrev ns : List (List ℕ)
  ns = names_of vs

  -- the registers of variables, one for each that has one
  abbrev taken : List VarInfo → List (List ℕ)
  taken [] = []
  taken (v ∷ us) = option_to_list (register b (place_or_end ns v.name)) ++ taken us

  counted_by : (v : VarInfo) (us kept : List VarInfo) (gone : List (List ℕ)) (o : Option (List ℕ)) → length kept + length gone ≡ length us
      → length (cond (not (is_some o)) (v ∷ kept) kept) + length (option_to_list o ++ gone) ≡ suc (length us)
  counted_by v us kept gone None h = omega (arith, h)
  counted_by v us kept gone (Some r) h = omega (arith, h)

  counted : (us : List VarInfo) → length (filter (keeps b ns) us) + length (taken us) ≡ length us
  counted [] = omega arith
  counted (v ∷ us) = counted_by v us (filter (keeps b ns) us) (taken us) (register b (place_or_end ns v.name)) (counted us)

  in_taken_by : (o : Option (List ℕ)) (r : List ℕ) (rest : List (List ℕ)) → o ≡ Some r → is_listed r (option_to_list o ++ rest) ≡ true
  in_taken_by None r rest h = absurd (cc h)
  in_taken_by (Some q) r rest h = let same : q ≡ r = cc h in or_left (bytes_eq q r) (is_listed r rest) (ap (λ k. bytes_eq k r) same ∙ bytes_eq-self r)

  after_taken : (o : Option (List ℕ)) (r : List ℕ) (rest : List (List ℕ)) → is_listed r rest ≡ true → is_listed r (option_to_list o ++ rest) ≡ true
  after_taken None r rest h = h
  after_taken (Some q) r rest h = or_right (bytes_eq q r) (is_listed r rest) h

  in_taken : (us : List VarInfo) (k : ℕ) (v : VarInfo) (r : List ℕ) → slice_get us k ≡ Some v → register b (place_or_end ns v.name) ≡ Some r
      → is_listed r (taken us) ≡ true
  in_taken [] k v r h e = absurd (cc h)
  in_taken (u ∷ us) zero v r h e = let same : u ≡ v = cc h in
      in_taken_by (register b (place_or_end ns u.name)) r (taken us) (ap (λ (w : VarInfo). register b (place_or_end ns w.name)) same ∙ e)
  in_taken (u ∷ us) (suc k) v r h e = after_taken (register b (place_or_end ns u.name)) r (taken us) (in_taken us k v r h e)

  each_taken : (r : List ℕ) → is_listed r rs ≡ true → is_listed r (taken vs) ≡ true
  each_taken r h =
      let x = are.only r h in
      let v = some_there (slice_get vs x.0) (binds.locals x.0 r x.1) in
      in_taken vs x.0 v.0 r v.1 (ap (register b) (place_own vs x.0 v.0 differ v.1) ∙ x.1)

  abbrev new : List VarInfo
  new = filter (keeps b ns) vs ++ map as_local rs

  length_joined : (cs bs : List VarInfo) → length (cs ++ bs) ≡ length cs + length bs
  length_joined [] bs = omega arith
  length_joined (a ∷ cs) bs = let h = length_joined cs bs in omega (arith, h)

  length_registers : (qs : List (List ℕ)) → length (map as_local qs) ≡ length qs
  length_registers [] = refl
  length_registers (q ∷ qs) = ap suc (length_registers qs)

  pub no_more : length new ≤ length vs
  no_more =
      let a = length_joined (filter (keeps b ns) vs) (map as_local rs) in
      let c = length_registers rs in
      let d = counted vs in
      let e = few_names rs (taken vs) (sorted_differ rs are.in_order) each_taken in
      omega (arith, a, c, d, e)

  fresh_listed : (us : List VarInfo) (r : List ℕ) → list_any (λ v. bytes_eq v.name r) us ≡ false → is_listed r (names_of us) ≡ false
  fresh_listed [] r h = refl
  fresh_listed (u ∷ us) r h = let e = or_parts (bytes_eq u.name r) (list_any (λ v. bytes_eq v.name r) us) h in
      or_from (bytes_eq u.name r) (is_listed r (names_of us)) e.0 (fresh_listed us r e.1)

  apart : (x : List ℕ) → is_listed x (names_of (filter (keeps b ns) vs)) ≡ true → is_listed x (names_of (map as_local rs)) ≡ false
  apart x h =
      false_from_ne_true (is_listed x (names_of (map as_local rs))) (λ e.
      let y = are.only x (ap (is_listed x) (sym (register_names rs)) ∙ e) in
      let none = kept_absent (λ (v : VarInfo). v.name) (keeps b ns) vs x (fresh_listed vs x (binds.fresh y.0 x y.1)) in
      cc (h, none))

  pub new_differ : names_differ (names_of new) ≡ true
  new_differ =
      ap names_differ (map-append (λ (v : VarInfo). v.name) (filter (keeps b ns) vs) (map as_local rs))
      ∙ joined_differ (names_of (filter (keeps b ns) vs)) (names_of (map as_local rs)) (kept_differ (λ (v : VarInfo). v.name) (keeps b ns) vs differ)
      (ap names_differ (register_names rs) ∙ sorted_differ rs are.in_order) apart
