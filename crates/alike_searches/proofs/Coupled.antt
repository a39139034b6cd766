-- The positions of machines that declare the same stand in couples.
use Rattle.std.proofs.Common.{◌≡◌, ℕ, zero, suc, ◌+◌, List, [], ◌∷◌, ◌++◌, map, ap, sym, refl, ◌∙◌, subst, arith, Option, Some, Bool, true, false, cond, inl}
use Rattle.std.proofs.Common.{inr}
use Rattle.std.specs.Prelude.{not, ◌||◌, ◌⊎◌, slice_get}
use Rattle.std.specs.List.{list_any, filter}
use Rattle.std.specs.Option.{option_to_list}
use Rattle.std.specs.Str.{bytes_eq}
use Rattle.std.proofs.lemmas.List.{append-nil}
use Rattle.std.proofs.lemmas.Bool.{or_right, not-true}
use Rattle.fs_model.proofs.Booleans.{and_first, and_second}
use Rattle.fs_model.specs.SoundMachines.{IsSound, names_differ}
use Rattle.fs_model.specs.declared.parts.Sort.{Sort}
use Rattle.fs_model.specs.declared.parts.VarInfo.{VarInfo}
use Rattle.fs_model.specs.Machines.{Fsmd}
use Rattle.fs_pair.specs.SidedVariables.{SidedVariable, sided_variables, same_name_and_sort, partner_among, with_partners, is_alone, all_sided_variables}
use Rattle.fs_pair.specs.Positions.{position_of, positions}
use Rattle.fs_pair.proofs.Tests.{same_name, are_same}
use Rattle.fs_model.specs.declared.sides.Side.TheVariants.{Left, Right}
use Rattle.fs_model.specs.declared.sides.Pos.{Pos}
use Rattle.sym_paths.specs.ValuationStores.{at}
use Rattle.cert_bisimulation.specs.Alike.{DeclareTheSame}
use Rattle.cert_bisimulation.proofs.Outputs.{listed}
use Rattle.alike_searches.specs.Couples.{AreCouples, sorted_positions}

-- ---- names that differ

module _ (w : VarInfo) (vs : List VarInfo) (d : names_differ (map (λ (z : VarInfo). z.name) (w ∷ vs)) ≡ true) where
  pub others_differ : names_differ (map (λ (z : VarInfo). z.name) vs) ≡ true
  others_differ = and_second (not (list_any (λ m. bytes_eq m w.name) (map (λ (z : VarInfo). z.name) vs))) (names_differ (map (λ (z : VarInfo). z.name) vs)) d

  -- no later variable has the first one's name
  pub not_again : (k : ℕ) (v : VarInfo) → slice_get vs k ≡ Some v → v.name ≡ w.name → ⊥
  not_again k v e n =
      let f : list_any (λ m. bytes_eq m w.name) (map (λ (z : VarInfo). z.name) vs) ≡ false =
      not-true (list_any (λ m. bytes_eq m w.name) (map (λ (z : VarInfo). z.name) vs))
      (and_first (not (list_any (λ m. bytes_eq m w.name) (map (λ (z : VarInfo). z.name) vs))) (names_differ (map (λ (z : VarInfo). z.name) vs)) d) in
      let c : true ≡ false = sym (listed vs k v w.name e n) ∙ f in
      cc c

-- two variables of one name are one
pub one_name : (vs : List VarInfo) (i j : ℕ) (u w : VarInfo) → names_differ (map (λ (z : VarInfo). z.name) vs) ≡ true → slice_get vs i ≡ Some u
    → slice_get vs j ≡ Some w → u.name ≡ w.name → i ≡ j
one_name [] i j u w d e g n = absurd (cc e)
one_name (v ∷ vs) zero zero u w d e g n = refl
one_name (v ∷ vs) zero (suc j) u w d e g n = let same : v ≡ u = cc e in absurd (not_again v vs d j w g (sym n ∙ sym (ap (λ (z : VarInfo). z.name) same)))
one_name (v ∷ vs) (suc i) zero u w d e g n = let same : v ≡ w = cc g in absurd (not_again v vs d i u e (n ∙ sym (ap (λ (z : VarInfo). z.name) same)))
one_name (v ∷ vs) (suc i) (suc j) u w d e g n = ap suc (one_name vs i j u w (others_differ v vs d) e g n)

-- ---- partners

pub partner_is :
    (vs : List VarInfo) (x y : ℕ) (v : VarInfo) → names_differ (map (λ (z : VarInfo). z.name) vs) ≡ true → slice_get vs y ≡ Some v
    → partner_among (sided_variables Right x vs) v ≡ Some (record { pos = record { side = Right; var = x + y }; variable = v })
partner_is [] x y v d e = absurd (cc e)
partner_is (w ∷ vs) x zero v d e =
    let same : w ≡ v = cc e in
    let n : x ≡ x + 0 = omega arith in
    let t : same_name_and_sort v w ≡ true = are_same v w (ap (λ (z : VarInfo). z.name) same) (ap (λ (z : VarInfo). z.sort) same) in
    ap
    (λ b. cond {A = Option SidedVariable} b (Some (record { pos = record { side = Right; var = x }; variable = w }))
    (partner_among (sided_variables Right (x + 1) vs) v)) t
    ∙ (λ k. Some (record { pos = record { side = Right; var = n k }; variable = same k }))
partner_is (w ∷ vs) x (suc y) v d e =
    let n : (x + 1) + y ≡ x + suc y = omega arith in
    by_test (same_name_and_sort v w) refl ∙ partner_is vs (x + 1) y v (others_differ w vs d) e
    ∙ (λ k. Some (record { pos = record { side = Right; var = n k }; variable = v }))
  where
    by_test :
        (b : Bool) → same_name_and_sort v w ≡ b
        → cond {A = Option SidedVariable} b (Some (record { pos = record { side = Right; var = x }; variable = w }))
        (partner_among (sided_variables Right (x + 1) vs) v) ≡ partner_among (sided_variables Right (x + 1) vs) v
    by_test true t = absurd (not_again w vs d y v e (sym (same_name v w t)))
    by_test false t = refl

some_left : (vs : List VarInfo) (x k : ℕ) (u : VarInfo) → slice_get vs k ≡ Some u
    → list_any (λ t. same_name_and_sort u t.variable) (sided_variables Left x vs) ≡ true
some_left [] x k u e = absurd (cc e)
some_left (w ∷ vs) x zero u e =
    let same : w ≡ u = cc e in
    ap (λ b. b || list_any (λ t. same_name_and_sort u t.variable) (sided_variables Left (x + 1) vs))
    (are_same u w (ap (λ (z : VarInfo). z.name) same) (ap (λ (z : VarInfo). z.sort) same))
some_left (w ∷ vs) x (suc k) u e = or_right (same_name_and_sort u w) (list_any (λ t. same_name_and_sort u t.variable) (sided_variables Left (x + 1) vs))
    (some_left vs (x + 1) k u e)

none_alone : (lefts : List SidedVariable) (vs : List VarInfo) (y : ℕ)
    → ((k : ℕ) (u : VarInfo) → slice_get vs k ≡ Some u → list_any (λ t. same_name_and_sort u t.variable) lefts ≡ true)
    → filter (is_alone lefts) (sided_variables Right y vs) ≡ []
none_alone lefts [] y h = refl
none_alone lefts (u ∷ vs) y h =
    ap
    (λ b. cond (not b) (record { pos = record { side = Right; var = y }; variable = u } ∷ filter (is_alone lefts) (sided_variables Right (y + 1) vs))
    (filter (is_alone lefts) (sided_variables Right (y + 1) vs))) (h 0 u refl)
    ∙ none_alone lefts vs (y + 1) (λ k w e. h (suc k) w e)

-- ---- couples

abbrev pub sided_place : SidedVariable → Pos × Sort
sided_place s = (s.pos, s.variable.sort)

places_are : (whole ss : List SidedVariable) → sorted_positions (map (position_of whole) ss) ≡ map sided_place ss
places_are whole [] = refl
places_are whole (s ∷ ss) = ap (λ z. sided_place s ∷ z) (places_are whole ss)

-- a left variable is that of some couple
abbrev pub Among : ℕ → List (Pos × Sort) → Type 0
Among x [] = ⊥
Among x (p ∷ []) = ⊥
Among x (p ∷ q ∷ ps) = (p.0 ≡ at Left x) ⊎ Among x ps

module _ (a b : Fsmd) (sound_b : IsSound b) (same : DeclareTheSame a b) where
  pub first_of : (x : ℕ) (v : VarInfo) (vs : List VarInfo) → ((j : ℕ) (w : VarInfo) → slice_get (v ∷ vs) j ≡ Some w → slice_get a.variables (x + j) ≡ Some w)
      → slice_get a.variables x ≡ Some v
  first_of x v vs h = let n : x + 0 ≡ x = omega arith in sym (ap (slice_get a.variables) n) ∙ h 0 v refl

  pub rest_of : (x : ℕ) (v : VarInfo) (vs : List VarInfo) → ((j : ℕ) (w : VarInfo) → slice_get (v ∷ vs) j ≡ Some w → slice_get a.variables (x + j) ≡ Some w)
      → (j : ℕ) (w : VarInfo) → slice_get vs j ≡ Some w → slice_get a.variables ((x + 1) + j) ≡ Some w
  rest_of x v vs h j w e = let n : (x + 1) + j ≡ x + suc j = omega arith in ap (slice_get a.variables) n ∙ h (suc j) w e

  pub twin_of : (x : ℕ) (v : VarInfo) → slice_get a.variables x ≡ Some v
      → (y : ℕ) × (slice_get b.variables y ≡ Some v)
      × (partner_among (sided_variables Right 0 b.variables) v ≡ Some (record { pos = record { side = Right; var = y }; variable = v }))
  twin_of x v e =
      let y = same.forth x v e in
      let n : 0 + y.0 ≡ y.0 = omega arith in
      (y.0, y.1, partner_is b.variables 0 y.0 v sound_b.variables_differ y.1 ∙ (λ k. Some (record { pos = record { side = Right; var = n k }; variable = v })))

  left_couples :
      (x : ℕ) (vs : List VarInfo) → ((j : ℕ) (w : VarInfo) → slice_get vs j ≡ Some w → slice_get a.variables (x + j) ≡ Some w)
      → AreCouples a b (map sided_place (with_partners (sided_variables Left x vs) (sided_variables Right 0 b.variables)))
  left_couples x [] h = tt
  left_couples x (v ∷ vs) h =
      let t = twin_of x v (first_of x v vs h) in
      let s : SidedVariable = record { pos = record { side = Left; var = x }; variable = v } in
      subst
      (λ o. AreCouples a b (map sided_place ((s ∷ option_to_list o) ++ with_partners (sided_variables Left (x + 1) vs) (sided_variables Right 0 b.variables))))
      (sym t.2) (
        record {
          left = x;
          right = t.0;
          left_at = refl;
          right_at = refl;
          sorts = refl;
          twins = record { variable = v; left = first_of x v vs h; right = t.1; sorted = refl };
        },
        left_couples (x + 1) vs (rest_of x v vs h),
      )

  left_among : (x : ℕ) (vs : List VarInfo) → ((j : ℕ) (w : VarInfo) → slice_get vs j ≡ Some w → slice_get a.variables (x + j) ≡ Some w) → (k : ℕ) (u : VarInfo)
      → slice_get vs k ≡ Some u → Among (x + k) (map sided_place (with_partners (sided_variables Left x vs) (sided_variables Right 0 b.variables)))
  left_among x [] h k u e = absurd (cc e)
  left_among x (v ∷ vs) h k u e =
      let t = twin_of x v (first_of x v vs h) in
      let s : SidedVariable = record { pos = record { side = Left; var = x }; variable = v } in
      subst
      (λ o. Among (x + k) (map sided_place ((s ∷ option_to_list o) ++ with_partners (sided_variables Left (x + 1) vs) (sided_variables Right 0 b.variables))))
      (sym t.2) (by_place k e (λ j g. left_among (x + 1) vs (rest_of x v vs h) j u g))
    where
      by_place : (k : ℕ) → slice_get (v ∷ vs) k ≡ Some u
          → ((j : ℕ) → slice_get vs j ≡ Some u
          → Among ((x + 1) + j) (map sided_place (with_partners (sided_variables Left (x + 1) vs) (sided_variables Right 0 b.variables))))
          → (at Left x ≡ at Left (x + k))
          ⊎ Among (x + k) (map sided_place (with_partners (sided_variables Left (x + 1) vs) (sided_variables Right 0 b.variables)))
      by_place zero e later = let n : x ≡ x + 0 = omega arith in inl (ap (at Left) n)
      by_place (suc j) e later = let n : (x + 1) + j ≡ x + suc j = omega arith in
          inr (subst (λ z. Among z (map sided_place (with_partners (sided_variables Left (x + 1) vs) (sided_variables Right 0 b.variables)))) n (later j e))

  -- no right variable is alone
  pub all_are_partnered : all_sided_variables a.variables b.variables ≡ with_partners (sided_variables Left 0 a.variables) (sided_variables Right 0 b.variables)
  all_are_partnered =
      ap (λ z. with_partners (sided_variables Left 0 a.variables) (sided_variables Right 0 b.variables) ++ z)
      (none_alone (sided_variables Left 0 a.variables) b.variables 0 (λ k u e. let x = same.back k u e in some_left a.variables 0 x.0 u x.1))
      ∙ append-nil (with_partners (sided_variables Left 0 a.variables) (sided_variables Right 0 b.variables))

  all_places : sorted_positions (positions a b) ≡ map sided_place (with_partners (sided_variables Left 0 a.variables) (sided_variables Right 0 b.variables))
  all_places = places_are (all_sided_variables a.variables b.variables) (all_sided_variables a.variables b.variables) ∙ ap (map sided_place) all_are_partnered

  pub whole_suffix : (j : ℕ) (w : VarInfo) → slice_get a.variables j ≡ Some w → slice_get a.variables (0 + j) ≡ Some w
  whole_suffix j w e = let n : 0 + j ≡ j = omega arith in ap (slice_get a.variables) n ∙ e

  pub positions_couple : AreCouples a b (sorted_positions (positions a b))
  positions_couple = subst (AreCouples a b) (sym all_places) (left_couples 0 a.variables whole_suffix)

  pub positions_among : (x : ℕ) (v : VarInfo) → slice_get a.variables x ≡ Some v → Among x (sorted_positions (positions a b))
  positions_among x v e =
      let n : 0 + x ≡ x = omega arith in
      subst (Among x) (sym all_places)
      (subst (λ z. Among z (map sided_place (with_partners (sided_variables Left 0 a.variables) (sided_variables Right 0 b.variables)))) n
      (left_among 0 a.variables whole_suffix x v e))
