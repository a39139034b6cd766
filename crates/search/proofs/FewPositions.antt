-- Two sound machines have at most 256 positions: a right variable is the partner of one left variable at most, or stands alone.
use Rattle.std.proofs.Common.{◌≡◌, ℕ, ◌+◌, ◌≤◌, Bool, true, false, not, ◌&&◌, ◌||◌, cond, List, [], ◌∷◌, length, length-append, map, Some, refl, ap, ◌∙◌, arith}
use Rattle.std.specs.List.{find, filter, list_any}
use Rattle.std.specs.Option.{option_to_list}
use Rattle.std.specs.Str.{bytes_eq}
use Rattle.std.proofs.lemmas.List.{length-map}
use Rattle.std.proofs.lemmas.Bool.{not-true}
use Rattle.fs_model.proofs.Booleans.{and_first, and_second, neither_first, neither_second, not_or_second}
use Rattle.fs_model.proofs.Lists.{length_filter}
use Rattle.fs_model.specs.SoundMachines.{IsSound, names_differ}
use Rattle.fs_model.specs.declared.parts.VarInfo.{VarInfo}
use Rattle.fs_model.specs.Machines.{Fsmd}
use Rattle.fs_model.specs.declared.sides.Side.TheVariants.{Left, Right}
use Rattle.fs_pair.specs.Interfaces.{same_sort}
use Rattle.fs_pair.specs.SidedVariables.{SidedVariable, sided_variables, same_name_and_sort, partner_among, with_partners, is_alone, all_sided_variables}
use Rattle.fs_pair.specs.Positions.{position_of, positions}
use Rattle.fs_pair.proofs.Tests.{same_name, same_back}
use Rattle.fs_pair.proofs.Lengths.{length-sided_variables}
use Rattle.search.specs.SearchOutcomes.{most_positions}

-- ---- lists that pass tests

module _ {X : Type 0} (p t u : X → Bool) (under : (x : X) → u x ≡ true → t x ≡ true) where
  fewer : (xs : List X) → length (filter u xs) ≤ length (filter t xs)
  fewer [] = omega arith
  fewer (x ∷ xs) = by_tests (t x) (u x) (under x) (fewer xs)
    where
      by_tests : (a b : Bool) → (b ≡ true → a ≡ true) → length (filter u xs) ≤ length (filter t xs)
          → length (cond b (x ∷ filter u xs) (filter u xs)) ≤ length (cond a (x ∷ filter t xs) (filter t xs))
      by_tests true true h less = omega (arith, less)
      by_tests true false h less = omega (arith, less)
      by_tests false true h less = absurd (let e : false ≡ true = h refl in cc e)
      by_tests false false h less = less

  -- the first of which p holds passes one test and not the other
  one_fewer : ((x : X) → p x ≡ true → t x ≡ true) → ((x : X) → p x ≡ true → u x ≡ false) → (xs : List X)
      → length (option_to_list (find p xs)) + length (filter u xs) ≤ length (filter t xs)
  one_fewer passes fails [] = omega arith
  one_fewer passes fails (x ∷ xs) = by_tests (p x) (t x) (u x) (under x) (passes x) (fails x) (fewer xs) (one_fewer passes fails xs)
    where
      by_tests : (c a b : Bool) → (b ≡ true → a ≡ true) → (c ≡ true → a ≡ true) → (c ≡ true → b ≡ false) → length (filter u xs) ≤ length (filter t xs)
          → length (option_to_list (find p xs)) + length (filter u xs) ≤ length (filter t xs)
          → length (option_to_list (cond c (Some x) (find p xs))) + length (cond b (x ∷ filter u xs) (filter u xs))
          ≤ length (cond a (x ∷ filter t xs) (filter t xs))
      by_tests true true true h f g less rest = absurd (let e : true ≡ false = g refl in cc e)
      by_tests true true false h f g less rest = omega (arith, less)
      by_tests true false b h f g less rest = absurd (let e : false ≡ true = f refl in cc e)
      by_tests false true true h f g less rest = omega (arith, rest)
      by_tests false true false h f g less rest = omega (arith, rest)
      by_tests false false true h f g less rest = absurd (let e : false ≡ true = h refl in cc e)
      by_tests false false false h f g less rest = rest

-- ---- variables

none_named : (x : VarInfo) (name : List ℕ) (k : ℕ) (us : List VarInfo) → x.name ≡ name → list_any (λ m. bytes_eq m name) (map (λ v. v.name) us) ≡ false
    → list_any (λ s. same_name_and_sort x s.variable) (sided_variables Left k us) ≡ false
none_named x name k [] e h = refl
none_named x name k (u ∷ us) e h =
    let others = list_any (λ m. bytes_eq m name) (map (λ (v : VarInfo). v.name) us) in
    let apart : bytes_eq u.name x.name ≡ false = ap (bytes_eq u.name) e ∙ neither_first (bytes_eq u.name name) others h in
    ap (λ b. (b && same_sort u.sort x.sort) || list_any (λ s. same_name_and_sort x s.variable) (sided_variables Left (k + 1) us)) apart
    ∙ none_named x name (k + 1) us e (neither_second (bytes_eq u.name name) others h)

paired : (k : ℕ) (vs : List VarInfo) (rs : List SidedVariable) → names_differ (map (λ v. v.name) vs) ≡ true
    → length (with_partners (sided_variables Left k vs) rs) + length (filter (is_alone (sided_variables Left k vs)) rs) ≤ length vs + length rs
paired k [] rs h = omega (arith, length_filter (is_alone []) rs)
paired k (v ∷ vs) rs h =
    let ls = sided_variables Left (k + 1) vs in
    let s : SidedVariable = record { pos = record { side = Left; var = k }; variable = v } in
    let named = list_any (λ m. bytes_eq m v.name) (map (λ (u : VarInfo). u.name) vs) in
    let differ = names_differ (map (λ (u : VarInfo). u.name) vs) in
    let apart : named ≡ false = not-true named (and_first (not named) differ h) in
    omega (
      arith,
      length-append (s ∷ option_to_list (partner_among rs v)) (with_partners ls rs),
      one_fewer (λ t. same_name_and_sort v t.variable) (is_alone ls) (is_alone (s ∷ ls))
          (λ t. not_or_second (same_name_and_sort t.variable v) (list_any (λ z. same_name_and_sort t.variable z.variable) ls))
          (λ t e. ap not (none_named t.variable v.name (k + 1) vs (same_name v t.variable e) apart))
          (λ t e. ap (λ b. not (b || list_any (λ z. same_name_and_sort t.variable z.variable) ls)) (same_back v t.variable e))
          rs,
      paired (k + 1) vs rs (and_second (not named) differ h),
    )

few_sided : (vs us : List VarInfo) → names_differ (map (λ v. v.name) vs) ≡ true → length (all_sided_variables vs us) ≤ length vs + length us
few_sided vs us h =
    let ls = sided_variables Left 0 vs in
    let rs = sided_variables Right 0 us in
    omega (arith, length-append (with_partners ls rs) (filter (is_alone ls) rs), paired 0 vs rs h, length-sided_variables Right 0 us)

pub few_positions : (a b : Fsmd) → IsSound a → IsSound b → length (positions a b) ≤ most_positions
few_positions a b s t =
    let ss = all_sided_variables a.variables b.variables in
    omega (arith, length-map ss (position_of ss), few_sided a.variables b.variables s.variables_differ, s.few_variables, t.few_variables)
