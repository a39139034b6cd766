-- The start fact of machines that declare the same is even.
use Rattle.std.proofs.Common.{◌≡◌, ℕ, zero, suc, ◌+◌, List, [], ◌∷◌, ◌++◌, map, ap, sym, refl, ◌∙◌, subst, arith, Option, Some, Bool, true, false, cond}
use Rattle.std.specs.Prelude.{slice_get, option_map}
use Rattle.std.specs.List.{find, position_from}
use Rattle.std.specs.Option.{option_to_list}
use Rattle.std.proofs.lemmas.Option.{slice_get-map}
use Rattle.fs_model.specs.SoundMachines.{IsSound, names_differ}
use Rattle.fs_model.specs.declared.parts.Role.{Role}
use Rattle.fs_model.specs.declared.parts.Role.TheVariants.{Input, Output, Local}
use Rattle.fs_model.specs.declared.parts.Sort.{Sort}
use Rattle.fs_model.specs.declared.parts.VarInfo.{VarInfo}
use Rattle.fs_model.specs.Machines.{Fsmd}
use Rattle.fs_pair.specs.declared.positions.Position.{Position}
use Rattle.fs_pair.specs.SidedVariables.{SidedVariable, sided_variables, same_name_and_sort, with_partners, all_sided_variables, is_partner}
use Rattle.fs_pair.specs.Positions.{position_of, positions}
use Rattle.fs_pair.proofs.Tests.{same_name, are_same}
use Rattle.fs_model.specs.declared.sides.Side.TheVariants.{Left, Right}
use Rattle.fs_model.specs.declared.sides.Pos.{Pos}
use Rattle.sym_paths.specs.ValuationStores.{at}
use Rattle.sym_facts.specs.Facts.{own_symbol, form_or_symbol}
use Rattle.sym_facts.specs.Starts.{start_form, partner_in, start_position, start_fact}
use Rattle.cert_bisimulation.specs.Alike.{DeclareTheSame}
use Rattle.alike_searches.specs.EvenFacts.{AreEvenPositions, IsEvenFact}
use Rattle.alike_searches.proofs.Coupled.{others_differ, not_again, twin_of, first_of, rest_of, whole_suffix, all_are_partnered}

-- the first that passes, by its place
record StandsAt (test : SidedVariable → Bool) (xs : List SidedVariable) (n : ℕ) (s : SidedVariable) : Type 0 where
  place : ℕ
  first : position_from test n xs ≡ Some (n + place)
  at : slice_get xs place ≡ Some s

place_of_found : (test : SidedVariable → Bool) (xs : List SidedVariable) (n : ℕ) (s : SidedVariable) → find test xs ≡ Some s → StandsAt test xs n s
place_of_found test [] n s e = absurd (cc e)
place_of_found test (x ∷ xs) n s e = by_test (test x) refl e (λ g. place_of_found test xs (n + 1) s g)
  where
    by_test : (b : Bool) → test x ≡ b → cond {A = Option SidedVariable} b (Some x) (find test xs) ≡ Some s
        → (find test xs ≡ Some s → StandsAt test xs (n + 1) s) → StandsAt test (x ∷ xs) n s
    by_test true h g next =
        let k : n ≡ n + 0 = omega arith in
        record { place = 0; first = ap (λ b. cond {A = Option ℕ} b (Some n) (position_from test (n + 1) xs)) h ∙ ap Some k; at = g }
    by_test false h g next =
        let r = next g in
        let k : (n + 1) + r.place ≡ n + suc r.place = omega arith in
        record { place = suc r.place; first = ap (λ b. cond {A = Option ℕ} b (Some n) (position_from test (n + 1) xs)) h ∙ r.first ∙ ap Some k; at = r.at }

module _ (a b : Fsmd) (sound_a : IsSound a) (sound_b : IsSound b) (same : DeclareTheSame a b) where
  -- the partner of a right variable is the left one of its name
  partner_found : (x : ℕ) (vs : List VarInfo) → names_differ (map (λ (z : VarInfo). z.name) vs) ≡ true
      → ((j : ℕ) (w : VarInfo) → slice_get vs j ≡ Some w → slice_get a.variables (x + j) ≡ Some w) → (y k : ℕ) (v : VarInfo) → slice_get vs k ≡ Some v
      → find (is_partner (record { pos = record { side = Right; var = y }; variable = v }))
      (with_partners (sided_variables Left x vs) (sided_variables Right 0 b.variables))
      ≡ Some (record { pos = record { side = Left; var = x + k }; variable = v })
  partner_found x [] d h y k v e = absurd (cc e)
  partner_found x (w ∷ vs) d h y k v e =
      let t = twin_of a b sound_b same x w (first_of a b sound_b same x w vs h) in
      let s : SidedVariable = record { pos = record { side = Left; var = x }; variable = w } in
      ap
      (λ o. find (is_partner (record { pos = record { side = Right; var = y }; variable = v }))
      ((s ∷ option_to_list o) ++ with_partners (sided_variables Left (x + 1) vs) (sided_variables Right 0 b.variables))) t.2
      ∙ by_place k e (λ j g. partner_found (x + 1) vs (others_differ w vs d) (rest_of a b sound_b same x w vs h) y j v g)
    where
      by_place : (k : ℕ) → slice_get (w ∷ vs) k ≡ Some v
          → ((j : ℕ) → slice_get vs j ≡ Some v → find (is_partner (record { pos = record { side = Right; var = y }; variable = v }))
          (with_partners (sided_variables Left (x + 1) vs) (sided_variables Right 0 b.variables))
          ≡ Some (record { pos = record { side = Left; var = (x + 1) + j }; variable = v }))
          → cond {A = Option SidedVariable} (same_name_and_sort v w) (Some (record { pos = record { side = Left; var = x }; variable = w }))
          (find (is_partner (record { pos = record { side = Right; var = y }; variable = v }))
          (with_partners (sided_variables Left (x + 1) vs) (sided_variables Right 0 b.variables)))
          ≡ Some (record { pos = record { side = Left; var = x + k }; variable = v })
      by_place zero g later =
          let i : w ≡ v = cc g in
          let n : x ≡ x + 0 = omega arith in
          ap
          (λ c. cond {A = Option SidedVariable} c (Some (record { pos = record { side = Left; var = x }; variable = w }))
          (find (is_partner (record { pos = record { side = Right; var = y }; variable = v }))
          (with_partners (sided_variables Left (x + 1) vs) (sided_variables Right 0 b.variables))))
          (are_same v w (ap (λ (z : VarInfo). z.name) i) (ap (λ (z : VarInfo). z.sort) i))
          ∙ (λ c. Some (record { pos = record { side = Left; var = n c }; variable = i c }))
      by_place (suc j) g later =
          let n : (x + 1) + j ≡ x + suc j = omega arith in
          by_test (same_name_and_sort v w) refl ∙ later j g ∙ (λ c. Some (record { pos = record { side = Left; var = n c }; variable = v }))
        where
          by_test : (c : Bool) → same_name_and_sort v w ≡ c
              → cond {A = Option SidedVariable} c (Some (record { pos = record { side = Left; var = x }; variable = w }))
              (find (is_partner (record { pos = record { side = Right; var = y }; variable = v }))
              (with_partners (sided_variables Left (x + 1) vs) (sided_variables Right 0 b.variables)))
              ≡ find (is_partner (record { pos = record { side = Right; var = y }; variable = v }))
              (with_partners (sided_variables Left (x + 1) vs) (sided_variables Right 0 b.variables))
          by_test true c = absurd (not_again w vs d j v g (sym (same_name v w c)))
          by_test false c = refl

  partner_at : (x y : ℕ) (v : VarInfo) → slice_get a.variables x ≡ Some v
      → partner_in (positions a b)
      (position_from (is_partner (record { pos = record { side = Right; var = y }; variable = v })) 0 (all_sided_variables a.variables b.variables))
      ≡ Some (at Left x)
  partner_at x y v e =
      let all = all_sided_variables a.variables b.variables in
      let test : SidedVariable → Bool = is_partner (record { pos = record { side = Right; var = y }; variable = v }) in
      let n : 0 + x ≡ x = omega arith in
      let f : find test (all_sided_variables a.variables b.variables) ≡ Some (record { pos = record { side = Left; var = x }; variable = v }) =
      ap (find test) (all_are_partnered a b sound_b same) ∙ partner_found 0 a.variables sound_a.variables_differ (whole_suffix a b sound_b same) y x v e
      ∙ (λ k. Some (record { pos = record { side = Left; var = n k }; variable = v })) in
      let r = place_of_found test all 0 (record { pos = record { side = Left; var = x }; variable = v }) f in
      let m : 0 + r.place ≡ r.place = omega arith in
      ap (partner_in (positions a b)) r.first ∙ ap (λ k. option_map (λ (p : Position). p.pos) (slice_get (positions a b) k)) m
      ∙ ap (option_map (λ (p : Position). p.pos)) (slice_get-map (position_of all) all r.place)
      ∙ ap (λ o. option_map (λ (p : Position). p.pos) (option_map (position_of all) o)) r.at

  -- what two twins begin with
  starts_alike : (r : Role) (s : Sort) (p : Pos) (o n : Option Pos) → o ≡ Some p → start_form r Right s o ≡ Some (form_or_symbol s p (start_form r Left s n))
  starts_alike Input s p o n e = ap (option_map (own_symbol s)) e
  starts_alike Output s p o n e = refl
  starts_alike Local s p o n e = refl

  starts_even :
      (x : ℕ) (vs : List VarInfo) → ((j : ℕ) (w : VarInfo) → slice_get vs j ≡ Some w → slice_get a.variables (x + j) ≡ Some w)
      → AreEvenPositions
      (map (start_position (positions a b))
      (map (position_of (all_sided_variables a.variables b.variables)) (with_partners (sided_variables Left x vs) (sided_variables Right 0 b.variables))))
  starts_even x [] h = tt
  starts_even x (v ∷ vs) h =
      let all = all_sided_variables a.variables b.variables in
      let here = first_of a b sound_b same x v vs h in
      let t = twin_of a b sound_b same x v here in
      let s : SidedVariable = record { pos = record { side = Left; var = x }; variable = v } in
      subst
      (λ o. AreEvenPositions
      (map (start_position (positions a b))
      (map (position_of (all_sided_variables a.variables b.variables))
      ((s ∷ option_to_list o) ++ with_partners (sided_variables Left (x + 1) vs) (sided_variables Right 0 b.variables))))) (sym t.2) (
        starts_alike v.role v.sort (at Left x)
            (partner_in (positions a b) (position_from (is_partner (record { pos = record { side = Right; var = t.0 }; variable = v })) 0 all))
            (partner_in (positions a b) (position_from (is_partner s) 0 all)) (partner_at x t.0 v here),
        starts_even (x + 1) vs (rest_of a b sound_b same x v vs h),
      )

  pub start_even : IsEvenFact (start_fact (positions a b))
  start_even =
      subst (λ ss. AreEvenPositions (map (start_position (positions a b)) (map (position_of (all_sided_variables a.variables b.variables)) ss)))
      (sym (all_are_partnered a b sound_b same)) (starts_even 0 a.variables (whole_suffix a b sound_b same))
