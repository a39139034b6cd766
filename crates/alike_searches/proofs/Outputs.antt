-- In an even vector the two terms of each output are the same.
use Rattle.std.proofs.Common.{◌≡◌, ℕ, zero, suc, ◌+◌, List, [], ◌∷◌, map, ap, sym, refl, ◌∙◌, arith, Option, Some, Bool, true, false, cond}
use Rattle.std.specs.Prelude.{slice_get}
use Rattle.std.specs.List.{position_from, AllByRecursion}
use Rattle.std.specs.Str.{bytes_eq}
use Rattle.std.proofs.lemmas.Slice.Eq.{bytes_eq-Decides}
use Rattle.fs_model.specs.SoundMachines.{IsSound, names_differ}
use Rattle.fs_model.specs.declared.parts.Sort.{Sort}
use Rattle.fs_model.specs.declared.parts.Sort.TheVariants as sort
use Rattle.fs_model.specs.declared.parts.VarInfo.{VarInfo}
use Rattle.fs_model.specs.Machines.{Fsmd}
use Rattle.fs_model.specs.Runs.{is_output}
use Rattle.fs_pair.specs.PairedOutputs.{OutputPair, output_pairs}
use Rattle.fs_model.specs.declared.sides.Side.TheVariants.{Left, Right}
use Rattle.fs_model.specs.declared.sides.Pos.{Pos}
use Rattle.nf_terms.specs.declared.form.Nf.{Nf}
use Rattle.nf_terms.specs.declared.form.Nf.TheVariants.{Num, Arr, Seq}
use Rattle.nf_substitution.specs.Vectors.{number_at, array_form, list_at}
use Rattle.sym_paths.specs.ValuationStores.{at}
use Rattle.search_tables.specs.Obligations.{same_forms}
use Rattle.cert_bisimulation.specs.ExpressionSameness.{AreTwins}
use Rattle.cert_bisimulation.specs.Alike.{DeclareTheSame}
use Rattle.alike_searches.specs.Evenness.{IsEven}
use Rattle.alike_searches.proofs.Coupled.{others_differ, not_again, first_of, rest_of, whole_suffix}
use Rattle.alike_searches.proofs.Ties.{same_of_equal}

-- the first variable of a name is the one that has it
place_is :
    (vs : List VarInfo) (i y : ℕ) (v : VarInfo) → names_differ (map (λ (z : VarInfo). z.name) vs) ≡ true → slice_get vs y ≡ Some v
    → position_from (λ u. bytes_eq u.name v.name) i vs ≡ Some (i + y)
place_is [] i y v d e = absurd (cc e)
place_is (w ∷ vs) i zero v d e =
    let same : w ≡ v = cc e in
    let n : i ≡ i + 0 = omega arith in
    ap (λ b. cond {A = Option ℕ} b (Some i) (position_from (λ u. bytes_eq u.name v.name) (i + 1) vs))
    ((bytes_eq-Decides w.name v.name).1 (ap (λ (z : VarInfo). z.name) same)) ∙ ap Some n
place_is (w ∷ vs) i (suc y) v d e =
    let n : (i + 1) + y ≡ i + suc y = omega arith in
    by_test (bytes_eq w.name v.name) refl ∙ place_is vs (i + 1) y v (others_differ w vs d) e ∙ ap Some n
  where
    by_test : (b : Bool) → bytes_eq w.name v.name ≡ b
        → cond {A = Option ℕ} b (Some i) (position_from (λ u. bytes_eq u.name v.name) (i + 1) vs) ≡ position_from (λ u. bytes_eq u.name v.name) (i + 1) vs
    by_test true t = absurd (not_again w vs d y v e (sym ((bytes_eq-Decides w.name v.name).0 t)))
    by_test false t = refl

module _ (a b : Fsmd) (sound_b : IsSound b) (same : DeclareTheSame a b) (v : List (Pos × Nf)) (even : IsEven a b v) where
  abbrev AreSame : OutputPair → Type 0
  AreSame o = same_forms v o.sort o.left o.right ≡ true

  twins_same : (σ : Sort) (x y : ℕ) → AreTwins a b σ x y → same_forms v σ x (Some y) ≡ true
  twins_same sort.Scalar x y t = same_of_equal (Num (number_at v (at Left x))) (Num (number_at v (at Right y))) (ap Num (even.numbers x y t))
  twins_same sort.Array x y t = same_of_equal (Arr (array_form v (at Left x))) (Arr (array_form v (at Right y))) (ap Arr (even.arrays x y t))
  twins_same sort.Port x y t = same_of_equal (Seq (list_at v (at Left x))) (Seq (list_at v (at Right y))) (ap Seq (even.lists x y t))

  output_same :
      (x : ℕ) (w : VarInfo) → slice_get a.variables x ≡ Some w
      → same_forms v w.sort x (position_from (λ u. bytes_eq u.name w.name) 0 b.variables) ≡ true
  output_same x w e =
      let y = same.forth x w e in
      let n : 0 + y.0 ≡ y.0 = omega arith in
      ap (same_forms v w.sort x) (place_is b.variables 0 y.0 w sound_b.variables_differ y.1 ∙ ap Some n)
      ∙ twins_same w.sort x y.0 (record { variable = w; left = e; right = y.1; sorted = refl })

  outputs_from : (x : ℕ) (vs : List VarInfo) → ((j : ℕ) (w : VarInfo) → slice_get vs j ≡ Some w → slice_get a.variables (x + j) ≡ Some w)
      → AllByRecursion AreSame (output_pairs x vs b.variables)
  outputs_from x [] h = tt
  outputs_from x (w ∷ vs) h = by_role (is_output w.role) (outputs_from (x + 1) vs (rest_of a b sound_b same x w vs h))
    where
      by_role : (c : Bool) → AllByRecursion AreSame (output_pairs (x + 1) vs b.variables)
          → AllByRecursion AreSame
          (cond c (record { left = x; sort = w.sort; right = position_from (λ u. bytes_eq u.name w.name) 0 b.variables } ∷ output_pairs (x + 1) vs b.variables)
          (output_pairs (x + 1) vs b.variables))
      by_role true rest = (output_same x w (first_of a b sound_b same x w vs h), rest)
      by_role false rest = rest

  pub outputs_same : AllByRecursion AreSame (output_pairs 0 a.variables b.variables)
  outputs_same = outputs_from 0 a.variables (whole_suffix a b sound_b same)
