-- Equations in any order of their keys are read as themselves.
use Rattle.std.proofs.Common.{◌≡◌, ◌≢◌, ℕ, zero, suc, ◌==◌, Bool, true, false, List, [], ◌∷◌, length, Option, Some, Ok, refl, sym, ap, subst, ◌∙◌, inl, inr}
use Rattle.std.specs.Prelude.{◌⊎◌, set, slice_get}
use Rattle.std.specs.List.{AllByRecursion}
use Rattle.std.proofs.lemmas.Bool.{eqb-true, eq-eqb}
use Rattle.std.proofs.lemmas.List.{length-set}
use Rattle.nf_terms.specs.declared.form.Nf.{Nf}
use Rattle.cert_text.specs.CertificateNames.{name_place, place_by_key}
use Rattle.cert_text.specs.NodePointNames.{then_part}
use Rattle.cert_text.specs.CertificateReading.{TermContext, equation_read, equations_read}
use Rattle.search_laws.proofs.Lookups.{same_lists}
use Rattle.search_laws.proofs.Members.{HasName}

-- ---- a list with one member set

set_here : {X : Type 0} (xs : List X) (k : ℕ) (y x : X) → slice_get xs k ≡ Some x → slice_get (set xs k y) k ≡ Some y
set_here [] k y x e = absurd (cc e)
set_here (z ∷ zs) zero y x e = refl
set_here (z ∷ zs) (suc k) y x e = set_here zs k y x e

set_there : {X : Type 0} (xs : List X) (j k : ℕ) (y : X) → j ≢ k → slice_get (set xs k y) j ≡ slice_get xs j
set_there [] j k y d = refl
set_there (z ∷ zs) zero zero y d = absurd (d refl)
set_there (z ∷ zs) zero (suc k) y d = refl
set_there (z ∷ zs) (suc j) zero y d = refl
set_there (z ∷ zs) (suc j) (suc k) y d = set_there zs j k y (λ e. d (ap suc e))

record Found {X : Type 0} (xs : List X) (k : ℕ) : Type 0 where
  pub item : X
  pub at : slice_get xs k ≡ Some item

there_too : {X : Type 0} (xs ys : List X) (k : ℕ) (y : X) → length xs ≡ length ys → slice_get ys k ≡ Some y → Found xs k
there_too [] [] k y n e = absurd (cc e)
there_too [] (z ∷ ys) k y n e = absurd (cc n)
there_too (x ∷ xs) [] k y n e = absurd (cc e)
there_too (x ∷ xs) (z ∷ ys) zero y n e = record { item = x; at = refl }
there_too (x ∷ xs) (z ∷ ys) (suc k) y n e = let r = there_too xs ys k y (cc n) e in record { item = r.item; at = r.at }

-- ---- equations

-- the key names this place
abbrev pub Names : TermContext → ℕ → List ℕ → Type 0
Names c k key = place_by_key (name_place c.place c.positions c.format) key ≡ Some k

-- a text is read as one of these equations
pub record IsOneOf (c : TermContext) (i : ℕ) (goal : List (Option Nf)) (e : List ℕ × List ℕ) : Type 0 where
  pub place : ℕ
  pub form : Nf
  pub names : Names c place e.0
  pub read : equation_read c i e ≡ Ok (place, form)
  pub there : slice_get goal place ≡ Some (Some form)

-- the equation is as it should be, or comes later
abbrev pub IsSet : TermContext → (fs goal : List (Option Nf)) → List (List ℕ × List ℕ) → ℕ → Type 0
IsSet c fs goal es k = (slice_get fs k ≡ slice_get goal k) ⊎ HasName (Names c k) es

done : {A : Type 0} → A ⊎ ⊥ → A
done (inl a) = a
done (inr b) = absurd b

module _ (c : TermContext) (i : ℕ) (goal : List (Option Nf)) where
  set_after_first : (fs : List (Option Nf)) (e : List ℕ × List ℕ) (es : List (List ℕ × List ℕ)) → length fs ≡ length goal → (h : IsOneOf c i goal e) → (k : ℕ)
      → IsSet c fs goal (e ∷ es) k → IsSet c (set fs h.place (Some h.form)) goal es k
  set_after_first fs e es n h k g = by_test (k == h.place) refl g
    where
      other : k ≢ h.place → IsSet c fs goal (e ∷ es) k → IsSet c (set fs h.place (Some h.form)) goal es k
      other d (inl s) = inl (set_there fs k h.place (Some h.form) d ∙ s)
      other d (inr (inl t)) = let u : Some k ≡ Some h.place = sym t ∙ h.names in absurd (d (cc u))
      other d (inr (inr later)) = inr later

      by_test : (b : Bool) → (k == h.place) ≡ b → IsSet c fs goal (e ∷ es) k → IsSet c (set fs h.place (Some h.form)) goal es k
      by_test true t s =
          let same : k ≡ h.place = eqb-true k h.place t in
          let found = there_too fs goal h.place (Some h.form) n h.there in
          inl
          (subst (λ j. slice_get (set fs h.place (Some h.form)) j ≡ slice_get goal j) (sym same)
          (set_here fs h.place (Some h.form) found.item found.at ∙ sym h.there))
      by_test false t s = other (λ u. (let v : (k == h.place) ≡ true = eq-eqb k h.place u in absurd (cc (t, v)))) s

  put_read : (fs : List (Option Nf)) (e : List ℕ × List ℕ) (es : List (List ℕ × List ℕ)) → (h : IsOneOf c i goal e)
      → equations_read c i fs (e ∷ es) ≡ equations_read c i (set fs h.place (Some h.form)) es
  put_read fs e es h = ap (λ y. then_part (then_part y (λ x. Ok (set fs x.0 (Some x.1)))) (λ gs. equations_read c i gs es)) h.read

  -- texts of all equations that are not yet as they should be are read as all of them
  pub all_read : (es : List (List ℕ × List ℕ)) (fs : List (Option Nf)) → AllByRecursion (IsOneOf c i goal) es → length fs ≡ length goal
      → ((k : ℕ) → IsSet c fs goal es k) → equations_read c i fs es ≡ Ok goal
  all_read [] fs h n g = ap Ok (same_lists fs goal (λ k. done (g k)))
  all_read (e ∷ es) fs h n g =
      put_read fs e es h.0 ∙ all_read es (set fs h.0.place (Some h.0.form)) h.1 (length-set fs h.0.place (Some h.0.form) ∙ n)
      (λ k. set_after_first fs e es n h.0 k (g k))
