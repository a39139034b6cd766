-- Known values of atoms.
use Rattle.std.proofs.Common.{◌≡◌, ◌≢◌, ℕ, zero, suc, ◌<◌, take, Option, Some, None, List, [], ◌∷◌, ◌++◌, length, arith, refl, ap, sym, inl, inr, ◌∙◌}
use Rattle.std.proofs.lemmas.Bool.{cases_eq}
use Rattle.std.proofs.lemmas.List.{get_or_append_left, get_or-take, length-take, length-append}
use Rattle.nf_trees.specs.NormalTerms.{Atom, Polynomial}
use Rattle.nf_terms.specs.Computed.{Done}
use Rattle.fs_model.specs.declared.sides.Pos.{Pos}
use Rattle.nf_terms.specs.declared.form.Nf.{Nf}
use Rattle.nf_bank.specs.Atoms.{IsFront}
use Rattle.nf_bank.specs.AtomNumbers.{past_end, atom_at}
use Rattle.nf_substitution.specs.Substitution.{atom_substituted}
use Rattle.nf_substitution.specs.Keeping.{known_value, AreValues}

-- a number without a value behind changes nothing
pub none_more : (values : List (Option Polynomial)) (k : ℕ) → known_value (values ++ None ∷ []) k ≡ known_value values k
none_more [] zero = refl
none_more [] (suc k) = refl
none_more (x ∷ xs) zero = refl
none_more (x ∷ xs) (suc k) = none_more xs k

taken : (n : ℕ) (values : List (Option Polynomial)) (k : ℕ) (p : Polynomial) → known_value (take n values) k ≡ Some p
    → (k < n) × (known_value values k ≡ Some p)
taken zero values k p e = absurd (cc e)
taken (suc n) [] k p e = absurd (cc e)
taken (suc n) (x ∷ xs) zero p e = (omega arith, e)
taken (suc n) (x ∷ xs) (suc k) p e = let f = taken n xs k p e in (omega (arith, f.0), f.1)

module _ (v : List (Pos × Nf)) where
  pub none_known : (atoms : List Atom) (values : List (Option Polynomial)) → values ≡ [] → AreValues v atoms values
  none_known atoms values n = record { each = λ k p e. absurd (let f : known_value values k ≡ None = ap (λ l. known_value l k) n in cc) }

  -- more atoms behind
  pub known_more : (old new : List Atom) (values : List (Option Polynomial)) → IsFront old new → AreValues v old values → AreValues v new values
  known_more old new values f h = record { each = λ k p e. at_place k p (h.each k p e) }
    where
      at_place : (k : ℕ) (p : Polynomial) → (k < length old) × (atom_substituted v (atom_at old k) ≡ Done p)
          → (k < length new) × (atom_substituted v (atom_at new k) ≡ Done p)
      at_place k p i = (
        omega (arith, i.0, ap length f.split, length-append old f.rest),
        ap (atom_substituted v) (ap (λ l. atom_at l k) f.split ∙ get_or_append_left old f.rest past_end k i.0) ∙ i.1,
      )

  pub known_taken : (n : ℕ) (atoms : List Atom) (values : List (Option Polynomial)) → AreValues v atoms values → AreValues v (take n atoms) (take n values)
  known_taken n atoms values h = record { each = λ k p e. at_place k p (taken n values k p e) }
    where
      at_place : (k : ℕ) (p : Polynomial) → (k < n) × (known_value values k ≡ Some p)
          → (k < length (take n atoms)) × (atom_substituted v (atom_at (take n atoms) k) ≡ Done p)
      at_place k p f =
          let i = h.each k p f.1 in
          (simp length-take (omega (arith, f.0, i.0)), ap (atom_substituted v) (get_or-take n atoms k past_end f.0) ∙ i.1)

  -- a value that is known
  pub known_found : (atoms : List Atom) (values : List (Option Polynomial)) (k : ℕ) (p : Polynomial) → AreValues v atoms values → Some p ≡ known_value values k
      → atom_substituted v (atom_at atoms k) ≡ Done p
  known_found atoms values k p h e = (h.each k p (sym e)).1

  module _ (atoms : List Atom) (old new : List (Option Polynomial)) (h : AreValues v atoms old) where
    pub known_still : ((k : ℕ) → known_value new k ≡ known_value old k) → AreValues v atoms new
    known_still s = record { each = λ k p e. h.each k p (sym (s k) ∙ e) }

    -- one value more
    pub known_one : (j : ℕ) (p : Polynomial) → j < length atoms → atom_substituted v (atom_at atoms j) ≡ Done p → known_value new j ≡ Some p
        → ((k : ℕ) → k ≢ j → known_value new k ≡ known_value old k) → AreValues v atoms new
    known_one j p i d t s = record { each = each }
      where
        each : (k : ℕ) (q : Polynomial) → known_value new k ≡ Some q → (k < length atoms) × (atom_substituted v (atom_at atoms k) ≡ Done q)
        each k q e =
            elim (cases_eq k j) [
              | inl u ↦
                  (let r : p ≡ q = let w : Some p ≡ Some q = sym t ∙ ap (known_value new) (sym u) ∙ e in cc in
                  (omega arith, ap (λ n. atom_substituted v (atom_at atoms n)) u ∙ d ∙ ap Done r))
              | inr n ↦ h.each k q (sym (s k n) ∙ e)
            ]

pub ruleset found = (known_found, known_still, known_one)
