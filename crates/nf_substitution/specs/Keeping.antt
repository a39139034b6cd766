-- The atoms that a substitution keeps: those of its arguments, inner ones first, each once, as a bank does.
use Rattle.std.specs.Prelude.{◌≡◌, ℕ, ◌<◌, Option, Some, None, List, [], ◌∷◌, length, get_or}
use Rattle.std.specs.Coded.{Coded, code_by, coded×, coded_list}
use Rattle.std.proofs.Common.{refl}
use Rattle.nf_trees.specs.NormalTerms.{Atom, Polynomial}
use Rattle.nf_terms.specs.Codes.{coded_atom}
use Rattle.fs_model.specs.declared.sides.Pos.{Pos}
use Rattle.nf_terms.specs.declared.form.Nf.{Nf}
use Rattle.nf_terms.specs.Computed.{Done}
pub use Rattle.nf_bank.specs.Atoms.{with_terms, with_array, IsFront}
use Rattle.nf_bank.specs.AtomNumbers.{atom_at}
use Rattle.nf_vectors.specs.VectorPlaces.{coded_vector}
use Rattle.nf_substitution.specs.Substitution.{atom_substituted}

-- a vector and the atoms that were substituted
pub record VectorWithAtoms : Type 0 where
  pub vector : List (Pos × Nf)
  pub atoms : List Atom

-- those of the items of a list
abbrev pub with_items : List Polynomial → List Atom → List Atom
with_items [] kept = kept
with_items (p ∷ ps) kept = with_items ps (with_terms p kept)

-- the value of a number, as far as it is known
abbrev pub known_value : List (Option Polynomial) → ℕ → Option Polynomial
known_value values k = get_or values k None

-- each known value is that of an atom, substituted
pub record AreValues (v : List (Pos × Nf)) (atoms : List Atom) (values : List (Option Polynomial)) : Type 0 where
  pub each : (k : ℕ) (p : Polynomial) → known_value values k ≡ Some p
      → (k < length atoms) × (atom_substituted v (atom_at atoms k) ≡ Done p)

-- a substitution as a tree of numbers
abbrev pub coded_kept : Coded VectorWithAtoms
coded_kept = code_by (List (Pos × Nf) × List Atom) (coded× coded_vector (coded_list coded_atom)) (λ k. (k.vector, k.atoms))
    (λ p. record { vector = p.0; atoms = p.1 }) (λ _. refl)
