-- Tests of the parts of lists, and the values of lists of parts.
use Rattle.std.specs.Prelude.{◌≡◌, Bool, true, false, ◌&&◌, ◌||◌, not, ℤ, pos, neg_ℤ, cond, List, [], ◌∷◌, ◌++◌, ℕ}
use Rattle.std.specs.Prelude.{Result, Ok, Err}
use Rattle.nf_trees.specs.declared.tree.Base.{Base}
use Rattle.nf_trees.specs.declared.tree.Base.TheVariants as bases
use Rattle.nf_trees.specs.NormalTerms as terms
use Rattle.nf_trees.specs.declared.stop.NoMemory.{NoMemory}
use Rattle.term_text.specs.TermTexts.{Atom, Monomial, Polynomial, ArrayTerm, ZeroArray, Bare, Written}
use Rattle.term_values.specs.TermValues.{Interpretation, coefficient, atoms_of, polynomial_value}
use Rattle.term_values.specs.Checks.{Test, factor_passes, atom_passes, monomial_passes, polynomial_passes}

abbrev pub atoms_pass : Test → List Atom → Bool
atoms_pass t [] = true
atoms_pass t (a ∷ rest) = atom_passes t a && atoms_pass t rest

-- whether there is a first atom
abbrev pub has_first_atom : List Atom → Bool
has_first_atom [] = false
has_first_atom (a ∷ rest) = true

-- whether what a monomial begins with passes where atoms follow it
abbrev pub stands : Test → Monomial → Bool → Bool
stands t m followed = not followed || factor_passes t m

abbrev pub monomials_pass : Test → List (Bool × Monomial) → Bool
monomials_pass t [] = true
monomials_pass t (m ∷ ms) = monomial_passes t m.1 && monomials_pass t ms

abbrev pub writes_pass : Test → List (Polynomial × Polynomial) → Bool
writes_pass t [] = true
writes_pass t (w ∷ ws) = (polynomial_passes t w.0 && polynomial_passes t w.1) && writes_pass t ws

abbrev pub items_pass : Test → List Polynomial → Bool
items_pass t [] = true
items_pass t (p ∷ ps) = polynomial_passes t p && items_pass t ps

-- a natural number under a sign
abbrev pub under_sign : Bool → ℕ → ℤ
under_sign is_minus n = cond is_minus (neg_ℤ (pos n)) (pos n)

-- a monomial and its coefficient under its sign
abbrev pub term_value : Interpretation → Bool × Monomial → terms.Monomial × ℤ
term_value r t = (atoms_of r t.1 terms.One, under_sign t.0 (coefficient r.number t.1))

abbrev pub write_value : Interpretation → Polynomial × Polynomial → terms.Polynomial × terms.Polynomial
write_value r w = (polynomial_value r w.0, polynomial_value r w.1)

-- what an array begins from
abbrev pub base_value : Interpretation → ArrayTerm → Base
base_value r ZeroArray = bases.Zero
base_value r (Bare s x) = bases.Sym (r.place s x)
base_value r (Written a i v) = base_value r a

-- a list with what was made behind it
abbrev pub IsPushed : {T : Type 0} → Result T NoMemory → List T → List T → Type 0
IsPushed (Ok x) old new = new ≡ old ++ x ∷ []
IsPushed (Err e) old new = ⊥
