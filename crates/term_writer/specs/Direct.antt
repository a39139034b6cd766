-- The text of a normal term from its front on, as it is put out.
use Rattle.std.specs.Prelude.{ℕ, ◌==◌, Bool, true, false, ℤ, pos, negsuc, unsigned_abs, cond, List, [], ◌∷◌, ◌++◌, codes, decimal}
use Rattle.fs_model.specs.declared.sides.Pos.{Pos}
use Rattle.nf_trees.specs.declared.tree.Base.{Base}
use Rattle.nf_trees.specs.declared.tree.Base.TheVariants as bases
use Rattle.nf_terms.specs.declared.tree.SeqBase.{SeqBase}
use Rattle.nf_terms.specs.declared.tree.SeqBase.TheVariants as list_bases
use Rattle.nf_trees.specs.NormalTerms.{Atom, Monomial, Polynomial, ArrayTerm, Writes, Symbol, Read, Quotient, Remainder, One}
use Rattle.nf_trees.specs.NormalTerms.{Times, Zero, Plus, Over, NoWrites, Write}
use Rattle.term_text.specs.TermTexts.{symbol_text}

-- a coefficient before an atom
abbrev pub factor : ℕ → List ℕ
factor n = cond (n == 1) [] (decimal n ++ codes "*")

-- the sign of a monomial: before the first one of a sum, or a later one
abbrev pub sign : Bool → ℤ → List ℕ
sign true (pos n) = []
sign true (negsuc n) = codes "-"
sign false (pos n) = codes " + "
sign false (negsuc n) = codes " - "

-- what stands between two atoms
abbrev pub separator : Bool → List ℕ
separator true = []
separator false = codes "*"

-- what a monomial begins with: its coefficient alone, or before an atom
abbrev pub head_direct : ℕ → Monomial → List ℕ
head_direct n One = decimal n
head_direct n (Times a m) = factor n

abbrev pub has_no_terms : Polynomial → Bool
has_no_terms Zero = true
has_no_terms (Plus m c p) = false

abbrev pub base_direct : (Pos → List ℕ) → Base → List ℕ
base_direct name bases.Zero = codes "zero"
base_direct name (bases.Sym p) = symbol_text p.side (name p)

abbrev mutual
  pub atom_direct : (Pos → List ℕ) → Atom → List ℕ
  atom_direct name (Symbol p) = symbol_text p.side (name p)
  atom_direct name (Read a i) = array_direct name a ++ (codes "[" ++ (polynomial_direct name i ++ codes "]"))
  atom_direct name (Quotient a b) = codes "div("
      ++ (polynomial_direct name a ++ (codes ", " ++ (polynomial_direct name b ++ codes ")")))
  atom_direct name (Remainder a b) = codes "rem("
      ++ (polynomial_direct name a ++ (codes ", " ++ (polynomial_direct name b ++ codes ")")))

  -- atoms, from the first one or from a later one
  pub atoms_direct : (Pos → List ℕ) → Bool → Monomial → List ℕ
  atoms_direct name is_first One = []
  atoms_direct name is_first (Times a m) = separator is_first ++ (atom_direct name a ++ atoms_direct name false m)

  -- monomials, from the first one or from a later one
  pub terms_direct : (Pos → List ℕ) → Bool → Polynomial → List ℕ
  terms_direct name is_first Zero = []
  terms_direct name is_first (Plus m c p) = sign is_first c
      ++ ((head_direct (unsigned_abs c) m ++ atoms_direct name true m) ++ terms_direct name false p)

  pub polynomial_direct : (Pos → List ℕ) → Polynomial → List ℕ
  polynomial_direct name Zero = codes "0"
  polynomial_direct name (Plus m c p) = sign true c
      ++ ((head_direct (unsigned_abs c) m ++ atoms_direct name true m) ++ terms_direct name false p)

  pub writes_direct : (Pos → List ℕ) → Writes → List ℕ
  writes_direct name NoWrites = []
  writes_direct name (Write i v ws) = codes "{"
      ++ (polynomial_direct name i ++ (codes ": " ++ (polynomial_direct name v ++ (codes "}" ++ writes_direct name ws))))

  pub array_direct : (Pos → List ℕ) → ArrayTerm → List ℕ
  array_direct name (Over b ws) = base_direct name b ++ writes_direct name ws

abbrev pub list_base_direct : (Pos → List ℕ) → SeqBase → List ℕ
list_base_direct name list_bases.Empty = codes "none"
list_base_direct name (list_bases.Sym p) = symbol_text p.side (name p)

abbrev pub items_direct : (Pos → List ℕ) → List Polynomial → List ℕ
items_direct name [] = []
items_direct name (p ∷ ps) = codes "{" ++ (polynomial_direct name p ++ (codes "}" ++ items_direct name ps))

-- a monomial and the absolute value of its coefficient
abbrev pub monomial_direct : (Pos → List ℕ) → ℕ → Monomial → List ℕ
monomial_direct name n m = head_direct n m ++ atoms_direct name true m
