-- What holds of each symbol of a term, in the sort that it is used in.
use Rattle.std.specs.Prelude.{◌≡◌, ℕ, ◌≤◌, true, List, [], ◌∷◌, length, Some}
use Rattle.fs_model.specs.declared.sides.Pos.{Pos}
use Rattle.nf_trees.specs.declared.tree.Base.{Base}
use Rattle.nf_trees.specs.declared.tree.Base.TheVariants as bases
use Rattle.nf_terms.specs.declared.tree.SeqBase.{SeqBase}
use Rattle.nf_terms.specs.declared.tree.SeqBase.TheVariants as list_bases
use Rattle.nf_terms.specs.declared.symbols.Sort.{Sort}
use Rattle.nf_terms.specs.declared.symbols.Sort.TheVariants as sort
use Rattle.nf_trees.specs.NormalTerms.{Atom, Monomial, Polynomial, ArrayTerm, Writes, Symbol, Read, Quotient, Remainder, One}
use Rattle.nf_trees.specs.NormalTerms.{Times, Zero, Plus, Over, NoWrites, Write}
use Rattle.nf_terms.specs.Lists.{ListTerm}
use Rattle.nf_rel.specs.Literals.{NormalLiteral, True, False, Is}
use Rattle.term_text.specs.SpellableTerms.{is_symbol_name}
use Rattle.term_values.specs.NameMeanings.{Find}

-- a position has a short name, by which it is found
pub record IsNamed (name : Pos → List ℕ) (find : Find) (s : Sort) (p : Pos) : Type 0 where
  pub word : is_symbol_name (name p) ≡ true
  pub short : length (name p) ≤ 32
  pub found : find p.side (name p) ≡ Some (p, s)

-- a position has a short name
abbrev pub IsShort : (Pos → List ℕ) → Sort → Pos → Type 0
IsShort name s p = length (name p) ≤ 32

abbrev pub OfBase : (Sort → Pos → Type 0) → Base → Type 0
OfBase P bases.Zero = Unit {0}
OfBase P (bases.Sym p) = P sort.Array p

abbrev mutual
  pub OfAtom : (Sort → Pos → Type 0) → Atom → Type 0
  OfAtom P (Symbol p) = P sort.Scalar p
  OfAtom P (Read a i) = OfArray P a × OfPolynomial P i
  OfAtom P (Quotient a b) = OfPolynomial P a × OfPolynomial P b
  OfAtom P (Remainder a b) = OfPolynomial P a × OfPolynomial P b

  pub OfMonomial : (Sort → Pos → Type 0) → Monomial → Type 0
  OfMonomial P One = Unit {0}
  OfMonomial P (Times a m) = OfAtom P a × OfMonomial P m

  pub OfPolynomial : (Sort → Pos → Type 0) → Polynomial → Type 0
  OfPolynomial P Zero = Unit {0}
  OfPolynomial P (Plus m c p) = OfMonomial P m × OfPolynomial P p

  pub OfWrites : (Sort → Pos → Type 0) → Writes → Type 0
  OfWrites P NoWrites = Unit {0}
  OfWrites P (Write i v ws) = OfPolynomial P i × (OfPolynomial P v × OfWrites P ws)

  pub OfArray : (Sort → Pos → Type 0) → ArrayTerm → Type 0
  OfArray P (Over b ws) = OfBase P b × OfWrites P ws

abbrev pub OfListBase : (Sort → Pos → Type 0) → SeqBase → Type 0
OfListBase P list_bases.Empty = Unit {0}
OfListBase P (list_bases.Sym p) = P sort.List p

abbrev pub OfItems : (Sort → Pos → Type 0) → List Polynomial → Type 0
OfItems P [] = Unit {0}
OfItems P (p ∷ ps) = OfPolynomial P p × OfItems P ps

abbrev pub OfList : (Sort → Pos → Type 0) → ListTerm → Type 0
OfList P l = OfListBase P l.base × OfItems P l.items

abbrev pub OfLiteral : (Sort → Pos → Type 0) → NormalLiteral → Type 0
OfLiteral P True = Unit {0}
OfLiteral P False = Unit {0}
OfLiteral P (Is d k b) = OfPolynomial P d
