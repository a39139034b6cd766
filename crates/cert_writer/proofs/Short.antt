-- Where each position has a short name, each symbol of a term has one; so forms and literals have short texts.
use Rattle.std.proofs.Common.{ℕ, ◌+◌, ◌*◌, ◌≤◌, List, [], ◌∷◌, length, arith}
use Rattle.std.proofs.lemmas.Bool.{and_parts}
use Rattle.fs_model.specs.declared.sides.Pos.{Pos}
use Rattle.nf_trees.specs.declared.tree.Base.{Base}
use Rattle.nf_trees.specs.declared.tree.Base.TheVariants as bases
use Rattle.nf_terms.specs.declared.tree.SeqBase.{SeqBase}
use Rattle.nf_terms.specs.declared.tree.SeqBase.TheVariants as list_bases
use Rattle.nf_terms.specs.declared.form.Nf.{Nf}
use Rattle.nf_terms.specs.declared.form.Nf.TheVariants.{Num, Arr, Seq}
use Rattle.nf_trees.specs.NormalTerms as terms
use Rattle.nf_terms.specs.Forms.{IsNormalForm, size_of_form}
use Rattle.nf_terms.specs.Normal.{is_light, narrow_inside}
use Rattle.nf_rel.specs.Literals.{NormalLiteral, True, False, Is}
use Rattle.nf_rel.specs.NormalLiterals.{IsNormalLiteral, size_of_literal}
use Rattle.term_writer.specs.NamedSymbols.{IsShort, OfBase, OfAtom, OfMonomial, OfPolynomial, OfWrites, OfArray, OfListBase, OfItems, OfLiteral}
use Rattle.term_writer.proofs.Bound.{polynomial_bound, array_bound}
use Rattle.term_writer.proofs.ListTexts.{list_bound}
use Rattle.term_writer.proofs.LiteralTexts.{literal_bound}
use Rattle.cert_writer.specs.WrittenCertificates.{form_written, literal_bytes}

module _ (name : Pos → List ℕ) (short : (p : Pos) → length (name p) ≤ 32) where
  base_short : (b : Base) → OfBase (IsShort name) b
  base_short bases.Zero = tt
  base_short (bases.Sym p) = short p

  mutual
    atom_short : (a : terms.Atom) → OfAtom (IsShort name) a
    atom_short (terms.Symbol p) = short p
    atom_short (terms.Read a i) = (array_short a, polynomial_short i)
    atom_short (terms.Quotient a b) = (polynomial_short a, polynomial_short b)
    atom_short (terms.Remainder a b) = (polynomial_short a, polynomial_short b)

    monomial_short : (m : terms.Monomial) → OfMonomial (IsShort name) m
    monomial_short terms.One = tt
    monomial_short (terms.Times a m) = (atom_short a, monomial_short m)

    polynomial_short : (p : terms.Polynomial) → OfPolynomial (IsShort name) p
    polynomial_short terms.Zero = tt
    polynomial_short (terms.Plus m c p) = (monomial_short m, polynomial_short p)

    writes_short : (ws : terms.Writes) → OfWrites (IsShort name) ws
    writes_short terms.NoWrites = tt
    writes_short (terms.Write i v ws) = (polynomial_short i, (polynomial_short v, writes_short ws))

    array_short : (a : terms.ArrayTerm) → OfArray (IsShort name) a
    array_short (terms.Over b ws) = (base_short b, writes_short ws)

  list_base_short : (b : SeqBase) → OfListBase (IsShort name) b
  list_base_short list_bases.Empty = tt
  list_base_short (list_bases.Sym p) = short p

  items_short : (ps : List terms.Polynomial) → OfItems (IsShort name) ps
  items_short [] = tt
  items_short (p ∷ ps) = (polynomial_short p, items_short ps)

  literal_short : (l : NormalLiteral) → OfLiteral (IsShort name) l
  literal_short True = tt
  literal_short False = tt
  literal_short (Is d k b) = polynomial_short d

  pub form_length : (f : Nf) → IsNormalForm f → length (form_written name f) ≤ 1 + 47 * size_of_form f
  form_length (Num p) n = let l = and_parts (is_light p) (narrow_inside p) n.narrow in polynomial_bound name p (polynomial_short p) l.0 l.1
  form_length (Arr a) n = omega (arith, array_bound name a (array_short a) n.narrow)
  form_length (Seq l) n = omega (arith, list_bound name l (list_base_short l.base, items_short l.items) n.items)

  pub literal_length : (l : NormalLiteral) → IsNormalLiteral l → length (literal_bytes name l) + 3 ≤ 47 * size_of_literal l
  literal_length l n = literal_bound name l (literal_short l) n
