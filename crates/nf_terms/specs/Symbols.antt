-- The symbols of a term, each with the sort in which it is used, in the order in which they stand.
use Rattle.std.specs.Prelude.{List, [], ◌∷◌, ◌++◌}
use Rattle.nf_trees.specs.NormalTerms.{Atom, Monomial, Polynomial, ArrayTerm, Writes, Symbol, Read, Quotient, Remainder, One}
use Rattle.nf_trees.specs.NormalTerms.{Times, Zero, Plus, Over, NoWrites, Write}
use Rattle.nf_terms.specs.Lists.{ListTerm}
use Rattle.fs_model.specs.declared.sides.Pos.{Pos}
use Rattle.nf_trees.specs.declared.tree.Base.{Base}
use Rattle.nf_trees.specs.declared.tree.Base.TheVariants as base
use Rattle.nf_terms.specs.declared.tree.SeqBase.{SeqBase}
use Rattle.nf_terms.specs.declared.tree.SeqBase.TheVariants as list
use Rattle.nf_terms.specs.declared.symbols.Sort.{Sort}
use Rattle.nf_terms.specs.declared.symbols.Sort.TheVariants.{Scalar, Array, List as Items}
use Rattle.nf_terms.specs.declared.form.Nf.{Nf}
use Rattle.nf_terms.specs.declared.form.Nf.TheVariants as form

-- the symbol of a base
abbrev pub symbols_of_base : Base → List (Pos × Sort)
symbols_of_base base.Zero = []
symbols_of_base (base.Sym p) = (p, Array) ∷ []

abbrev mutual
  pub symbols_of_atom : Atom → List (Pos × Sort)
  symbols_of_atom (Symbol p) = (p, Scalar) ∷ []
  symbols_of_atom (Read a i) = symbols_of_array a ++ symbols_of i
  symbols_of_atom (Quotient a b) = symbols_of a ++ symbols_of b
  symbols_of_atom (Remainder a b) = symbols_of a ++ symbols_of b

  pub symbols_of_monomial : Monomial → List (Pos × Sort)
  symbols_of_monomial One = []
  symbols_of_monomial (Times a m) = symbols_of_atom a ++ symbols_of_monomial m

  pub symbols_of : Polynomial → List (Pos × Sort)
  symbols_of Zero = []
  symbols_of (Plus m c p) = symbols_of_monomial m ++ symbols_of p

  pub symbols_of_writes : Writes → List (Pos × Sort)
  symbols_of_writes NoWrites = []
  symbols_of_writes (Write i v ws) = symbols_of i ++ (symbols_of v ++ symbols_of_writes ws)

  pub symbols_of_array : ArrayTerm → List (Pos × Sort)
  symbols_of_array (Over b ws) = symbols_of_base b ++ symbols_of_writes ws

-- the symbol of a list's base
abbrev pub symbols_of_list_base : SeqBase → List (Pos × Sort)
symbols_of_list_base list.Empty = []
symbols_of_list_base (list.Sym p) = (p, Items) ∷ []

abbrev pub symbols_of_items : List Polynomial → List (Pos × Sort)
symbols_of_items [] = []
symbols_of_items (p ∷ ps) = symbols_of p ++ symbols_of_items ps

abbrev pub symbols_of_list : ListTerm → List (Pos × Sort)
symbols_of_list l = symbols_of_list_base l.base ++ symbols_of_items l.items

abbrev pub symbols_of_form : Nf → List (Pos × Sort)
symbols_of_form (form.Num p) = symbols_of p
symbols_of_form (form.Arr a) = symbols_of_array a
symbols_of_form (form.Seq l) = symbols_of_list l
