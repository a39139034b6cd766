-- The written term that a tree holds.
use Rattle.std.specs.Prelude.{Bool, cond, List, [], ◌∷◌, map}
use Rattle.term_text.specs.declared.tree.WrittenAtom.{WrittenAtom}
use Rattle.term_text.specs.declared.tree.WrittenHead.{WrittenHead}
use Rattle.term_text.specs.declared.tree.WrittenMonomial.{WrittenMonomial}
use Rattle.term_text.specs.declared.tree.WrittenPolynomial.{WrittenPolynomial}
use Rattle.term_text.specs.declared.tree.WrittenArray.{WrittenArray}
use Rattle.term_text.specs.declared.tree.WrittenBase.{WrittenBase}
use Rattle.term_text.specs.declared.tree.WrittenBase.TheVariants as bases
use Rattle.term_text.specs.declared.tree.WrittenAtom.TheOpen.{WrittenAtom-F, WrittenArray-F, WrittenHead-F, WrittenMonomial-F}
use Rattle.term_text.specs.declared.tree.WrittenAtom.TheOpen.{WrittenPolynomial-F}
use Rattle.term_text.specs.declared.tree.WrittenAtom.TheOpen as open_tree
use Rattle.term_text.specs.declared.tree.WrittenAtom.TheFolds.{fold-WrittenAtom, fold-WrittenArray, fold-WrittenHead}
use Rattle.term_text.specs.declared.tree.WrittenAtom.TheFolds.{fold-WrittenMonomial, fold-WrittenPolynomial}
use Rattle.term_text.specs.declared.tree.WrittenList.{WrittenList}
use Rattle.term_text.specs.declared.tree.WrittenListBase.{WrittenListBase}
use Rattle.term_text.specs.declared.tree.WrittenListBase.TheVariants as list_bases
use Rattle.term_text.specs.TermTexts.{ListSyntax, EmptyList, BareList, Pushed, Atom, Monomial, Sum, Polynomial, ArrayTerm, Symbol}
use Rattle.term_text.specs.TermTexts.{Read, Quotient, Remainder, Number, One, Times, Positive, Negative, Plus, Minus, Zero, Of}
use Rattle.term_text.specs.TermTexts.{ZeroArray, Bare, Written}

abbrev pub times_all : Monomial → List Atom → Monomial
times_all m [] = m
times_all m (a ∷ rest) = times_all (Times m a) rest

abbrev pub first_sum : Bool × Monomial → Sum
first_sum t = cond t.0 (Negative t.1) (Positive t.1)

abbrev pub more_sum : Sum → Bool × Monomial → Sum
more_sum s t = cond t.0 (Minus s t.1) (Plus s t.1)

abbrev pub sum_all : Sum → List (Bool × Monomial) → Sum
sum_all s [] = s
sum_all s (t ∷ ts) = sum_all (more_sum s t) ts

-- the sum of a list that is not empty
abbrev pub sum_of : List (Bool × Monomial) → Sum
sum_of [] = Positive (Number [])
sum_of (t ∷ ts) = sum_all (first_sum t) ts

abbrev pub polynomial_all : List (Bool × Monomial) → Polynomial
polynomial_all [] = Zero
polynomial_all (t ∷ ts) = Of (sum_of (t ∷ ts))

abbrev pub written_all : ArrayTerm → List (Polynomial × Polynomial) → ArrayTerm
written_all a [] = a
written_all a (w ∷ ws) = written_all (Written a w.0 w.1) ws

abbrev pub pushed_all : ListSyntax → List Polynomial → ListSyntax
pushed_all l [] = l
pushed_all l (p ∷ ps) = pushed_all (Pushed l p) ps

abbrev pub base_in : WrittenBase → ArrayTerm
base_in bases.Zero = ZeroArray
base_in (bases.Symbol s x) = Bare s x.now

abbrev pub written_atom_step : WrittenAtom-F Atom Monomial ArrayTerm Monomial Polynomial → Atom
written_atom_step (open_tree.Symbol s x) = Symbol s x.now
written_atom_step (open_tree.Read a i) = Read a.value i.value
written_atom_step (open_tree.Quotient a b) = Quotient a.value b.value
written_atom_step (open_tree.Remainder a b) = Remainder a.value b.value

abbrev pub head_step : WrittenHead-F Atom Monomial ArrayTerm Monomial Polynomial → Monomial
head_step (open_tree.Number ds) = Number ds.now
head_step (open_tree.One a) = One a

abbrev pub monomial_step : WrittenMonomial-F Atom Monomial ArrayTerm Monomial Polynomial → Monomial
monomial_step m = times_all m.head m.atoms.items

abbrev pub polynomial_step : WrittenPolynomial-F Atom Monomial ArrayTerm Monomial Polynomial → Polynomial
polynomial_step p = polynomial_all p.monomials.items

abbrev pub array_step : WrittenArray-F Atom Monomial ArrayTerm Monomial Polynomial → ArrayTerm
array_step a = written_all (base_in a.base) a.writes.items

abbrev pub written_atom_in : WrittenAtom → Atom
written_atom_in = fold-WrittenAtom Atom Monomial ArrayTerm Monomial Polynomial written_atom_step head_step array_step
    monomial_step polynomial_step

abbrev pub head_in : WrittenHead → Monomial
head_in = fold-WrittenHead Atom Monomial ArrayTerm Monomial Polynomial written_atom_step head_step array_step monomial_step
    polynomial_step

abbrev pub written_array_in : WrittenArray → ArrayTerm
written_array_in = fold-WrittenArray Atom Monomial ArrayTerm Monomial Polynomial written_atom_step head_step array_step
    monomial_step polynomial_step

abbrev pub written_monomial_in : WrittenMonomial → Monomial
written_monomial_in = fold-WrittenMonomial Atom Monomial ArrayTerm Monomial Polynomial written_atom_step head_step array_step
    monomial_step polynomial_step

abbrev pub written_polynomial_in : WrittenPolynomial → Polynomial
written_polynomial_in = fold-WrittenPolynomial Atom Monomial ArrayTerm Monomial Polynomial written_atom_step head_step array_step
    monomial_step polynomial_step

abbrev pub written_term_in : Bool × WrittenMonomial → Bool × Monomial
written_term_in t = (t.0, written_monomial_in t.1)

abbrev pub written_write_in : WrittenPolynomial × WrittenPolynomial → Polynomial × Polynomial
written_write_in w = (written_polynomial_in w.0, written_polynomial_in w.1)

abbrev pub list_base_in : WrittenListBase → ListSyntax
list_base_in list_bases.Empty = EmptyList
list_base_in (list_bases.Symbol s x) = BareList s x.now

abbrev pub written_list_in : WrittenList → ListSyntax
written_list_in l = pushed_all (list_base_in l.base) (map written_polynomial_in l.items.items)
