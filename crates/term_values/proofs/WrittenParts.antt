-- What the variants of written trees stand for.
use Rattle.std.proofs.Common.{◌≡◌, ℕ, List, Bor, Box, Global, ap, sym, ◌∙◌}
use Rattle.fs_model.specs.declared.sides.Side.{Side}
use Rattle.term_text.specs.TermTexts.{Atom, Monomial, Polynomial, ArrayTerm, Symbol, Read, Quotient, Remainder, Number, One}
use Rattle.term_text.specs.View.{written_atom_step, head_step, array_step, monomial_step, polynomial_step, written_atom_in, head_in, written_polynomial_in}
use Rattle.term_text.specs.View.{written_array_in}
use Rattle.term_text.specs.declared.tree.WrittenAtom.{WrittenAtom}
use Rattle.term_text.specs.declared.tree.WrittenHead.{WrittenHead}
use Rattle.term_text.specs.declared.tree.WrittenPolynomial.{WrittenPolynomial}
use Rattle.term_text.specs.declared.tree.WrittenArray.{WrittenArray}
use Rattle.term_text.specs.declared.tree.WrittenAtom.TheOpen as open_tree
use Rattle.term_text.specs.declared.tree.WrittenAtom.TheVariants as atoms
use Rattle.term_text.specs.declared.tree.WrittenHead.TheVariants as heads
use Rattle.term_text.specs.declared.tree.WrittenAtom.TheFolds.{fold-roll-WrittenAtom, fold-roll-WrittenHead}

pub written_symbol : (t : WrittenAtom) (s : Side) (x : Bor (List ℕ)) → t ≡ atoms.Symbol s x → written_atom_in t ≡ Symbol s x.now
written_symbol t s x e =
    ap written_atom_in (e ∙ sym (atoms.rolls-Symbol s x))
    ∙ fold-roll-WrittenAtom Atom Monomial ArrayTerm Monomial Polynomial written_atom_step head_step array_step monomial_step polynomial_step
    (open_tree.Symbol s x)

pub written_read : (t : WrittenAtom) (a : Box WrittenArray Global) (i : Box WrittenPolynomial Global) → t ≡ atoms.Read a i
    → written_atom_in t ≡ Read (written_array_in a.value) (written_polynomial_in i.value)
written_read t a i e =
    ap written_atom_in (e ∙ sym (atoms.rolls-Read a i))
    ∙ fold-roll-WrittenAtom Atom Monomial ArrayTerm Monomial Polynomial written_atom_step head_step array_step monomial_step polynomial_step
    (open_tree.Read a i)

pub written_quotient : (t : WrittenAtom) (l r : Box WrittenPolynomial Global) → t ≡ atoms.Quotient l r
    → written_atom_in t ≡ Quotient (written_polynomial_in l.value) (written_polynomial_in r.value)
written_quotient t l r e =
    ap written_atom_in (e ∙ sym (atoms.rolls-Quotient l r))
    ∙ fold-roll-WrittenAtom Atom Monomial ArrayTerm Monomial Polynomial written_atom_step head_step array_step monomial_step polynomial_step
    (open_tree.Quotient l r)

pub written_remainder : (t : WrittenAtom) (l r : Box WrittenPolynomial Global) → t ≡ atoms.Remainder l r
    → written_atom_in t ≡ Remainder (written_polynomial_in l.value) (written_polynomial_in r.value)
written_remainder t l r e =
    ap written_atom_in (e ∙ sym (atoms.rolls-Remainder l r))
    ∙ fold-roll-WrittenAtom Atom Monomial ArrayTerm Monomial Polynomial written_atom_step head_step array_step monomial_step polynomial_step
    (open_tree.Remainder l r)

pub head_number : (h : WrittenHead) (ds : Bor (List ℕ)) → h ≡ heads.Number ds → head_in h ≡ Number ds.now
head_number h ds e =
    ap head_in (e ∙ sym (heads.rolls-Number ds))
    ∙ fold-roll-WrittenHead Atom Monomial ArrayTerm Monomial Polynomial written_atom_step head_step array_step monomial_step polynomial_step
    (open_tree.Number ds)

pub head_atom : (h : WrittenHead) (a : WrittenAtom) → h ≡ heads.One a → head_in h ≡ One (written_atom_in a)
head_atom h a e =
    ap head_in (e ∙ sym (heads.rolls-One a))
    ∙ fold-roll-WrittenHead Atom Monomial ArrayTerm Monomial Polynomial written_atom_step head_step array_step monomial_step polynomial_step
    (open_tree.One a)
