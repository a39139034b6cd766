-- The text of a number under its sign, and which parts a term has.
use Rattle.std.proofs.Common.{◌≡◌, true, false, ℕ, zero, suc, ◌<◌, ℤ, pos, negsuc, List, [], ◌∷◌, ◌++◌, map, length, codes, decimal, refl, sym, ap, ◌∙◌, arith}
use Rattle.std.proofs.lemmas.Fmt.{decimal_digit}
use Rattle.std.specs.Prelude.{unsigned_abs}
use Rattle.term_condition_text.specs.ConditionTexts.{integer_text}
use Rattle.term_writer.specs.WrittenTerms.{integer_written}
use Rattle.term_writer.specs.Direct.{sign, factor, head_direct, has_no_terms, terms_direct, polynomial_direct}
use Rattle.fs_model.specs.declared.sides.Pos.{Pos}
use Rattle.nf_trees.specs.declared.tree.MonoTree.{MonoTree}
use Rattle.nf_trees.specs.declared.tree.Atom.{Atom}
use Rattle.nf_trees.specs.declared.tree.PolyTree.{PolyTree, out-PolyTree}
use Rattle.nf_trees.specs.declared.tree.Atom.TheFolds.{fold_out-PolyTree}
use Rattle.nf_trees.specs.NormalTerms.{Atom as AtomTerm, ArrayTerm, Monomial, Polynomial, Zero, Plus, monomial_of, polynomial_of}
use Rattle.nf_trees.specs.View.{atom_in, term_in, polynomial_in, atom_step, arr_step, mono_step, poly_step}

pub integer_same : (z : ℤ) → sign true z ++ decimal (unsigned_abs z) ≡ integer_text (integer_written z)
integer_same (pos zero) = decimal_digit 0 (omega arith)
integer_same (pos (suc n)) = refl
integer_same (negsuc n) = refl

-- ---- which parts there are

pub no_terms : (name : Pos → List ℕ) (p : Polynomial) → has_no_terms p ≡ true → polynomial_direct name p ≡ codes "0"
no_terms name Zero e = refl
no_terms name (Plus m c p) e = absurd cc

pub some_terms : (name : Pos → List ℕ) (p : Polynomial) → has_no_terms p ≡ false → polynomial_direct name p ≡ terms_direct name true p
some_terms name Zero e = absurd cc
some_terms name (Plus m c p) e = refl

pub is_some : (ts : List (MonoTree × ℤ)) → 0 < length ts → has_no_terms (polynomial_of (map term_in ts)) ≡ false
is_some [] h = absurd (omega (arith, h))
is_some (t ∷ ts) h = refl

pub head_is : (n : ℕ) (xs : List Atom) → 0 < length xs → head_direct n (monomial_of (map atom_in xs)) ≡ factor n
head_is n [] h = absurd (omega (arith, h))
head_is n (x ∷ xs) h = refl

pub nothing : (name : Pos → List ℕ) (p : PolyTree) (slice : List (MonoTree × ℤ)) → slice ≡ (out-PolyTree p).monos.items
    → has_no_terms (polynomial_of (map term_in slice)) ≡ true → polynomial_direct name (polynomial_in p) ≡ codes "0"
nothing name p slice e h =
    ap (polynomial_direct name) (fold_out-PolyTree AtomTerm ArrayTerm Monomial Polynomial atom_step arr_step mono_step poly_step p)
    ∙ no_terms name (polynomial_of (map term_in (out-PolyTree p).monos.items)) (ap (λ xs. has_no_terms (polynomial_of (map term_in xs))) (sym e) ∙ h)
