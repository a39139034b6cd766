-- Degrees and lengths.
use Rattle.std.specs.declared.cmp.Ordering.TheVariants.{Equal}
use Rattle.std.specs.Ordering.{nat_cmp, ordering_then}
use Rattle.std.proofs.Common.{◌≡◌, ℕ, List, [], ◌∷◌, length, map, arith, refl, ap, subst, sym, ◌∙◌}
use Rattle.std.proofs.lemmas.List.{length-map}
use Rattle.nf_trees.specs.NormalTerms.{Atom, ArrayTerm, Monomial, Polynomial, monomial_of}
use Rattle.nf_trees.specs.Order.{degree, cmp_atoms, cmp_monomial}
use Rattle.nf_trees.specs.View.{atom_in, monomial_in, atom_step, arr_step, mono_step, poly_step}
use Rattle.nf_trees.specs.declared.tree.MonoTree.{MonoTree}
use Rattle.nf_trees.specs.declared.tree.Atom.TheFolds.{fold_out-MonoTree}

pub degree-monomial_of : (fs : List Atom) → degree (monomial_of fs) ≡ length fs
degree-monomial_of [] = refl
degree-monomial_of (f ∷ fs) = omega (arith, degree-monomial_of fs)

pub monomial_in-is : (m : MonoTree) → monomial_in m ≡ monomial_of (map atom_in m.atoms.items)
monomial_in-is = fold_out-MonoTree Atom ArrayTerm Monomial Polynomial atom_step arr_step mono_step poly_step

pub degree-monomial_in : (m : MonoTree) → degree (monomial_in m) ≡ length m.atoms.items
degree-monomial_in m = ap degree (monomial_in-is m) ∙ degree-monomial_of (map atom_in m.atoms.items) ∙ simp length-map

pub same_degree : (a b : MonoTree) → nat_cmp (length b.atoms.items) (length a.atoms.items) ≡ Equal
    → cmp_monomial (monomial_in a) (monomial_in b) ≡ cmp_atoms (monomial_of (map atom_in a.atoms.items)) (monomial_of (map atom_in b.atoms.items))
same_degree a b h =
    let P : ℕ → ℕ → Type 0 = λ m n. ordering_then (nat_cmp n m) (cmp_atoms (monomial_in a) (monomial_in b))
    ≡ cmp_atoms (monomial_of (map atom_in a.atoms.items)) (monomial_of (map atom_in b.atoms.items)) in
    let at_lengths : P (length a.atoms.items) (length b.atoms.items) =
    ap (λ o. ordering_then o (cmp_atoms (monomial_in a) (monomial_in b))) h ∙ ap (λ x. cmp_atoms x (monomial_in b)) (monomial_in-is a)
    ∙ ap (cmp_atoms (monomial_of (map atom_in a.atoms.items))) (monomial_in-is b) in
    subst (λ m. P m (degree (monomial_in b))) (sym (degree-monomial_in a)) (subst (λ n. P (length a.atoms.items) n) (sym (degree-monomial_in b)) at_lengths)

pub ruleset degrees = (degree-monomial_in, same_degree)
