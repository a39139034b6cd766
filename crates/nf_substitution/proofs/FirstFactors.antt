-- The first factor of a product from 1 on.
use Rattle.std.proofs.Common.{◌≡◌, ℤ, pos, ◌*ℤ◌, ℕ, ◌*◌, ◌-◌, ◌≤◌, List, [], ◌∷◌, length, take, drop, get_or, Result, cond, arith, refl, ap, sym}
use Rattle.std.proofs.Common.{subst, ◌∙◌}
use Rattle.std.proofs.Math.Seq.{take-length}
use Rattle.std.proofs.lemmas.Int.{ints}
use Rattle.std.proofs.lemmas.Bool.{le-leb}
use Rattle.nf_sums.proofs.Identities.{sum_with_zero}
use Rattle.nf_terms.proofs.Simple.{light}
use Rattle.nf_trees.specs.NormalTerms.{Atom, Monomial, Polynomial, One, Times, Zero, Plus}
use Rattle.nf_trees.specs.Measures.{size_of, depth_of, weight_of}
use Rattle.nf_terms.specs.TermLimits.{weight_limit}
use Rattle.nf_terms.specs.Normal.{IsNormal}
use Rattle.nf_terms.specs.RawSums.{raw_multiple, raw_product}
use Rattle.nf_terms.specs.Computed.{Computed, Done, Wide, Answers, after, if_small}
use Rattle.nf_terms.specs.declared.stop.NfStop.{NfStop}
use Rattle.nf_bank.specs.declared.node.AtomId.{AtomId}
use Rattle.nf_bank.specs.AtomNumbers.{atom_of_number, monomial_over}
use Rattle.fs_model.specs.declared.sides.Pos.{Pos}
use Rattle.nf_terms.specs.declared.form.Nf.{Nf}
use Rattle.nf_sums.specs.RawSumForms.{normal_form}
use Rattle.nf_sums.specs.Operations.{operation, normal_product, number}
use Rattle.nf_sums.proofs.Exact.{small_done}
use Rattle.nf_sums.proofs.Settling.{form_stays}
use Rattle.nf_substitution.specs.Substitution.{atom_substituted, atoms_substituted}

-- the number 1
abbrev one : Polynomial
one = Plus One (pos 1) Zero

once : (n : ℕ) → 1 * n ≡ n
once n = omega arith

coefficient_once : (c : ℤ) → pos 1 *ℤ c ≡ c
coefficient_once c = omega (arith, ints)

multiple_once : (p : Polynomial) → raw_multiple One (pos 1) p ≡ p
multiple_once Zero = refl
multiple_once (Plus m c p) = λ k. Plus m (coefficient_once c k) (multiple_once p k)

product_once : (p : Polynomial) → raw_product one p ≡ p
product_once p = sum_with_zero (raw_multiple One (pos 1) p) ∙ multiple_once p

-- a normal polynomial is its own product with 1
pub times_one : (p : Polynomial) → IsNormal p → normal_product one p ≡ Done p
times_one p n =
    (λ k. operation one p (once (weight_of p) k) (once (size_of p) k) (product_once p k))
    ∙ ap (λ b. cond {A = Computed Polynomial} b (if_small (size_of p) (depth_of (normal_form p)) (normal_form p)) (Wide (weight_of one) (weight_of p)))
    (le-leb (weight_of p) weight_limit (light p n))
    ∙ (λ k. if_small (size_of p) (depth_of (form_stays p n.ordered k)) (form_stays p n.ordered k)) ∙ small_done (size_of p) (depth_of p) p n.small n.shallow

-- the first factor stands for its product with 1
first_factor : (v : List (Pos × Nf)) (a : Atom) (m : Monomial) (f : Polynomial) → IsNormal f → atom_substituted v a ≡ Done f
    → after (number (pos 1)) (atoms_substituted v (Times a m)) ≡ atoms_substituted v m f
first_factor v a m f n e =
    ap (λ c. after c (λ g. after (normal_product one g) (λ p. atoms_substituted v m p))) e
    ∙ ap (λ c. after c (λ p. atoms_substituted v m p)) (times_one f n)

all_taken : {T : Type 0} (x : T) (xs : List T) → take (length (x ∷ xs) - 1) xs ≡ xs
all_taken x xs = ap (λ n. take n xs) (omega arith) ∙ take-length xs

-- the answer of the atoms behind the first one is that of all, from 1 on
pub from_first : (v : List (Pos × Nf)) (bank : List Atom) (ids : List AtomId) (default : AtomId) (f : Polynomial) (r : Result Polynomial NfStop)
    → 1 ≤ length ids → IsNormal f → atom_substituted v (atom_of_number bank (get_or ids 0 default)) ≡ Done f
    → Answers r (atoms_substituted v (monomial_over bank (take (length ids - 1) (drop 1 ids))) f)
    → Answers r (after (number (pos 1)) (atoms_substituted v (monomial_over bank ids)))
from_first v bank [] default f r l n e h = absurd (omega (arith, l))
from_first v bank (i ∷ ids) default f r l n e h =
    subst (Answers r) (sym (first_factor v (atom_of_number bank i) (monomial_over bank ids) f n e))
    (subst (λ xs. Answers r (atoms_substituted v (monomial_over bank xs) f)) (all_taken i ids) h)
