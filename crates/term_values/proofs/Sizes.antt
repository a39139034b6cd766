-- What has more monomials than the limit of size is not normal.
use Rattle.std.proofs.Common.{◌≡◌, ℕ, ℤ, pos, neg_ℤ, suc, ◌+◌, ◌≤◌, ◌<◌, false, List, [], ◌∷◌, map, length, sym, ◌∙◌, arith, subst}
use Rattle.std.proofs.lemmas.List.{length-map}
use Rattle.nf_terms.specs.TermLimits.{size_limit}
use Rattle.nf_trees.specs.Measures.{size_of, size_of_monomial}
use Rattle.nf_trees.specs.NormalTerms as terms
use Rattle.nf_rel.specs.NormalLiterals.{is_normal}
use Rattle.term_text.specs.TermTexts.{Sum, Positive, Negative, Plus, Minus, Of}
use Rattle.term_text.specs.declared.tree.WrittenPolynomial.{WrittenPolynomial, out-WrittenPolynomial}
use Rattle.term_text.specs.View.{written_polynomial_in, written_term_in}
use Rattle.term_values.specs.TermValues.{Interpretation, coefficient, atoms_of, sum_value, polynomial_value}
use Rattle.term_values.specs.ListParts.{term_value}
use Rattle.term_values.specs.SumTallies.{monomial_count}
use Rattle.term_values.proofs.Lists.{polynomial_is}
use Rattle.term_values.proofs.Normal.{passes_normal, refuted}

past : (p : terms.Polynomial) (k : ℕ) → size_limit < k → k ≤ size_of p → is_normal p ≡ false
past p k h l = refuted (is_normal p) (λ e. let small = (passes_normal p e).small in absurd (omega (arith, h, l, small)))

plus_larger : (k n m s : ℕ) → k + (1 + m + s) ≤ n → suc k + s ≤ n
plus_larger k n m s h = omega (arith, h)

sum_size : (r : Interpretation) (s : Sum) (rest : terms.Polynomial) → monomial_count s + size_of rest ≤ size_of (sum_value r s rest)
sum_size r (Positive m) rest = omega arith
sum_size r (Negative m) rest = omega arith
sum_size r (Plus s m) rest = plus_larger (monomial_count s) (size_of (sum_value r (Plus s m) rest)) (size_of_monomial (atoms_of r m terms.One)) (size_of rest)
    (sum_size r s (terms.Plus (atoms_of r m terms.One) (pos (coefficient r.number m)) rest))
sum_size r (Minus s m) rest = plus_larger (monomial_count s) (size_of (sum_value r (Minus s m) rest)) (size_of_monomial (atoms_of r m terms.One)) (size_of rest)
    (sum_size r s (terms.Plus (atoms_of r m terms.One) (neg_ℤ (pos (coefficient r.number m))) rest))

no_more : (k n : ℕ) → k + 0 ≤ n → k ≤ n
no_more k n h = omega (arith, h)

-- a sum of too many monomials
pub too_long : (r : Interpretation) (s : Sum) → size_limit < monomial_count s → is_normal (polynomial_value r (Of s)) ≡ false
too_long r s h = past (polynomial_value r (Of s)) (monomial_count s) h (no_more (monomial_count s) _ (sum_size r s terms.Zero))

size_of_parts : (ts : List (terms.Monomial × ℤ)) → length ts ≤ size_of (terms.polynomial_of ts)
size_of_parts [] = omega arith
size_of_parts (t ∷ ts) = let h = size_of_parts ts in omega (arith, h)

-- a tree of too many monomials
pub too_many : (r : Interpretation) (p : WrittenPolynomial) → size_limit < length (out-WrittenPolynomial p).monomials.items
    → is_normal (polynomial_value r (written_polynomial_in p)) ≡ false
too_many r p h =
    let ts = map written_term_in (out-WrittenPolynomial p).monomials.items in
    let all = size_of_parts (map (term_value r) ts) in
    let same = length-map ts (term_value r) ∙ length-map (out-WrittenPolynomial p).monomials.items written_term_in in
    subst (λ q. is_normal q ≡ false) (sym (polynomial_is r p))
    (past (terms.polynomial_of (map (term_value r) ts)) (length (out-WrittenPolynomial p).monomials.items) h
    (subst (λ n. n ≤ size_of (terms.polynomial_of (map (term_value r) ts))) same all))
