-- The normal form of a raw sum is in order, is the same, and is no larger.
use Rattle.std.proofs.Common.{◌≡◌, ℕ, ◌+◌, ◌≤◌, ℤ, pos, ◌+ℤ◌, ◌*ℤ◌, Bool, true, ◌&&◌, unsigned_abs, arith, refl, ap, ◌∙◌}
use Rattle.std.proofs.lemmas.Int.{ints}
use Rattle.std.specs.declared.cmp.Ordering.{Ordering}
use Rattle.std.specs.declared.cmp.Ordering.TheVariants.{Less, Equal, Greater}
use Rattle.std.specs.Ordering.{int_eq, is_lt, ordering_reverse}
use Rattle.std.specs.Cmp.{signed_Decides}
use Rattle.std.proofs.lemmas.Bool.{and_from}
use Rattle.nf_terms.proofs.Booleans.{and_first, and_second, by_test}
use Rattle.nf_terms.proofs.Orderings.{is_lt-true}
use Rattle.nf_terms.proofs.Integers.{unsigned_abs-add}
use Rattle.nf_trees.specs.NormalTerms.{Monomial, Polynomial, Zero, Plus}
use Rattle.nf_trees.specs.Order.{cmp_monomial}
use Rattle.nf_trees.specs.TermKeys.{monomial_ties}
use Rattle.nf_trees.specs.Comparison.{monomials_total}
use Rattle.nf_trees.specs.Measures.{size_of, weight_of, size_of_monomial}
use Rattle.nf_terms.specs.Normal.{ordered, ordered_monomial, monomial_rises}
use Rattle.nf_terms.proofs.Ring.{add-mul_z}
use Rattle.nf_sums.specs.OrderedSums.{worth_of, IgnoresOrder, polynomial_fits, fits_monomial}
use Rattle.nf_sums.proofs.Partings.{rises_through, ordered_term, term_ordered}
use Rattle.nf_sums.proofs.Bags.{size_worth, size_ignores, fits_ignores, fits_again}
use Rattle.nf_sums.specs.RawSumForms.{sorted_monomial, plus, by_order, with_term, normal_form}
use Rattle.nf_sums.proofs.Sorting.{sorting_ignored, sorted_stays, sorted_ordered, atoms_ordered}

-- one of three by an order, and a fact of each
pub by_cases : {T : Type 0} (P : T → Type 0) (x y z : T) (r : Ordering) → (r ≡ Less → P x) → (r ≡ Equal → P y) → (r ≡ Greater → P z) → P (by_order r x y z)
by_cases P x y z Less f g h = f refl
by_cases P x y z Equal f g h = g refl
by_cases P x y z Greater f g h = h refl

zero_of : (c : ℤ) → int_eq c (pos 0) ≡ true → c ≡ pos 0
zero_of c e = (signed_Decides c (pos 0)).0 e

-- ---- worth

worth-plus : (f : Monomial → ℤ) (m : Monomial) (c : ℤ) (p : Polynomial) → worth_of f (plus m c p) ≡ c *ℤ f m +ℤ worth_of f p
worth-plus f m c p = by_test (λ t. worth_of f t ≡ c *ℤ f m +ℤ worth_of f p) p (Plus m c p) (int_eq c (pos 0))
    (λ e. omega (arith, ints, ap (λ z. z *ℤ f m) (zero_of c e))) (λ e. refl)

pub worth-with_term : (f : Monomial → ℤ) (m : Monomial) (c : ℤ) (p : Polynomial) → worth_of f (with_term m c p) ≡ c *ℤ f m +ℤ worth_of f p
worth-with_term f m c Zero = worth-plus f m c Zero
worth-with_term f m c (Plus n d p) =
    by_cases (λ t. worth_of f t ≡ c *ℤ f m +ℤ worth_of f (Plus n d p)) (plus m c (Plus n d p)) (plus n (c +ℤ d) p) (Plus n d (with_term m c p))
    (cmp_monomial m n) (λ e. worth-plus f m c (Plus n d p))
    (λ e. omega (arith, ints, worth-plus f n (c +ℤ d) p, add-mul_z c d (f n), ap (λ k. c *ℤ f k) (monomial_ties m n e)))
    (λ e. omega (arith, ints, worth-with_term f m c p))

pub worth-form : (f : Monomial → ℤ) → IgnoresOrder f → (p : Polynomial) → worth_of f (normal_form p) ≡ worth_of f p
worth-form f h Zero = refl
worth-form f h (Plus m c p) = worth-with_term f (sorted_monomial m) c (normal_form p)
    ∙ omega (arith, ints, ap (λ z. c *ℤ z) (sorting_ignored f h m), worth-form f h p)

-- whether each monomial's atoms are in order
abbrev pub monomials_ordered : Polynomial → Bool
monomials_ordered Zero = true
monomials_ordered (Plus m c p) = ordered_monomial m && monomials_ordered p

pub worth-form_ordered : (f : Monomial → ℤ) (p : Polynomial) → monomials_ordered p ≡ true → worth_of f (normal_form p) ≡ worth_of f p
worth-form_ordered f Zero o = refl
worth-form_ordered f (Plus m c p) o =
    worth-with_term f (sorted_monomial m) c (normal_form p)
    ∙ omega (
      arith,
      ints,
      ap (λ k. c *ℤ f k) (sorted_stays m (and_first (ordered_monomial m) (monomials_ordered p) o)),
      worth-form_ordered f p (and_second (ordered_monomial m) (monomials_ordered p) o),
    )

-- ---- order

pub turned : (m n : Monomial) → cmp_monomial m n ≡ Greater → cmp_monomial n m ≡ Less
turned m n e = monomials_total.antisymm n m ∙ ap ordering_reverse e

plus_ordered : (m : Monomial) (c : ℤ) (p : Polynomial) → ordered_monomial m ≡ true → monomial_rises m p ≡ true → ordered p ≡ true → ordered (plus m c p) ≡ true
plus_ordered m c p o r q = by_test (λ t. ordered t ≡ true) p (Plus m c p) (int_eq c (pos 0)) (λ e. q)
    (λ e. term_ordered m c p (record { nonzero = e; first = o; rises = r; rest = q }))

rises_plus : (n m : Monomial) (c : ℤ) (p : Polynomial) → monomial_rises n p ≡ true → cmp_monomial n m ≡ Less → monomial_rises n (plus m c p) ≡ true
rises_plus n m c p r l = by_test (λ t. monomial_rises n t ≡ true) p (Plus m c p) (int_eq c (pos 0)) (λ e. r) (λ e. ap is_lt l)

-- the first monomial, if there is one, stands before the next one
abbrev pub FirstRises : Polynomial → Type 0
FirstRises Zero = Unit {0}
FirstRises (Plus m c p) = monomial_rises m p ≡ true

pub rises_with : (n m : Monomial) (c : ℤ) (p : Polynomial) → cmp_monomial n m ≡ Less → FirstRises p → monomial_rises n p ≡ true
    → monomial_rises n (with_term m c p) ≡ true
rises_with n m c Zero l f r = rises_plus n m c Zero r l
rises_with n m c (Plus k d p) l f r =
    by_cases (λ t. monomial_rises n t ≡ true) (plus m c (Plus k d p)) (plus k (c +ℤ d) p) (Plus k d (with_term m c p)) (cmp_monomial m k)
    (λ e. rises_plus n m c (Plus k d p) r l)
    (λ e. rises_plus n k (c +ℤ d) p (rises_through n k p (is_lt-true (cmp_monomial n k) r) f) (is_lt-true (cmp_monomial n k) r)) (λ e. r)

first_of : (p : Polynomial) → ordered p ≡ true → FirstRises p
first_of Zero o = tt
first_of (Plus m c p) o = (ordered_term m c p o).rises

pub with_term_ordered : (m : Monomial) (c : ℤ) (p : Polynomial) → ordered_monomial m ≡ true → ordered p ≡ true → ordered (with_term m c p) ≡ true
with_term_ordered m c Zero o q = plus_ordered m c Zero o refl refl
with_term_ordered m c (Plus n d p) o q =
    let t = ordered_term n d p q in
    by_cases (λ t. ordered t ≡ true) (plus m c (Plus n d p)) (plus n (c +ℤ d) p) (Plus n d (with_term m c p)) (cmp_monomial m n)
    (λ e. plus_ordered m c (Plus n d p) o (ap is_lt e) q) (λ e. plus_ordered n (c +ℤ d) p t.first t.rises t.rest)
    (λ e. term_ordered n d (with_term m c p)
    (record {
      nonzero = t.nonzero;
      first = t.first;
      rises = rises_with n m c p (turned m n e) (first_of p t.rest) t.rises;
      rest = with_term_ordered m c p o t.rest;
    }))

-- whether each atom is in order in itself
abbrev pub atoms_in_order : Polynomial → Bool
atoms_in_order Zero = true
atoms_in_order (Plus m c p) = atoms_ordered m && atoms_in_order p

pub form_ordered : (p : Polynomial) → atoms_in_order p ≡ true → ordered (normal_form p) ≡ true
form_ordered Zero o = refl
form_ordered (Plus m c p) o =
    with_term_ordered (sorted_monomial m) c (normal_form p) (sorted_ordered m (and_first (atoms_ordered m) (atoms_in_order p) o))
    (form_ordered p (and_second (atoms_ordered m) (atoms_in_order p) o))

-- ---- size, weight, and what is inside

pos_same : {m n : ℕ} → pos m ≡ pos n → m ≡ n
pos_same e = cc

sorted_size : (m : Monomial) → size_of_monomial (sorted_monomial m) ≡ size_of_monomial m
sorted_size m = pos_same (sorting_ignored size_worth size_ignores m)

sorted_fits : (m : Monomial) → fits_monomial m ≡ true → fits_monomial (sorted_monomial m) ≡ true
sorted_fits m h = fits_again (sorted_monomial m) m (sorting_ignored _ fits_ignores m) h

size-plus : (m : Monomial) (c : ℤ) (p : Polynomial) → size_of (plus m c p) ≤ 1 + size_of_monomial m + size_of p
size-plus m c p = by_test (λ t. size_of t ≤ 1 + size_of_monomial m + size_of p) p (Plus m c p) (int_eq c (pos 0)) (λ e. omega arith) (λ e. omega arith)

pub size-with_term : (m : Monomial) (c : ℤ) (p : Polynomial) → size_of (with_term m c p) ≤ 1 + size_of_monomial m + size_of p
size-with_term m c Zero = size-plus m c Zero
size-with_term m c (Plus n d p) =
    by_cases (λ t. size_of t ≤ 1 + size_of_monomial m + size_of (Plus n d p)) (plus m c (Plus n d p)) (plus n (c +ℤ d) p) (Plus n d (with_term m c p))
    (cmp_monomial m n) (λ e. size-plus m c (Plus n d p))
    (λ e. omega (arith, size-plus n (c +ℤ d) p)) (λ e. omega (arith, size-with_term m c p))

pub size-form : (p : Polynomial) → size_of (normal_form p) ≤ size_of p
size-form Zero = omega arith
size-form (Plus m c p) = omega (arith, size-with_term (sorted_monomial m) c (normal_form p), sorted_size m, size-form p)

weight-plus : (m : Monomial) (c : ℤ) (p : Polynomial) → weight_of (plus m c p) ≤ unsigned_abs c + weight_of p
weight-plus m c p = by_test (λ t. weight_of t ≤ unsigned_abs c + weight_of p) p (Plus m c p) (int_eq c (pos 0)) (λ e. omega arith) (λ e. omega arith)

pub weight-with_term : (m : Monomial) (c : ℤ) (p : Polynomial) → weight_of (with_term m c p) ≤ unsigned_abs c + weight_of p
weight-with_term m c Zero = weight-plus m c Zero
weight-with_term m c (Plus n d p) =
    by_cases (λ t. weight_of t ≤ unsigned_abs c + weight_of (Plus n d p)) (plus m c (Plus n d p)) (plus n (c +ℤ d) p) (Plus n d (with_term m c p))
    (cmp_monomial m n) (λ e. weight-plus m c (Plus n d p))
    (λ e. omega (arith, weight-plus n (c +ℤ d) p, unsigned_abs-add c d)) (λ e. omega (arith, weight-with_term m c p))

pub weight-form : (p : Polynomial) → weight_of (normal_form p) ≤ weight_of p
weight-form Zero = omega arith
weight-form (Plus m c p) = omega (arith, weight-with_term (sorted_monomial m) c (normal_form p), weight-form p)

fits-plus : (m : Monomial) (c : ℤ) (p : Polynomial) → fits_monomial m ≡ true → polynomial_fits p ≡ true → polynomial_fits (plus m c p) ≡ true
fits-plus m c p h k = by_test (λ t. polynomial_fits t ≡ true) p (Plus m c p) (int_eq c (pos 0)) (λ e. k)
    (λ e. and_from (fits_monomial m) (polynomial_fits p) h k)

pub fits-with_term : (m : Monomial) (c : ℤ) (p : Polynomial) → fits_monomial m ≡ true → polynomial_fits p ≡ true → polynomial_fits (with_term m c p) ≡ true
fits-with_term m c Zero h k = fits-plus m c Zero h k
fits-with_term m c (Plus n d p) h k =
    let i : fits_monomial n ≡ true = and_first (fits_monomial n) (polynomial_fits p) k in
    let j : polynomial_fits p ≡ true = and_second (fits_monomial n) (polynomial_fits p) k in
    by_cases (λ t. polynomial_fits t ≡ true) (plus m c (Plus n d p)) (plus n (c +ℤ d) p) (Plus n d (with_term m c p)) (cmp_monomial m n)
    (λ e. fits-plus m c (Plus n d p) h k) (λ e. fits-plus n (c +ℤ d) p i j)
    (λ e. and_from (fits_monomial n) (polynomial_fits (with_term m c p)) i (fits-with_term m c p h j))

pub fits-form : (p : Polynomial) → polynomial_fits p ≡ true → polynomial_fits (normal_form p) ≡ true
fits-form Zero h = refl
fits-form (Plus m c p) h = fits-with_term (sorted_monomial m) c (normal_form p) (sorted_fits m (and_first (fits_monomial m) (polynomial_fits p) h))
    (fits-form p (and_second (fits_monomial m) (polynomial_fits p) h))
