-- Normal forms rise, whatever their atoms are, and atoms are the same exactly where they settle alike.
use Rattle.std.proofs.Common.{◌≡◌, ℤ, pos, ◌+ℤ◌, true, ◌&&◌, not, refl, ap, sym, ◌∙◌}
use Rattle.std.specs.Ordering.{int_eq, is_le, is_lt}
use Rattle.std.proofs.lemmas.Bool.{and_from}
use Rattle.nf_terms.proofs.Booleans.{and_first, and_second, by_test}
use Rattle.nf_trees.specs.NormalTerms.{Atom, Monomial, Polynomial, Symbol, Read, Quotient, Remainder, One, Times, Zero, Plus}
use Rattle.nf_trees.specs.Order.{cmp_atom, cmp_monomial}
use Rattle.nf_terms.specs.Normal.{atom_rises, monomial_rises}
use Rattle.nf_terms.specs.RawSums.{total}
use Rattle.nf_sums.specs.RawSumForms.{with_atom, sorted_monomial, plus, with_term, normal_form}
use Rattle.nf_sums.specs.Sameness.{settled_atom, settled, settled_array, SameSum, SameAtom}
use Rattle.nf_sums.proofs.Sorting.{atom_before, rises_with_atom}
use Rattle.nf_sums.proofs.Collecting.{by_cases, worth-form, turned, FirstRises, rises_with}
use Rattle.nf_sums.proofs.Bags.{bag_ignores}
use Rattle.nf_sums.proofs.Worth.{one_for, total_worth}
use Rattle.nf_sums.proofs.Unique.{risen_monomial, risen, unique}

-- ---- normal forms rise

with_atom_risen : (a : Atom) (m : Monomial) → risen_monomial m ≡ true → risen_monomial (with_atom a m) ≡ true
with_atom_risen a One o = refl
with_atom_risen a (Times b m) o =
    by_test (λ n. risen_monomial n ≡ true) (Times a (Times b m)) (Times b (with_atom a m)) (is_le (cmp_atom a b))
    (λ t. and_from (atom_rises a (Times b m)) (risen_monomial (Times b m)) t o)
    (λ t. and_from (atom_rises b (with_atom a m)) (risen_monomial (with_atom a m))
    (rises_with_atom b a m (atom_before a b t) (and_first (atom_rises b m) (risen_monomial m) o))
    (with_atom_risen a m (and_second (atom_rises b m) (risen_monomial m) o)))

sorted_risen : (m : Monomial) → risen_monomial (sorted_monomial m) ≡ true
sorted_risen One = refl
sorted_risen (Times a m) = with_atom_risen a (sorted_monomial m) (sorted_risen m)

-- the first monomial of a sum that rises, and the rest
record IsRisenTerm (m : Monomial) (c : ℤ) (p : Polynomial) : Type 0 where
  nonzero : not (int_eq c (pos 0)) ≡ true
  first : risen_monomial m ≡ true
  rises : monomial_rises m p ≡ true
  rest : risen p ≡ true

risen_term : (m : Monomial) (c : ℤ) (p : Polynomial) → risen (Plus m c p) ≡ true → IsRisenTerm m c p
risen_term m c p o =
    let z = not (int_eq c (pos 0)) in
    let a : z && risen_monomial m && monomial_rises m p ≡ true = and_first (z && risen_monomial m && monomial_rises m p) (risen p) o in
    let b : z && risen_monomial m ≡ true = and_first (z && risen_monomial m) (monomial_rises m p) a in
    record {
      nonzero = and_first z (risen_monomial m) b;
      first = and_second z (risen_monomial m) b;
      rises = and_second (z && risen_monomial m) (monomial_rises m p) a;
      rest = and_second (z && risen_monomial m && monomial_rises m p) (risen p) o;
    }

term_risen : (m : Monomial) (c : ℤ) (p : Polynomial) → not (int_eq c (pos 0)) ≡ true → risen_monomial m ≡ true → monomial_rises m p ≡ true → risen p ≡ true
    → risen (Plus m c p) ≡ true
term_risen m c p z o r q =
    and_from (not (int_eq c (pos 0)) && risen_monomial m && monomial_rises m p) (risen p)
    (and_from (not (int_eq c (pos 0)) && risen_monomial m) (monomial_rises m p) (and_from (not (int_eq c (pos 0))) (risen_monomial m) z o) r) q

plus_risen : (m : Monomial) (c : ℤ) (p : Polynomial) → risen_monomial m ≡ true → monomial_rises m p ≡ true → risen p ≡ true → risen (plus m c p) ≡ true
plus_risen m c p o r q = by_test (λ t. risen t ≡ true) p (Plus m c p) (int_eq c (pos 0)) (λ e. q) (λ e. term_risen m c p (ap not e) o r q)

first_of : (p : Polynomial) → risen p ≡ true → FirstRises p
first_of Zero o = tt
first_of (Plus m c p) o = (risen_term m c p o).rises

with_term_risen : (m : Monomial) (c : ℤ) (p : Polynomial) → risen_monomial m ≡ true → risen p ≡ true → risen (with_term m c p) ≡ true
with_term_risen m c Zero o q = plus_risen m c Zero o refl refl
with_term_risen m c (Plus n d p) o q =
    let t = risen_term n d p q in
    by_cases (λ t. risen t ≡ true) (plus m c (Plus n d p)) (plus n (c +ℤ d) p) (Plus n d (with_term m c p)) (cmp_monomial m n)
    (λ e. plus_risen m c (Plus n d p) o (ap is_lt e) q) (λ e. plus_risen n (c +ℤ d) p t.first t.rises t.rest)
    (λ e. term_risen n d (with_term m c p) t.nonzero t.first (rises_with n m c p (turned m n e) (first_of p t.rest) t.rises) (with_term_risen m c p o t.rest))

form_risen : (p : Polynomial) → risen (normal_form p) ≡ true
form_risen Zero = refl
form_risen (Plus m c p) = with_term_risen (sorted_monomial m) c (normal_form p) (sorted_risen m) (form_risen p)

-- ---- sums are the same exactly where they have one normal form

form_totals : (bag : Monomial) (p : Polynomial) → total bag (normal_form p) ≡ total bag p
form_totals bag p = total_worth bag (normal_form p) ∙ worth-form (one_for bag) (bag_ignores bag) p ∙ sym (total_worth bag p)

pub sums_settle : (p q : Polynomial) → SameSum p q → normal_form (settled p) ≡ normal_form (settled q)
sums_settle p q s = unique (normal_form (settled p)) (normal_form (settled q)) (form_risen (settled p)) (form_risen (settled q))
    (record { totals = λ bag. form_totals bag (settled p) ∙ s.totals bag ∙ sym (form_totals bag (settled q)) })

pub sums_same : (p q : Polynomial) → normal_form (settled p) ≡ normal_form (settled q) → SameSum p q
sums_same p q e = record { totals = λ bag. sym (form_totals bag (settled p)) ∙ ap (total bag) e ∙ form_totals bag (settled q) }

-- ---- atoms are the same exactly where they settle alike

pub atoms_settle : (a b : Atom) → SameAtom a b → settled_atom a ≡ settled_atom b
atoms_settle (Symbol p) (Symbol q) s = ap Symbol s
atoms_settle (Symbol p) (Read b j) s = absurd s
atoms_settle (Symbol p) (Quotient r t) s = absurd s
atoms_settle (Symbol p) (Remainder r t) s = absurd s
atoms_settle (Read a i) (Symbol q) s = absurd s
atoms_settle (Read a i) (Read b j) s = λ k. Read (s.0.forms k) (sums_settle i j s.1 k)
atoms_settle (Read a i) (Quotient r t) s = absurd s
atoms_settle (Read a i) (Remainder r t) s = absurd s
atoms_settle (Quotient p q) (Symbol t) s = absurd s
atoms_settle (Quotient p q) (Read b j) s = absurd s
atoms_settle (Quotient p q) (Quotient r t) s = λ k. Quotient (sums_settle p r s.0 k) (sums_settle q t s.1 k)
atoms_settle (Quotient p q) (Remainder r t) s = absurd s
atoms_settle (Remainder p q) (Symbol t) s = absurd s
atoms_settle (Remainder p q) (Read b j) s = absurd s
atoms_settle (Remainder p q) (Quotient r t) s = absurd s
atoms_settle (Remainder p q) (Remainder r t) s = λ k. Remainder (sums_settle p r s.0 k) (sums_settle q t s.1 k)

pub atoms_same : (a b : Atom) → settled_atom a ≡ settled_atom b → SameAtom a b
atoms_same (Symbol p) (Symbol q) e = cc
atoms_same (Symbol p) (Read b j) e = cc
atoms_same (Symbol p) (Quotient r t) e = cc
atoms_same (Symbol p) (Remainder r t) e = cc
atoms_same (Read a i) (Symbol q) e = cc
atoms_same (Read a i) (Read b j) e =
    let f : settled_array a ≡ settled_array b = cc in
    let g : normal_form (settled i) ≡ normal_form (settled j) = cc in
    (record { forms = f }, sums_same i j g)
atoms_same (Read a i) (Quotient r t) e = cc
atoms_same (Read a i) (Remainder r t) e = cc
atoms_same (Quotient p q) (Symbol t) e = cc
atoms_same (Quotient p q) (Read b j) e = cc
atoms_same (Quotient p q) (Quotient r t) e =
    let f : normal_form (settled p) ≡ normal_form (settled r) = cc in
    let g : normal_form (settled q) ≡ normal_form (settled t) = cc in
    (sums_same p r f, sums_same q t g)
atoms_same (Quotient p q) (Remainder r t) e = cc
atoms_same (Remainder p q) (Symbol t) e = cc
atoms_same (Remainder p q) (Read b j) e = cc
atoms_same (Remainder p q) (Quotient r t) e = cc
atoms_same (Remainder p q) (Remainder r t) e =
    let f : normal_form (settled p) ≡ normal_form (settled r) = cc in
    let g : normal_form (settled q) ≡ normal_form (settled t) = cc in
    (sums_same p r f, sums_same q t g)

pub ruleset settling = (atoms_settle, atoms_same, sums_settle, sums_same)
