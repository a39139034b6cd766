-- Normal polynomials that are the same raw sum are equal.
use Rattle.std.proofs.Common.{◌≡◌, ℕ, zero, suc, ◌+◌, ◌<◌, ◌==◌, ℤ, pos, ◌+ℤ◌, Bool, true, false, ◌&&◌, not, cond, arith, refl, ap, sym, subst, ◌∙◌}
use Rattle.std.proofs.lemmas.Int.{ints}
use Rattle.std.proofs.lemmas.Bool.{eqb-true, and_from}
use Rattle.std.specs.declared.cmp.Ordering.{Ordering}
use Rattle.std.specs.declared.cmp.Ordering.TheVariants.{Less, Equal, Greater}
use Rattle.std.specs.Ordering.{int_eq, is_lt, is_le, is_eq, ordering_reverse}
use Rattle.std.specs.Cmp.{signed_Decides}
use Rattle.nf_terms.proofs.Booleans.{and_first, and_second}
use Rattle.nf_terms.proofs.Orderings.{is_eq-true, is_lt-true}
use Rattle.nf_terms.proofs.Numbers.{eqb_self}
use Rattle.nf_trees.specs.NormalTerms.{Atom, Monomial, Polynomial, One, Times, Zero, Plus}
use Rattle.nf_trees.specs.Order.{cmp_atom, cmp_monomial, same_atom}
use Rattle.nf_trees.specs.TermKeys.{atom_ties, atom_same, monomial_ties, monomial_same}
use Rattle.nf_trees.specs.Comparison.{atoms_total, monomials_total}
use Rattle.nf_terms.specs.Normal.{IsNormal, ordered, ordered_atom, ordered_monomial, atom_rises, monomial_rises}
use Rattle.nf_terms.specs.RawSums.{occurrences, as_often, same_bag, total, SameTotals}
use Rattle.nf_sums.proofs.Partings.{ordered_term}

-- ---- sums that rise: in order, but for what is inside their atoms

-- whether no atom stands after the next one
abbrev pub risen_monomial : Monomial → Bool
risen_monomial One = true
risen_monomial (Times a m) = atom_rises a m && risen_monomial m

-- whether the monomials rise, and no coefficient is 0
abbrev pub risen : Polynomial → Bool
risen Zero = true
risen (Plus m c p) = not (int_eq c (pos 0)) && risen_monomial m && monomial_rises m p && risen p

-- ---- monomials with the same atoms

same_self : (a : Atom) → same_atom a a ≡ true
same_self a = ap is_eq (atom_same a a refl)

-- where an atom stands in k, it stands as often in both
often_at : (k m n : Monomial) (x : Atom) → as_often k m n ≡ true → 0 < occurrences x k → occurrences x m ≡ occurrences x n
often_at One m n x e h = absurd (omega arith)
often_at (Times a k) m n x e h = by_test (λ f g. often_at k m n x f g) (same_atom x a) refl
  where
    by_test : (as_often k m n ≡ true → 0 < occurrences x k → occurrences x m ≡ occurrences x n) → (b : Bool) → same_atom x a ≡ b
        → occurrences x m ≡ occurrences x n
    by_test again true f =
        let s : x ≡ a = atom_ties x a (is_eq-true (cmp_atom x a) f) in
        subst (λ y. occurrences y m ≡ occurrences y n) (sym s)
        (eqb-true (occurrences a m) (occurrences a n) (and_first (occurrences a m == occurrences a n) (as_often k m n) e))
    by_test again false f = again (and_second (occurrences a m == occurrences a n) (as_often k m n) e)
        (let g : occurrences x (Times a k) ≡ 0 + occurrences x k = ap (λ b. cond b 1 0 + occurrences x k) f in omega arith)

pub record SameAtoms (m n : Monomial) : Type 0 where
  pub counts : (x : Atom) → occurrences x m ≡ occurrences x n

same_atoms : (m n : Monomial) → same_bag m n ≡ true → SameAtoms m n
same_atoms m n e = record { counts = λ x. by_count x (occurrences x m) refl (occurrences x n) refl }
  where
    by_count : (x : Atom) (i : ℕ) → occurrences x m ≡ i → (j : ℕ) → occurrences x n ≡ j → occurrences x m ≡ occurrences x n
    by_count x zero f zero g = f ∙ sym g
    by_count x zero f (suc j) g = often_at n m n x (and_second (as_often m m n) (as_often n m n) e) (omega arith)
    by_count x (suc i) f j g = often_at m m n x (and_first (as_often m m n) (as_often n m n) e) (omega arith)

rest_ordered : (a : Atom) (m : Monomial) → risen_monomial (Times a m) ≡ true → risen_monomial m ≡ true
rest_ordered a m o = and_second (atom_rises a m) (risen_monomial m) o

rises : (a : Atom) (m : Monomial) → risen_monomial (Times a m) ≡ true → atom_rises a m ≡ true
rises a m o = and_first (atom_rises a m) (risen_monomial m) o

less_through : (a b c : Atom) → cmp_atom a b ≡ Less → is_le (cmp_atom b c) ≡ true → cmp_atom a c ≡ Less
less_through a b c e f = by_order (cmp_atom b c) refl
  where
    by_order : (r : Ordering) → cmp_atom b c ≡ r → cmp_atom a c ≡ Less
    by_order Less g = atoms_total.trans a b c e g
    by_order Equal g = subst (λ x. cmp_atom a x ≡ Less) (atom_ties b c g) e
    by_order Greater g = absurd (let h : is_le Greater ≡ true = sym (ap is_le g) ∙ f in cc)

-- an atom before the first one doesn't stand in an ordered monomial
absent : (a b : Atom) (n : Monomial) → cmp_atom a b ≡ Less → risen_monomial (Times b n) ≡ true → occurrences a (Times b n) ≡ 0
absent a b One e o = ap (λ r. cond (is_eq r) 1 0 + 0) e
absent a b (Times c n) e o =
    let h : occurrences a (Times c n) ≡ 0 = absent a c n (less_through a b c e (rises b (Times c n) o)) (rest_ordered b (Times c n) o) in
    let g : occurrences a (Times b (Times c n)) ≡ 0 + occurrences a (Times c n) = ap (λ r. cond (is_eq r) 1 0 + occurrences a (Times c n)) e in
    omega arith

present : (a : Atom) (m : Monomial) → 0 < occurrences a (Times a m)
present a m = let g : occurrences a (Times a m) ≡ 1 + occurrences a m = ap (λ b. cond b 1 0 + occurrences a m) (same_self a) in omega arith

greater_less : (a b : Atom) → cmp_atom a b ≡ Greater → cmp_atom b a ≡ Less
greater_less a b e = atoms_total.antisymm b a ∙ ap ordering_reverse e

same_monomials : (m n : Monomial) → risen_monomial m ≡ true → risen_monomial n ≡ true → SameAtoms m n → m ≡ n
same_monomials One One o p s = refl
same_monomials One (Times b n) o p s = absurd (omega (arith, s.counts b, present b n))
same_monomials (Times a m) One o p s = absurd (omega (arith, s.counts a, present a m))
same_monomials (Times a m) (Times b n) o p s = by_order (λ t. same_monomials m n (rest_ordered a m o) (rest_ordered b n p) t) (cmp_atom a b) refl
  where
    by_order : (SameAtoms m n → m ≡ n) → (r : Ordering) → cmp_atom a b ≡ r → Times a m ≡ Times b n
    by_order again Less e = absurd (omega (arith, s.counts a, present a m, absent a b n e p))
    by_order again Greater e = absurd (omega (arith, s.counts b, present b n, absent b a m (greater_less a b e) o))
    by_order again Equal e =
        let f : a ≡ b = atom_ties a b e in
        let t : SameAtoms m n = record { counts = λ x. cancel x (subst (λ y. occurrences x (Times a m) ≡ occurrences x (Times y n)) (sym f) (s.counts x)) } in
        let g : m ≡ n = again t in
        cc
      where
        cancel : (x : Atom) → occurrences x (Times a m) ≡ occurrences x (Times a n) → occurrences x m ≡ occurrences x n
        cancel x h = omega arith

-- ordered monomials that are the same bag are equal
bags_equal : (m n : Monomial) → risen_monomial m ≡ true → risen_monomial n ≡ true → same_bag m n ≡ true → m ≡ n
bags_equal m n o p e = same_monomials m n o p (same_atoms m n e)

often_self : (k m : Monomial) → as_often k m m ≡ true
often_self One m = refl
often_self (Times a k) m = let e : (occurrences a m == occurrences a m) ≡ true = eqb_self (occurrences a m) in
    let f : as_often k m m ≡ true = often_self k m in cc

bag_self : (m : Monomial) → same_bag m m ≡ true
bag_self m = let e : as_often m m m ≡ true = often_self m m in cc

-- ---- polynomials with the same totals

module _ (m : Monomial) (c : ℤ) (p : Polynomial) (o : risen (Plus m c p) ≡ true) where
  good : not (int_eq c (pos 0)) && risen_monomial m ≡ true
  good = and_first (not (int_eq c (pos 0)) && risen_monomial m) (monomial_rises m p)
      (and_first (not (int_eq c (pos 0)) && risen_monomial m && monomial_rises m p) (risen p) o)

  no_zero : not (int_eq c (pos 0)) ≡ true
  no_zero = and_first (not (int_eq c (pos 0))) (risen_monomial m) good

  first_ordered : risen_monomial m ≡ true
  first_ordered = and_second (not (int_eq c (pos 0))) (risen_monomial m) good

  first_rises : monomial_rises m p ≡ true
  first_rises = and_second (not (int_eq c (pos 0)) && risen_monomial m) (monomial_rises m p)
      (and_first (not (int_eq c (pos 0)) && risen_monomial m && monomial_rises m p) (risen p) o)

  tail_ordered : risen p ≡ true
  tail_ordered = and_second (not (int_eq c (pos 0)) && risen_monomial m && monomial_rises m p) (risen p) o

  zero_not : c ≡ pos 0 → ⊥
  zero_not e = let t : int_eq c (pos 0) ≡ true = (signed_Decides c (pos 0)).1 e in let n : not (int_eq c (pos 0)) ≡ true = no_zero in
      let f : not true ≡ true = sym (ap not t) ∙ n in cc

not_same : (m n : Monomial) → risen_monomial m ≡ true → risen_monomial n ≡ true → cmp_monomial m n ≡ Less → same_bag m n ≡ false
not_same m n o p e = by_test (same_bag m n) refl
  where
    by_test : (b : Bool) → same_bag m n ≡ b → b ≡ false
    by_test true f = absurd (let g : cmp_monomial m n ≡ Equal = monomial_same m n (bags_equal m n o p f) in let h : Less ≡ Equal = sym e ∙ g in cc)
    by_test false f = refl

-- a monomial before the first one has the total 0
beyond : (m : Monomial) (p : Polynomial) → risen_monomial m ≡ true → monomial_rises m p ≡ true → risen p ≡ true → total m p ≡ pos 0
beyond m Zero o r q = refl
beyond m (Plus n d p) o r q =
    let e : cmp_monomial m n ≡ Less = is_lt-true (cmp_monomial m n) r in
    let h : total m p ≡ pos 0 = beyond m p o (onward p (first_rises n d p q)) (tail_ordered n d p q) in
    let g : total m (Plus n d p) ≡ pos 0 +ℤ total m p = ap (λ b. cond b d (pos 0) +ℤ total m p) (not_same m n o (first_ordered n d p q) e) in
    omega (arith, ints)
  where
    onward : (p : Polynomial) → monomial_rises n p ≡ true → monomial_rises m p ≡ true
    onward Zero s = refl
    onward (Plus k e p) s = ap is_lt (monomials_total.trans m n k (is_lt-true (cmp_monomial m n) r) (is_lt-true (cmp_monomial n k) s))

-- the first monomial has its coefficient as its total
first_total : (m : Monomial) (c : ℤ) (p : Polynomial) → risen (Plus m c p) ≡ true → total m (Plus m c p) ≡ c
first_total m c p o =
    let h : total m p ≡ pos 0 = beyond m p (first_ordered m c p o) (first_rises m c p o) (tail_ordered m c p o) in
    let g : total m (Plus m c p) ≡ c +ℤ total m p = ap (λ b. cond b c (pos 0) +ℤ total m p) (bag_self m) in
    omega (arith, ints)

-- sums that rise and have the same totals are equal
pub unique : (p q : Polynomial) → risen p ≡ true → risen q ≡ true → SameTotals p q → p ≡ q
unique Zero Zero o r s = refl
unique Zero (Plus n d q) o r s = absurd (zero_not n d q r (sym (first_total n d q r) ∙ sym (s.totals n)))
unique (Plus m c p) Zero o r s = absurd (zero_not m c p o (sym (first_total m c p o) ∙ s.totals m))
unique (Plus m c p) (Plus n d q) o r s = by_order (λ t. unique p q (tail_ordered m c p o) (tail_ordered n d q r) t) (cmp_monomial m n) refl
  where
    by_order : (SameTotals p q → p ≡ q) → (t : Ordering) → cmp_monomial m n ≡ t → Plus m c p ≡ Plus n d q
    by_order again Less e = absurd (zero_not m c p o (sym (first_total m c p o) ∙ s.totals m ∙ beyond m (Plus n d q) (first_ordered m c p o) (ap is_lt e) r))
    by_order again Greater e =
        let f : cmp_monomial n m ≡ Less = monomials_total.antisymm n m ∙ ap ordering_reverse e in
        absurd (zero_not n d q r (sym (first_total n d q r) ∙ sym (s.totals n) ∙ beyond n (Plus m c p) (first_ordered n d q r) (ap is_lt f) o))
    by_order again Equal e =
        let f : m ≡ n = monomial_ties m n e in
        let g : c ≡ d = sym (first_total m c p o) ∙ s.totals m ∙ ap (λ k. total k (Plus n d q)) f ∙ first_total n d q r in
        let t : SameTotals p q = record {
          totals = λ bag. cancel bag (s.totals bag ∙ ap (λ k. total bag (Plus k d q)) (sym f) ∙ ap (λ z. total bag (Plus m z q)) (sym g));
        } in
        let h : p ≡ q = again t in
        cc
      where
        cancel : (bag : Monomial) → total bag (Plus m c p) ≡ total bag (Plus m c q) → total bag p ≡ total bag q
        cancel bag h = omega (arith, ints)

risen_atoms : (m : Monomial) → ordered_monomial m ≡ true → risen_monomial m ≡ true
risen_atoms One o = refl
risen_atoms (Times a m) o =
    and_from (atom_rises a m) (risen_monomial m)
    (and_second (ordered_atom a) (atom_rises a m) (and_first (ordered_atom a && atom_rises a m) (ordered_monomial m) o))
    (risen_atoms m (and_second (ordered_atom a && atom_rises a m) (ordered_monomial m) o))

-- sums in order rise
risen_of : (p : Polynomial) → ordered p ≡ true → risen p ≡ true
risen_of Zero o = refl
risen_of (Plus m c p) o =
    let t = ordered_term m c p o in
    and_from (not (int_eq c (pos 0)) && risen_monomial m && monomial_rises m p) (risen p)
    (and_from (not (int_eq c (pos 0)) && risen_monomial m) (monomial_rises m p)
    (and_from (not (int_eq c (pos 0))) (risen_monomial m) (ap not t.nonzero) (risen_atoms m t.first)) t.rises) (risen_of p t.rest)

pub normal_forms_equal : (p q : Polynomial) → IsNormal p → IsNormal q → SameTotals p q → p ≡ q
normal_forms_equal p q m n s = unique p q (risen_of p m.ordered) (risen_of q n.ordered) s

pub ruleset unique_forms = (normal_forms_equal)
