-- The normal form of a raw sum: its monomials are put in their places one by one, each with its atoms in order.
use Rattle.std.specs.Prelude.{ℤ, pos, ◌+ℤ◌, cond}
use Rattle.std.specs.declared.cmp.Ordering.{Ordering}
use Rattle.std.specs.declared.cmp.Ordering.TheVariants.{Less, Equal, Greater}
use Rattle.std.specs.Ordering.{int_eq, is_le}
use Rattle.nf_trees.specs.NormalTerms.{Atom, Monomial, Polynomial, One, Times, Zero, Plus}
use Rattle.nf_trees.specs.Order.{cmp_atom, cmp_monomial}

-- an atom in its place among atoms in order
abbrev pub with_atom : Atom → Monomial → Monomial
with_atom a One = Times a One
with_atom a (Times b m) = cond (is_le (cmp_atom a b)) (Times a (Times b m)) (Times b (with_atom a m))

-- the atoms in order
abbrev pub sorted_monomial : Monomial → Monomial
sorted_monomial One = One
sorted_monomial (Times a m) = with_atom a (sorted_monomial m)

-- a monomial with its coefficient before a polynomial, or the polynomial alone where the coefficient is 0
abbrev pub plus : Monomial → ℤ → Polynomial → Polynomial
plus m c p = cond (int_eq c (pos 0)) p (Plus m c p)

-- one of three by an order
abbrev pub by_order : {T : Type 0} → Ordering → T → T → T → T
by_order Less x y z = x
by_order Equal x y z = y
by_order Greater x y z = z

-- a monomial with its coefficient in its place in a polynomial in order
abbrev pub with_term : Monomial → ℤ → Polynomial → Polynomial
with_term m c Zero = plus m c Zero
with_term m c (Plus n d p) = by_order (cmp_monomial m n) (plus m c (Plus n d p)) (plus n (c +ℤ d) p) (Plus n d (with_term m c p))

-- the monomials of the second polynomial, each in its place in the first
abbrev pub with_terms : Polynomial → Polynomial → Polynomial
with_terms p Zero = p
with_terms p (Plus m c q) = with_terms (with_term m c p) q

-- a raw sum's monomials in order, those that are the same joined
abbrev pub normal_form : Polynomial → Polynomial
normal_form Zero = Zero
normal_form (Plus m c p) = with_term (sorted_monomial m) c (normal_form p)
