-- New atoms, quotients and remainders.
use Rattle.std.specs.Prelude.{◌+◌, ◌*◌, ◌≤◌, ◌&&◌, IsTrue, cond, pos}
use Rattle.base_laws.specs.Division.{quotient, remainder}
use Rattle.nf_trees.specs.NormalTerms.{Atom, Polynomial, Quotient, Remainder, One, Times, Zero, Plus, polynomial_of_number}
use Rattle.nf_trees.specs.Measures.{size_of, depth_of, size_of_atom, depth_of_atom}
use Rattle.nf_terms.specs.Normal.{ordered_atom, narrow_atom, is_constant}
use Rattle.nf_terms.specs.TermLimits.{size_limit, depth_limit}
use Rattle.nf_terms.specs.Computed.{Computed, Done, if_small}
use Rattle.nf_terms.specs.Normal.{constant_sum}

-- an atom alone
abbrev pub polynomial_of_atom : Atom → Polynomial
polynomial_of_atom a = Plus (Times a One) (pos 1) Zero

-- an atom alone, where it is small
abbrev pub new_atom : Atom → Computed Polynomial
new_atom a = if_small (size_of (polynomial_of_atom a)) (depth_of (polynomial_of_atom a)) (polynomial_of_atom a)

-- the quotient of two numbers, else an atom
abbrev pub quotient_of : Polynomial → Polynomial → Computed Polynomial
quotient_of p q =
    cond (is_constant p && is_constant q) (Done (polynomial_of_number (quotient (constant_sum p) (constant_sum q))))
    (new_atom (Quotient p q))

-- the remainder of two numbers, else an atom
abbrev pub remainder_of : Polynomial → Polynomial → Computed Polynomial
remainder_of p q =
    cond (is_constant p && is_constant q) (Done (polynomial_of_number (remainder (constant_sum p) (constant_sum q))))
    (new_atom (Remainder p q))

-- an atom in order, whose parts are within the limits
pub record IsNewAtom (a : Atom) : Type 0 where
  pub in_order : IsTrue (ordered_atom a)
  pub narrow : IsTrue (narrow_atom a)
  pub size : size_of_atom a ≤ 1 + 2 * size_limit
  pub depth : depth_of_atom a ≤ 1 + depth_limit
