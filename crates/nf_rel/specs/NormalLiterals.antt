-- Which literals are in normal form, when two are the same, and how large they are.
use Rattle.std.specs.Prelude.{◌≡◌, ℕ, ◌+◌, ◌==◌, nat_le, ℤ, neg_ℤ, Bool, true, false, ◌&&◌, Option, None, Some}
use Rattle.std.specs.Ordering.{int_eq}
use Rattle.nf_trees.specs.NormalTerms.{Polynomial, Zero, Plus}
use Rattle.nf_trees.specs.Order.{same_polynomial}
use Rattle.nf_trees.specs.Measures.{size_of, depth_of}
use Rattle.nf_terms.specs.TermLimits.{size_limit, depth_limit}
use Rattle.nf_terms.specs.Normal.{has_atoms, ordered, narrow}
use Rattle.nf_rel.specs.declared.kind.Kind.{Kind}
use Rattle.nf_rel.specs.declared.kind.Kind.TheVariants.{Ge, Le, Eq, Ne}
use Rattle.nf_rel.specs.Literals.{NormalLiteral, True, False, Is, common_divisor, begins_positive}
use Rattle.nf_rel.specs.Bounds.{within, below_most}

-- whether a polynomial is normal and within the limits in all its parts
abbrev pub is_normal : Polynomial → Bool
is_normal p = ordered p && nat_le (size_of p) size_limit && nat_le (depth_of p) depth_limit && narrow p

-- whether each monomial has an atom
abbrev pub lacks_constant : Polynomial → Bool
lacks_constant Zero = true
lacks_constant (Plus m c p) = has_atoms m && lacks_constant p

-- whether there is no constant part, the greatest common divisor of the coefficients is 1 (so that 0 is none), and the first one
-- is positive
abbrev pub is_primitive : Polynomial → Bool
is_primitive d = lacks_constant d && (common_divisor d == 1) && begins_positive d

-- whether a number lies between -(2^127 - 2) and 2^127 - 2
abbrev pub is_inner_number : ℤ → Bool
is_inner_number b = within (neg_ℤ below_most) below_most b

-- whether a literal is in normal form
abbrev pub is_normal_literal : NormalLiteral → Bool
is_normal_literal True = true
is_normal_literal False = true
is_normal_literal (Is d k b) = is_normal d && is_primitive d && is_inner_number b

abbrev pub IsNormalLiteral : NormalLiteral → Type 0
IsNormalLiteral l = is_normal_literal l ≡ true

-- what a literal bounds
abbrev pub direction_of : NormalLiteral → Option Polynomial
direction_of True = None
direction_of False = None
direction_of (Is d k b) = Some d

abbrev pub kind_rank : Kind → ℕ
kind_rank Ge = 0
kind_rank Le = 1
kind_rank Eq = 2
kind_rank Ne = 3

-- whether two literals are the same
abbrev pub same_literal : NormalLiteral → NormalLiteral → Bool
same_literal True True = true
same_literal True False = false
same_literal True (Is e j c) = false
same_literal False True = false
same_literal False False = true
same_literal False (Is e j c) = false
same_literal (Is d k b) True = false
same_literal (Is d k b) False = false
same_literal (Is d k b) (Is e j c) = (kind_rank k == kind_rank j) && int_eq b c && same_polynomial d e

-- 1, and the direction's size
abbrev pub size_of_literal : NormalLiteral → ℕ
size_of_literal True = 1
size_of_literal False = 1
size_of_literal (Is d k b) = 1 + size_of d
