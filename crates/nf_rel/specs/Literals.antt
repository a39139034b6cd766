-- Literals in normal form.
use Rattle.std.specs.Prelude.{ℕ, zero, suc, Bool, true, false, not, ◌&&◌, ◌||◌, cond, ℤ, pos, ◌+ℤ◌, ◌-ℤ◌, neg_ℤ, int_lt, int_div}
use Rattle.std.specs.Prelude.{unsigned_abs, List, [], ◌∷◌}
use Rattle.std.specs.Int.{int_div_euclid, int_rem_euclid}
use Rattle.std.specs.Ordering.{int_eq}
use Rattle.std.specs.List.{list_any, list_all}
use Rattle.fs_model.specs.declared.parts.Rel.{Rel}
use Rattle.fs_model.specs.declared.parts.Rel.TheVariants as rel
use Rattle.nf_trees.specs.NormalTerms.{Polynomial, Zero, Plus, polynomial_of_number}
use Rattle.nf_trees.specs.Order.{same_polynomial}
use Rattle.nf_terms.specs.Normal.{part_with_atoms, constant_sum}
use Rattle.nf_terms.specs.TermMeaning.{Valuation, value_of}
use Rattle.nf_terms.specs.RawSums.{raw_negation}
use Rattle.nf_terms.specs.Computed.{Computed, Done, after}
use Rattle.nf_sums.specs.Operations.{normal_difference}
use Rattle.nf_rel.specs.declared.kind.Kind.{Kind}
use Rattle.nf_rel.specs.declared.kind.Kind.TheVariants.{Ge, Le, Eq, Ne}
use Rattle.nf_rel.specs.Gcd.{gcd}

-- true, false, or a direction with a kind and a bound
pub data NormalLiteral : Type 0 where
  True : NormalLiteral
  False : NormalLiteral
  Is : (direction : Polynomial) → Kind → (bound : ℤ) → NormalLiteral

-- whether a number meets a bound
abbrev pub meets : Kind → (number bound : ℤ) → Bool
meets Ge v b = not (int_lt v b)
meets Le v b = not (int_lt b v)
meets Eq v b = int_eq v b
meets Ne v b = not (int_eq v b)

-- whether a literal is true in a valuation
abbrev pub is_true_in : Valuation → NormalLiteral → Bool
is_true_in w True = true
is_true_in w False = false
is_true_in w (Is d k b) = meets k (value_of w d) b

abbrev pub all_true_in : Valuation → List NormalLiteral → Bool
all_true_in w ls = list_all (is_true_in w) ls

abbrev pub truth : Bool → NormalLiteral
truth true = True
truth false = False

-- the greatest common divisor of the coefficients
abbrev pub common_divisor : Polynomial → ℕ
common_divisor Zero = 0
common_divisor (Plus m c p) = gcd (unsigned_abs c) (common_divisor p)

-- each coefficient divided
abbrev pub divide_coefficients : Polynomial → ℤ → Polynomial
divide_coefficients Zero d = Zero
divide_coefficients (Plus m c p) d = Plus m (int_div c d) (divide_coefficients p d)

abbrev pub begins_positive : Polynomial → Bool
begins_positive Zero = true
begins_positive (Plus m c p) = int_lt (pos 0) c

-- a number as it is, or negated
abbrev pub signed_number : Bool → ℤ → ℤ
signed_number true z = z
signed_number false z = neg_ℤ z

-- how a polynomial is compared with 0
pub data Form : Type 0 where
  AtLeastZero : Form
  IsZero : Form
  IsNotZero : Form

abbrev pub form_holds : Form → ℤ → Bool
form_holds AtLeastZero z = not (int_lt z (pos 0))
form_holds IsZero z = int_eq z (pos 0)
form_holds IsNotZero z = not (int_eq z (pos 0))

-- g times a direction, as it is or negated, plus c is compared with 0
abbrev pub bounded_literal : Form → (positive : Bool) → Polynomial → (g : ℕ) → (c : ℤ) → NormalLiteral
bounded_literal AtLeastZero true d g c = Is d Ge (neg_ℤ (int_div_euclid c (pos g)))
bounded_literal AtLeastZero false d g c = Is d Le (int_div_euclid c (pos g))
bounded_literal IsZero positive d g c = cond (int_eq (int_rem_euclid c (pos g)) (pos 0))
    (Is d Eq (signed_number positive (neg_ℤ (int_div_euclid c (pos g))))) False
bounded_literal IsNotZero positive d g c = cond (int_eq (int_rem_euclid c (pos g)) (pos 0))
    (Is d Ne (signed_number positive (neg_ℤ (int_div_euclid c (pos g))))) True

abbrev pub bounded_by : Form → Polynomial → (g : ℕ) → (c : ℤ) → NormalLiteral
bounded_by f q zero c = truth (form_holds f c)
bounded_by f q (suc n) c = bounded_literal f (begins_positive q)
    (divide_coefficients q (signed_number (begins_positive q) (pos (suc n)))) (suc n) c

-- the literal of a polynomial that is compared with 0
abbrev pub literal_form : Form → Polynomial → NormalLiteral
literal_form f p = bounded_by f (part_with_atoms p) (common_divisor (part_with_atoms p)) (constant_sum p)

abbrev pub one : Polynomial
one = polynomial_of_number (pos 1)

-- the literal of a relation between a difference and 0
abbrev pub against_zero : Rel → Polynomial → Computed NormalLiteral
against_zero rel.Eq p = Done (literal_form IsZero p)
against_zero rel.Ne p = Done (literal_form IsNotZero p)
against_zero rel.Ge p = Done (literal_form AtLeastZero p)
against_zero rel.Gt p = after (normal_difference p one) (λ q. Done (literal_form AtLeastZero q))
against_zero rel.Le p = Done (literal_form AtLeastZero (raw_negation p))
against_zero rel.Lt p = after (normal_difference (raw_negation p) one) (λ q. Done (literal_form AtLeastZero q))

-- the literal of a relation
abbrev pub literal : Rel → (l r : Polynomial) → Computed NormalLiteral
literal relation l r = after (normal_difference l r) (against_zero relation)

abbrev pub negate : NormalLiteral → NormalLiteral
negate True = False
negate False = True
negate (Is d Ge b) = Is d Le (b -ℤ pos 1)
negate (Is d Le b) = Is d Ge (b +ℤ pos 1)
negate (Is d Eq b) = Is d Ne b
negate (Is d Ne b) = Is d Eq b

-- whether no number meets both bounds
abbrev pub bounds_clash : Kind → ℤ → Kind → ℤ → Bool
bounds_clash Ge a Ge b = false
bounds_clash Ge a Le b = int_lt b a
bounds_clash Ge a Eq b = int_lt b a
bounds_clash Ge a Ne b = false
bounds_clash Le a Ge b = int_lt a b
bounds_clash Le a Le b = false
bounds_clash Le a Eq b = int_lt a b
bounds_clash Le a Ne b = false
bounds_clash Eq a Ge b = int_lt a b
bounds_clash Eq a Le b = int_lt b a
bounds_clash Eq a Eq b = not (int_eq a b)
bounds_clash Eq a Ne b = int_eq a b
bounds_clash Ne a Ge b = false
bounds_clash Ne a Le b = false
bounds_clash Ne a Eq b = int_eq a b
bounds_clash Ne a Ne b = false

abbrev pub is_false : NormalLiteral → Bool
is_false True = false
is_false False = true
is_false (Is d k b) = false

abbrev pub clash : NormalLiteral → NormalLiteral → Bool
clash True m = is_false m
clash False m = true
clash (Is d k a) True = false
clash (Is d k a) False = true
clash (Is d k a) (Is e j b) = same_polynomial d e && bounds_clash k a j b

-- whether a literal clashes with a member
abbrev pub clashes_with : List NormalLiteral → NormalLiteral → Bool
clashes_with ls l = list_any (clash l) ls

-- whether a number meets a literal as far as it bounds a direction
abbrev pub meets_along : Polynomial → ℤ → NormalLiteral → Bool
meets_along d v True = true
meets_along d v False = true
meets_along d v (Is e k b) = not (same_polynomial d e) || meets k v b

-- whether a number meets all literals of a direction
abbrev pub meets_all : Polynomial → ℤ → List NormalLiteral → Bool
meets_all d v ls = list_all (meets_along d v) ls

-- 0, and each number at a bound or next to it
abbrev pub numbers_near : List NormalLiteral → List ℤ
numbers_near [] = pos 0 ∷ []
numbers_near (True ∷ ls) = numbers_near ls
numbers_near (False ∷ ls) = numbers_near ls
numbers_near (Is d k b ∷ ls) = (b -ℤ pos 1) ∷ b ∷ (b +ℤ pos 1) ∷ numbers_near ls

-- whether no number meets all literals of a direction: where any does, one of these does
unfoldable pub is_refuted_along : Polynomial → List NormalLiteral → Bool
is_refuted_along d ls = not (list_any (λ v. meets_all d v ls) (numbers_near ls))

-- whether a literal is False, or no number meets all literals of its direction
abbrev pub is_refuted_at : List NormalLiteral → NormalLiteral → Bool
is_refuted_at ls True = false
is_refuted_at ls False = true
is_refuted_at ls (Is d k b) = is_refuted_along d ls

-- whether a member is False, or no number meets all literals of some direction
unfoldable pub is_refuted : List NormalLiteral → Bool
is_refuted ls = list_any (is_refuted_at ls) ls

-- whether a literal is True, or a member is False, or each number that meets all literals of its direction meets it
unfoldable pub is_implied : List NormalLiteral → NormalLiteral → Bool
is_implied ls True = true
is_implied ls False = list_any is_false ls
is_implied ls (Is d k b) = list_any is_false ls || is_refuted_along d (negate (Is d k b) ∷ ls)
