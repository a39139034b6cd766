-- What the operations on normal polynomials give.
use Rattle.std.specs.Prelude.{ℕ, ◌+◌, ◌*◌, ℤ, unsigned_abs}
use Rattle.nf_trees.specs.NormalTerms.{Polynomial, polynomial_of_number}
use Rattle.nf_trees.specs.Measures.{size_of, depth_of, weight_of}
use Rattle.nf_terms.specs.Computed.{Computed, Done, if_small, if_narrow}
use Rattle.nf_terms.specs.RawSums.{raw_sum, raw_difference, raw_negation, raw_product}
use Rattle.nf_sums.specs.RawSumForms.{normal_form}

-- whether an operation of this weight and raw size, on sides of these weights, is narrow and small
abbrev pub within_limits : (left right weight units : ℕ) → Computed (Unit {0})
within_limits left right weight units = if_narrow left right weight (if_small units 0 tt)

-- the normal form of a raw sum, where an operation on p and q of this weight and raw size is narrow and small
abbrev pub operation : (p q : Polynomial) → (weight units : ℕ) → Polynomial → Computed Polynomial
operation p q weight units raw = if_narrow (weight_of p) (weight_of q) weight
    (if_small units (depth_of (normal_form raw)) (normal_form raw))

abbrev pub normal_sum : Polynomial → Polynomial → Computed Polynomial
normal_sum p q = operation p q (weight_of p + weight_of q) (size_of p + size_of q) (raw_sum p q)

abbrev pub normal_difference : Polynomial → Polynomial → Computed Polynomial
normal_difference p q = operation p q (weight_of p + weight_of q) (size_of p + size_of q) (raw_difference p q)

abbrev pub normal_product : Polynomial → Polynomial → Computed Polynomial
normal_product p q = operation p q (weight_of p * weight_of q) (size_of p * size_of q) (raw_product p q)

-- each coefficient negated: neither too wide nor too large
abbrev pub normal_negation : Polynomial → Polynomial
normal_negation p = raw_negation p

-- a number alone, where it weighs no more than a polynomial may
abbrev pub number : ℤ → Computed Polynomial
number c = if_narrow (unsigned_abs c) 0 (unsigned_abs c) (Done (polynomial_of_number c))
