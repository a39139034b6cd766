-- The simplest terms are normal.
use Rattle.std.proofs.Common.{◌≡◌, ◌+◌, ◌≤◌, ℤ, pos, unsigned_abs, Bool, true, false, ◌&&◌, not, cond, IsTrue, refl, ap, arith}
use Rattle.std.proofs.lemmas.Bool.{le-leb}
use Rattle.std.specs.Ordering.{int_eq}
use Rattle.std.proofs.lemmas.Bool.Decides.{nat_tests}
use Rattle.nf_trees.specs.NormalTerms.{Polynomial, One, Zero, Plus, polynomial_of_symbol, polynomial_of_number, bare_array}
use Rattle.nf_trees.specs.Measures.{weight_of}
use Rattle.nf_terms.specs.Normal.{IsNormal, IsNormalArray, is_light, narrow_inside}
use Rattle.nf_terms.specs.TermLimits.{weight_limit}
use Rattle.fs_model.specs.declared.sides.Pos.{Pos}
use Rattle.nf_trees.specs.declared.tree.Base.{Base}

-- a normal polynomial is within the limit of weight
pub light : (p : Polynomial) → IsNormal p → weight_of p ≤ weight_limit
light p n = within (is_light p) (narrow_inside p) n.narrow
  where
    within : (a b : Bool) → IsTrue (a && b) → weight_of p ≤ weight_limit
    within a b e = grind (arith, nat_tests)

pub symbol_normal : (p : Pos) → IsNormal (polynomial_of_symbol p)
symbol_normal p = record { ordered = refl; small = omega arith; shallow = omega arith; narrow = refl }

pub zero_normal : IsNormal Zero
zero_normal = record { ordered = refl; small = omega arith; shallow = omega arith; narrow = refl }

pub number_normal : (c : ℤ) → unsigned_abs c ≤ weight_limit → IsNormal (polynomial_of_number c)
number_normal c h = by_value (int_eq c (pos 0)) refl
  where
    by_value : (t : Bool) → int_eq c (pos 0) ≡ t → IsNormal (cond t Zero (Plus One c Zero))
    by_value true e = zero_normal
    by_value false e = record {
      ordered = ap (λ b. not b && true && true && true) e;
      small = omega arith;
      shallow = omega arith;
      narrow = ap (λ b. b && true) (le-leb (unsigned_abs c + 0) weight_limit (omega arith));
    }

pub bare_normal : (b : Base) → IsNormalArray (bare_array b)
bare_normal b = record { ordered = refl; small = omega arith; shallow = omega arith; narrow = refl }

pub ruleset simple = (symbol_normal, zero_normal, bare_normal)
