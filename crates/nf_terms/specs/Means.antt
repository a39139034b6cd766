-- Normal terms that mean something.
use Rattle.std.specs.Prelude.{◌≡◌, ℤ, List}
use Rattle.nf_trees.specs.NormalTerms.{Polynomial, ArrayTerm}
use Rattle.nf_terms.specs.Lists.{ListTerm, IsNormalList}
use Rattle.nf_terms.specs.TermMeaning.{Valuation, value_of, contents, items_in}
use Rattle.nf_terms.specs.Normal.{IsNormal, IsNormalArray}

-- a normal polynomial of this value
pub record IsNumberOf (value : Valuation → ℤ) (p : Polynomial) : Type 0 where
  pub normal : IsNormal p
  pub means : (w : Valuation) → value_of w p ≡ value w

-- a normal array of these contents
pub record IsArrayOf (held : Valuation → ℤ → ℤ) (a : ArrayTerm) : Type 0 where
  pub normal : IsNormalArray a
  pub means : (w : Valuation) → contents w a ≡ held w

-- a normal list of these items
pub record IsListOf (held : Valuation → List ℤ) (l : ListTerm) : Type 0 where
  pub normal : IsNormalList l
  pub means : (w : Valuation) → items_in w l ≡ held w
