-- Vectors in which twins have equal terms.
use Rattle.std.specs.Prelude.{◌≡◌, ℕ, List}
use Rattle.fs_model.specs.declared.parts.Sort.TheVariants as sort
use Rattle.fs_model.specs.Machines.{Fsmd}
use Rattle.fs_model.specs.declared.sides.Side.TheVariants.{Left, Right}
use Rattle.fs_model.specs.declared.sides.Pos.{Pos}
use Rattle.nf_terms.specs.declared.form.Nf.{Nf}
use Rattle.nf_substitution.specs.Vectors.{number_at, array_form, list_at}
use Rattle.sym_paths.specs.ValuationStores.{at}
use Rattle.cert_bisimulation.specs.ExpressionSameness.{AreTwins}

-- the two variables of one name have equal terms
pub record IsEven (a b : Fsmd) (v : List (Pos × Nf)) : Type 0 where
  pub numbers : (x y : ℕ) → AreTwins a b sort.Scalar x y → number_at v (at Left x) ≡ number_at v (at Right y)
  pub arrays : (x y : ℕ) → AreTwins a b sort.Array x y → array_form v (at Left x) ≡ array_form v (at Right y)
  pub lists : (x y : ℕ) → AreTwins a b sort.Port x y → list_at v (at Left x) ≡ list_at v (at Right y)
