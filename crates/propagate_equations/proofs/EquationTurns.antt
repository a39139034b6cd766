-- A tie over held symbols as it is found, one freed position after the other, is the tie.
use Rattle.std.proofs.Common.{◌≡◌, Bool, true, false, cond, refl, ap, ◌∙◌, List, [], ◌∷◌, Option, Some, None}
use Rattle.fs_model.specs.declared.parts.Sort.{Sort}
use Rattle.fs_model.specs.declared.parts.Sort.TheVariants as sort
use Rattle.fs_pair.specs.declared.positions.Position.{Position}
use Rattle.nf_trees.specs.NormalTerms.{Polynomial, polynomial_of_symbol}
use Rattle.nf_terms.specs.Computed.{Computed, Done, after}
use Rattle.fs_model.specs.declared.sides.Pos.{Pos}
use Rattle.nf_terms.specs.declared.form.Nf.{Nf}
use Rattle.nf_terms.specs.declared.form.Nf.TheVariants.{Num}
use Rattle.nf_sums.specs.Operations.{normal_sum, normal_difference}
use Rattle.nf_substitution.specs.Vectors.{number_at}
use Rattle.nf_substitution.specs.Substitution.{polynomial_substituted}
use Rattle.propagate_equations.specs.Equations.{number_held, number_tied_to, number_tied, rebase_tied_equation}
use Rattle.propagate_equations.specs.TieSteps.{or_later}
use Rattle.propagate_equations.specs.EquationSteps.{rebase_tie}
use Rattle.propagate_equations.proofs.TieTurns.{later_behind}

module _ (v ms : List (Pos × Nf)) where
  abbrev summed : Pos → Polynomial → Computed (Option Nf)
  summed q e = after (normal_sum (polynomial_of_symbol q) e) (λ r. Done (Some (Num r)))

  abbrev compared : Pos → Bool → Polynomial → Computed (Option Nf) → Computed (Option Nf)
  compared q b d z = cond b (after (polynomial_substituted ms d) (λ e. summed q e)) z

  summed_behind : (q : Pos) (later : Computed (Option Nf)) (e : Polynomial) → after (summed q e) (λ n. or_later n later) ≡ summed q e
  summed_behind q later e = later_behind later (normal_sum (polynomial_of_symbol q) e) (λ r. Done (Some (Num r))) (λ r. Done (Some (Num r))) (λ r. refl)

  test_behind : (q : Pos) (later : Computed (Option Nf)) (b : Bool) (d : Polynomial)
      → after (compared q b d (Done None)) (λ n. or_later n later) ≡ compared q b d later
  test_behind q later true d = later_behind later (polynomial_substituted ms d) (λ e. summed q e) (λ e. summed q e) (λ e. summed_behind q later e)
  test_behind q later false d = refl

  tie_behind : (t : Polynomial) (s : Sort) (q : Pos) (later : Computed (Option Nf))
      → after (number_tied_to v ms t s q (Done None)) (λ n. or_later n later) ≡ number_tied_to v ms t s q later
  tie_behind t sort.Array q later = refl
  tie_behind t sort.Port q later = refl
  tie_behind t sort.Scalar q later =
      later_behind later (normal_difference t (number_at v q)) (λ d. compared q (number_held ms d) d (Done None)) (λ d. compared q (number_held ms d) d later)
      (λ d. test_behind q later (number_held ms d) d)

  tie_is : (t : Polynomial) (qs : List Position) → rebase_tie v ms t qs ≡ number_tied v ms t qs
  tie_is t [] = refl
  tie_is t (q ∷ qs) = ap (λ l. after (number_tied_to v ms t q.sort q.pos (Done None)) (λ o. or_later o l)) (tie_is t qs)
      ∙ tie_behind t q.sort q.pos (number_tied v ms t qs)

pub ties_in_turn : (v ms : List (Pos × Nf)) (t : Polynomial) (qs : List Position) → rebase_tie v ms t qs ≡ rebase_tied_equation v ms (Num t) qs
ties_in_turn v ms t qs = tie_is v ms t qs
