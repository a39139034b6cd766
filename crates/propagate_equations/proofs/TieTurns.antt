-- A tie as it is found, one freed position after the other, is the tie.
use Rattle.std.proofs.Common.{◌≡◌, Bool, true, false, cond, refl, ap, ◌∙◌, List, [], ◌∷◌, Option, Some, None}
use Rattle.nf_trees.specs.NormalTerms.{Polynomial, polynomial_of_symbol}
use Rattle.nf_trees.specs.Order.{same_polynomial}
use Rattle.nf_terms.specs.Computed.{Computed, Done, Wide, Large, after}
use Rattle.fs_model.specs.declared.sides.Pos.{Pos}
use Rattle.nf_terms.specs.declared.form.Nf.{Nf}
use Rattle.nf_terms.specs.declared.form.Nf.TheVariants.{Num, Arr, Seq}
use Rattle.nf_sums.specs.Operations.{normal_sum, normal_difference}
use Rattle.nf_substitution.specs.Vectors.{number_at}
use Rattle.nf_substitution.specs.Substitution.{polynomial_substituted}
use Rattle.propagate_equations.specs.Ties.{Freed, number_tied_to, number_tied, tied_equation}
use Rattle.propagate_equations.specs.TieSteps.{or_later, join_tie}

-- what comes later may come at the end of each way
pub later_behind : {S : Type 0} (later : Computed (Option Nf)) (c : Computed S) (f g : S → Computed (Option Nf))
    → ((x : S) → after (f x) (λ o. or_later o later) ≡ g x) → after (after c f) (λ o. or_later o later) ≡ after c g
later_behind later (Done x) f g h = h x
later_behind later (Wide l r) f g h = refl
later_behind later (Large u d) f g h = refl

module _ (v : List (Pos × Nf)) (p : Pos) (t : Polynomial) where
  abbrev compared : Pos → Bool → Polynomial → Computed (Option Nf) → Computed (Option Nf)
  compared q b d z = cond b (after (normal_sum (polynomial_of_symbol q) d) (λ r. Done (Some (Num r)))) z

  abbrev arriving : Pos → Polynomial → Polynomial → Computed (Option Nf) → Computed (Option Nf)
  arriving q d e z = after (polynomial_substituted v d) (λ s. compared q (same_polynomial e s) d z)

  abbrev differing : Pos → Polynomial → Computed (Option Nf) → Computed (Option Nf)
  differing q d z = after (normal_difference (number_at v p) (number_at v q)) (λ e. arriving q d e z)

  test_behind : (q : Pos) (later : Computed (Option Nf)) (b : Bool) (d : Polynomial)
      → after (compared q b d (Done None)) (λ n. or_later n later) ≡ compared q b d later
  test_behind q later true d = later_behind later (normal_sum (polynomial_of_symbol q) d) (λ r. Done (Some (Num r))) (λ r. Done (Some (Num r))) (λ r. refl)
  test_behind q later false d = refl

  arriving_behind : (q : Pos) (later : Computed (Option Nf)) (d e : Polynomial)
      → after (arriving q d e (Done None)) (λ n. or_later n later) ≡ arriving q d e later
  arriving_behind q later d e = later_behind later (polynomial_substituted v d) (λ s. compared q (same_polynomial e s) d (Done None))
      (λ s. compared q (same_polynomial e s) d later) (λ s. test_behind q later (same_polynomial e s) d)

  differing_behind : (q : Pos) (later : Computed (Option Nf)) (d : Polynomial) → after (differing q d (Done None)) (λ n. or_later n later) ≡ differing q d later
  differing_behind q later d = later_behind later (normal_difference (number_at v p) (number_at v q)) (λ e. arriving q d e (Done None))
      (λ e. arriving q d e later)
      (λ e. arriving_behind q later d e)

  tie_behind : (q : Pos) (o : Nf) (later : Computed (Option Nf))
      → after (number_tied_to v p t q o (Done None)) (λ n. or_later n later) ≡ number_tied_to v p t q o later
  tie_behind q (Arr a) later = refl
  tie_behind q (Seq l) later = refl
  tie_behind q (Num u) later = later_behind later (normal_difference t u) (λ d. differing q d (Done None)) (λ d. differing q d later)
      (λ d. differing_behind q later d)

  first_is : (fs : List Freed) → join_tie v p t fs ≡ number_tied v p t fs
  first_is [] = refl
  first_is (f ∷ fs) = ap (λ l. after (number_tied_to v p t f.pos f.old (Done None)) (λ o. or_later o l)) (first_is fs)
      ∙ tie_behind f.pos f.old (number_tied v p t fs)

-- one number, tied to the first that it can be tied to
pub ties_in_turn : (v : List (Pos × Nf)) (p : Pos) (t : Polynomial) (fs : List Freed) → join_tie v p t fs ≡ tied_equation v p (Num t) fs
ties_in_turn v p t fs = first_is v p t fs
