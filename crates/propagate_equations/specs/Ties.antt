-- Ties of positions whose equations fail.
use Rattle.std.specs.Prelude.{Bool, ◌&&◌, cond, List, [], ◌∷◌, Option, Some, None}
use Rattle.nf_trees.specs.NormalTerms.{Polynomial, polynomial_of_symbol, bare_array}
use Rattle.nf_terms.specs.Lists.{bare_list}
use Rattle.nf_trees.specs.Order.{same_polynomial}
use Rattle.nf_terms.specs.Forms.{same_form}
use Rattle.nf_terms.specs.Computed.{Computed, Done, after}
use Rattle.fs_model.specs.declared.sides.Pos.{Pos}
use Rattle.nf_trees.specs.declared.tree.Base.TheVariants as base
use Rattle.nf_terms.specs.declared.tree.SeqBase.TheVariants as list
use Rattle.nf_terms.specs.declared.form.Nf.{Nf}
use Rattle.nf_terms.specs.declared.form.Nf.TheVariants.{Num, Arr, Seq}
use Rattle.nf_sums.specs.Operations.{normal_sum, normal_difference}
use Rattle.nf_substitution.specs.Vectors.{number_at}
use Rattle.nf_substitution.specs.Substitution.{polynomial_substituted}
use Rattle.sym_facts.specs.Entailment.{form_like}

-- a position that this join has freed, and the form that it had
pub record Freed : Type 0 where
  pub pos : Pos
  pub old : Nf

-- the symbol of a position, of the sort of a form
abbrev pub symbol_like : Pos → Nf → Nf
symbol_like p (Num q) = Num (polynomial_of_symbol p)
symbol_like p (Arr a) = Arr (bare_array (base.Sym p))
symbol_like p (Seq l) = Seq (bare_list (list.Sym p))

-- the number p with the form t is tied to q: q's symbol and the difference of the forms, where the arriving numbers differ as
-- that does
abbrev pub number_tied_to : List (Pos × Nf) → Pos → Polynomial → Pos → Nf → (later : Computed (Option Nf)) → Computed (Option Nf)
number_tied_to v p t q (Num u) later =
    after (normal_difference t u)
    (λ d. after (normal_difference (number_at v p) (number_at v q)) (λ e. after (polynomial_substituted v d) (λ s.
    cond (same_polynomial e s) (after (normal_sum (polynomial_of_symbol q) d) (λ r. Done (Some (Num r)))) later)))
number_tied_to v p t q (Arr a) later = later
number_tied_to v p t q (Seq l) later = later

abbrev pub number_tied : List (Pos × Nf) → Pos → Polynomial → List Freed → Computed (Option Nf)
number_tied v p t [] = Done None
number_tied v p t (f ∷ fs) = number_tied_to v p t f.pos f.old (number_tied v p t fs)

-- an array or a list is tied to the first freed position whose form and whose arriving form are the same as its own
abbrev pub is_alike : List (Pos × Nf) → Pos → Nf → Freed → Bool
is_alike v p t f = same_form t f.old && same_form (form_like v p t) (form_like v f.pos f.old)

abbrev pub form_tied : List (Pos × Nf) → Pos → Nf → List Freed → Option Nf
form_tied v p t [] = None
form_tied v p t (f ∷ fs) = cond (is_alike v p t f) (Some (symbol_like f.pos t)) (form_tied v p t fs)

-- the new equation of a position whose equation fails, where it is tied
abbrev pub tied_equation : List (Pos × Nf) → Pos → Nf → List Freed → Computed (Option Nf)
tied_equation v p (Num t) fs = number_tied v p t fs
tied_equation v p (Arr a) fs = Done (form_tied v p (Arr a) fs)
tied_equation v p (Seq l) fs = Done (form_tied v p (Seq l) fs)
