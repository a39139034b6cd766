-- A normal form as a tree of numbers.
use Rattle.std.specs.Prelude.{◌≡◌, ◌⊎◌, refl}
use Rattle.std.proofs.Common.{inl, inr}
use Rattle.std.specs.Coded.{Coded, code_by, coded⊎}
use Rattle.nf_trees.specs.NormalTerms.{Polynomial, ArrayTerm}
use Rattle.nf_terms.specs.Lists.{ListTerm}
use Rattle.nf_terms.specs.Codes.{coded_polynomial, coded_array, coded_list_term}
use Rattle.nf_terms.specs.declared.form.Nf.{Nf}
use Rattle.nf_terms.specs.declared.form.Nf.TheVariants as form

abbrev parts_of_form : Nf → Polynomial ⊎ (ArrayTerm ⊎ ListTerm)
parts_of_form (form.Num p) = inl p
parts_of_form (form.Arr a) = inr (inl a)
parts_of_form (form.Seq l) = inr (inr l)

abbrev form_of_parts : Polynomial ⊎ (ArrayTerm ⊎ ListTerm) → Nf
form_of_parts (inl p) = form.Num p
form_of_parts (inr (inl a)) = form.Arr a
form_of_parts (inr (inr l)) = form.Seq l

pub form_again : (n : Nf) → form_of_parts (parts_of_form n) ≡ n
form_again (form.Num p) = refl
form_again (form.Arr a) = refl
form_again (form.Seq l) = refl

-- a normal form: a polynomial, an array or a list
abbrev pub coded_form : Coded Nf
coded_form = code_by (Polynomial ⊎ (ArrayTerm ⊎ ListTerm))
    (coded⊎ coded_polynomial (coded⊎ coded_array coded_list_term)) parts_of_form form_of_parts form_again
