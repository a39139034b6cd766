-- Vectors: normal forms for positions.
use Rattle.std.specs.Prelude.{Bool, ◌&&◌, is_some, cond, Option, Some, None, List, [], ◌∷◌}
use Rattle.std.specs.Option.{option_or}
use Rattle.nf_trees.specs.NormalTerms.{Polynomial, ArrayTerm, polynomial_of_symbol, bare_array}
use Rattle.nf_terms.specs.Lists.{ListTerm, bare_list}
use Rattle.nf_trees.specs.Mentions.{same_pos}
use Rattle.nf_terms.specs.TermMeaning.{Valuation, value_of, contents, items_in}
use Rattle.nf_terms.specs.Forms.{IsNormalForm, sort_of_form}
use Rattle.fs_model.specs.declared.sides.Pos.{Pos}
use Rattle.nf_trees.specs.declared.tree.Base.{Base}
use Rattle.nf_trees.specs.declared.tree.Base.TheVariants as base
use Rattle.nf_terms.specs.declared.tree.SeqBase.{SeqBase}
use Rattle.nf_terms.specs.declared.tree.SeqBase.TheVariants as list
use Rattle.nf_terms.specs.declared.symbols.Sort.{Sort}
use Rattle.nf_terms.specs.declared.symbols.Sort.TheVariants as sort
use Rattle.nf_terms.specs.declared.form.Nf.{Nf}
use Rattle.nf_terms.specs.declared.form.Nf.TheVariants.{Num, Arr, Seq}
use Rattle.nf_terms.specs.TermSorts.{same_term_sort}

-- whether an entry has a form of this sort for the position
abbrev pub is_entry_at : Sort → Pos → Pos × Nf → Bool
is_entry_at s p e = same_pos p e.0 && same_term_sort s (sort_of_form e.1)

-- the form of this sort that a vector has for a position
abbrev pub form_at : Sort → Pos → List (Pos × Nf) → Option Nf
form_at s p [] = None
form_at s p (e ∷ v) = cond (is_entry_at s p e) (Some e.1) (form_at s p v)

-- the number of a form, or else
abbrev pub number_or : Polynomial → Option Nf → Polynomial
number_or default None = default
number_or default (Some (Num p)) = p
number_or default (Some (Arr a)) = default
number_or default (Some (Seq l)) = default

-- the array of a form, or else
abbrev pub array_or : ArrayTerm → Option Nf → ArrayTerm
array_or default None = default
array_or default (Some (Num p)) = default
array_or default (Some (Arr a)) = a
array_or default (Some (Seq l)) = default

-- the list of a form, or else
abbrev pub list_or : ListTerm → Option Nf → ListTerm
list_or default None = default
list_or default (Some (Num p)) = default
list_or default (Some (Arr a)) = default
list_or default (Some (Seq l)) = l

-- the number, the array and the list of a position, which is its own symbol where the vector has none
abbrev pub number_at : List (Pos × Nf) → Pos → Polynomial
number_at v p = number_or (polynomial_of_symbol p) (form_at sort.Scalar p v)

abbrev pub array_form : List (Pos × Nf) → Pos → ArrayTerm
array_form v p = array_or (bare_array (base.Sym p)) (form_at sort.Array p v)

abbrev pub list_at : List (Pos × Nf) → Pos → ListTerm
list_at v p = list_or (bare_list (list.Sym p)) (form_at sort.List p v)

-- the array of a base, and the list of one
abbrev pub array_of_base : List (Pos × Nf) → Base → ArrayTerm
array_of_base v base.Zero = bare_array base.Zero
array_of_base v (base.Sym p) = array_form v p

abbrev pub list_of_base : List (Pos × Nf) → SeqBase → ListTerm
list_of_base v list.Empty = bare_list list.Empty
list_of_base v (list.Sym p) = list_at v p

-- the pair of stores that a vector means in a pair of stores
abbrev pub vector_meaning : List (Pos × Nf) → Valuation → Valuation
vector_meaning v w = record {
  scalar = λ p. value_of w (number_at v p);
  array = λ p. contents w (array_form v p);
  list = λ p. items_in w (list_at v p);
}

-- the vector with this form for a position: in the place of its form of the same sort, or last
abbrev pub with_form : Pos → Nf → List (Pos × Nf) → List (Pos × Nf)
with_form p f [] = (p, f) ∷ []
with_form p f (e ∷ v) = cond (is_entry_at (sort_of_form f) p e) ((e.0, f) ∷ v) (e ∷ with_form p f v)

-- the form of a position: its number, else its array, else its list
abbrev pub form_of : Pos → List (Pos × Nf) → Option Nf
form_of p v = option_or (form_at sort.Scalar p v) (option_or (form_at sort.Array p v) (form_at sort.List p v))

-- whether a vector has a form for a position
abbrev pub has_form : Pos → List (Pos × Nf) → Bool
has_form p v = is_some (form_of p v)

-- each form of a vector is normal
abbrev pub AreNormalForms : List (Pos × Nf) → Type 0
AreNormalForms [] = Unit {0}
AreNormalForms (e ∷ v) = IsNormalForm e.1 × AreNormalForms v
