-- Normal forms: numbers, arrays and lists.
use Rattle.std.specs.Prelude.{ℕ, Bool, false}
use Rattle.std.specs.Ordering.{is_eq}
use Rattle.nf_trees.specs.Order.{cmp_polynomial, cmp_array}
use Rattle.nf_trees.specs.Measures.{size_of, size_of_array, depth_of, depth_of_array}
use Rattle.nf_trees.specs.Mentions.{mentions, mentions_array}
use Rattle.nf_terms.specs.Normal.{IsNormal, IsNormalArray}
use Rattle.nf_terms.specs.Lists.{size_of_list, depth_of_list, mentions_list, cmp_list, IsNormalList}
use Rattle.fs_model.specs.declared.sides.Pos.{Pos}
use Rattle.nf_terms.specs.declared.symbols.Sort.{Sort}
use Rattle.nf_terms.specs.declared.symbols.Sort.TheVariants as sort
use Rattle.nf_terms.specs.declared.form.Nf.{Nf}
use Rattle.nf_terms.specs.declared.form.Nf.TheVariants.{Num, Arr, Seq}

-- a normal form is normal
abbrev pub IsNormalForm : Nf → Type 0
IsNormalForm (Num p) = IsNormal p
IsNormalForm (Arr a) = IsNormalArray a
IsNormalForm (Seq l) = IsNormalList l

-- what a normal form stands for
abbrev pub sort_of_form : Nf → Sort
sort_of_form (Num p) = sort.Scalar
sort_of_form (Arr a) = sort.Array
sort_of_form (Seq l) = sort.List

abbrev pub size_of_form : Nf → ℕ
size_of_form (Num p) = size_of p
size_of_form (Arr a) = size_of_array a
size_of_form (Seq l) = size_of_list l

abbrev pub depth_of_form : Nf → ℕ
depth_of_form (Num p) = depth_of p
depth_of_form (Arr a) = depth_of_array a
depth_of_form (Seq l) = depth_of_list l

abbrev pub mentions_form : Pos → Nf → Bool
mentions_form p (Num q) = mentions p q
mentions_form p (Arr a) = mentions_array p a
mentions_form p (Seq l) = mentions_list p l

-- whether two normal forms are of one sort and the same
abbrev pub same_form : Nf → Nf → Bool
same_form (Num p) (Num q) = is_eq (cmp_polynomial p q)
same_form (Num p) (Arr b) = false
same_form (Num p) (Seq m) = false
same_form (Arr a) (Num q) = false
same_form (Arr a) (Arr b) = is_eq (cmp_array a b)
same_form (Arr a) (Seq m) = false
same_form (Seq l) (Num q) = false
same_form (Seq l) (Arr b) = false
same_form (Seq l) (Seq m) = is_eq (cmp_list l m)
