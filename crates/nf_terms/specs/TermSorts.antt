-- The sorts of terms.
use Rattle.std.specs.Prelude.{Bool, false, true}
use Rattle.nf_terms.specs.declared.symbols.Sort.{Sort}
use Rattle.nf_terms.specs.declared.symbols.Sort.TheVariants as sort

-- whether two sorts are the same
abbrev pub same_term_sort : Sort → Sort → Bool
same_term_sort sort.Scalar sort.Scalar = true
same_term_sort sort.Scalar sort.Array = false
same_term_sort sort.Scalar sort.List = false
same_term_sort sort.Array sort.Scalar = false
same_term_sort sort.Array sort.Array = true
same_term_sort sort.Array sort.List = false
same_term_sort sort.List sort.Scalar = false
same_term_sort sort.List sort.Array = false
same_term_sort sort.List sort.List = true
