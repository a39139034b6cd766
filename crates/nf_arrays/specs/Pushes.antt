-- What a push computes.
use Rattle.std.specs.Prelude.{◌+◌, [], ◌∷◌, ◌++◌}
use Rattle.nf_trees.specs.NormalTerms.{Polynomial}
use Rattle.nf_trees.specs.Measures.{size_of}
use Rattle.nf_terms.specs.Lists.{ListTerm, size_of_list, depth_of_list}
use Rattle.nf_terms.specs.Computed.{Computed, if_small}

-- a list with one more item
abbrev pub with_last_item : ListTerm → Polynomial → ListTerm
with_last_item l p = record { base = l.base; items = l.items ++ p ∷ [] }

-- a list after the value p is pushed
abbrev pub list_with_item : ListTerm → Polynomial → Computed ListTerm
list_with_item l p = if_small (size_of_list l + 1 + size_of p) (depth_of_list (with_last_item l p)) (with_last_item l p)
