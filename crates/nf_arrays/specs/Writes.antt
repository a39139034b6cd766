-- What a write and a read compute.
use Rattle.std.specs.Prelude.{◌+◌, Bool, true, ◌&&◌, not, cond}
use Rattle.std.specs.Ordering.{int_eq}
use Rattle.nf_trees.specs.NormalTerms.{Polynomial, ArrayTerm, Writes, Read, Zero, Over, NoWrites, Write}
use Rattle.nf_trees.specs.Order.{same_polynomial}
use Rattle.nf_trees.specs.Measures.{size_of, size_of_array, depth_of_array}
use Rattle.nf_terms.specs.Normal.{differ_by_constant, ordered, last_index}
use Rattle.nf_trees.specs.declared.tree.Base.TheVariants as base
use Rattle.nf_terms.specs.Computed.{Computed, Done, if_small}
use Rattle.nf_terms.specs.Normal.{constant_sum}
use Rattle.nf_terms.specs.Tidied.{tidy_array}
use Rattle.nf_arrays.specs.NewAtoms.{new_atom}

-- one more write behind the others
abbrev pub written_last : Writes → Polynomial → Polynomial → Writes
written_last NoWrites i v = Write i v NoWrites
written_last (Write j w ws) i v = Write j w (written_last ws i v)

-- an array with one more write
abbrev pub with_last_write : ArrayTerm → Polynomial → Polynomial → ArrayTerm
with_last_write (Over b ws) i v = Over b (written_last ws i v)

-- an array after the value v is written at the index i
abbrev pub write_array : ArrayTerm → (i v : Polynomial) → Computed ArrayTerm
write_array a i v = if_small (size_of_array a + 1 + size_of i + size_of v) (depth_of_array (tidy_array (with_last_write a i v)))
    (tidy_array (with_last_write a i v))

-- whether two indices differ by a constant that is not 0
abbrev pub are_apart : Polynomial → Polynomial → Bool
are_apart j i = differ_by_constant j i && not (int_eq (constant_sum j) (constant_sum i))

-- a write before those at which a read at i stops; where there are none, alone, unless its index is apart from i
abbrev pub stop_at : (i j v : Polynomial) → Writes → Writes
stop_at i j v NoWrites = cond (are_apart j i) NoWrites (Write j v NoWrites)
stop_at i j v (Write k w ws) = Write j v (Write k w ws)

-- the shortest prefix after which the index of every write is apart from i
abbrev pub prefix_for : Polynomial → Writes → Writes
prefix_for i NoWrites = NoWrites
prefix_for i (Write j v ws) = stop_at i j v (prefix_for i ws)

-- the value of the last write, where the first one has the value v
abbrev pub last_value : Polynomial → Writes → Polynomial
last_value v NoWrites = v
last_value v (Write j w ws) = last_value w ws

-- the element at i of an array whose last write is not apart from i
abbrev pub read_here : ArrayTerm → Polynomial → Computed Polynomial
read_here (Over base.Zero NoWrites) i = Done Zero
read_here (Over (base.Sym p) NoWrites) i = new_atom (Read (Over (base.Sym p) NoWrites) i)
read_here (Over b (Write j v ws)) i = cond (same_polynomial (last_index j ws) i) (Done (last_value v ws))
    (new_atom (Read (Over b (Write j v ws)) i))

-- the element at i of a tidy array
abbrev pub read_at : ArrayTerm → Polynomial → Computed Polynomial
read_at (Over b ws) i = read_here (Over b (prefix_for i ws)) i

-- whether the index of each write is in order
abbrev pub indices_ordered : Writes → Bool
indices_ordered NoWrites = true
indices_ordered (Write i v ws) = ordered i && indices_ordered ws
