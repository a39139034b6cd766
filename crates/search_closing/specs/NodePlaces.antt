-- Where nodes stand in a table, by their points.
use Rattle.std.specs.Prelude.{◌≡◌, ℕ, List, map, Option, Some, None, slice_get}
use Rattle.fs_cut.specs.Paths.{Point}
use Rattle.cert_model.specs.PointKeys.{key_of}
use Rattle.search_tables.specs.SearchTables.{SearchNode, Table, Unknown, Known, node_target}

-- the keys of the nodes of a table, in order
abbrev pub keys_in : Table → List (ℕ × ℕ)
keys_in T = map (λ n. key_of n.left n.right) T

-- where the node at two points stands
abbrev pub NodeStandsAt : Table → Point → Point → Option ℕ → Type 0
NodeStandsAt T P Q None = node_target T P Q ≡ Unknown
NodeStandsAt T P Q (Some k) = (n : SearchNode) × (slice_get T k ≡ Some n) × (node_target T P Q ≡ Known k n)
