-- The paths of a node, each executed over its fact.
use Rattle.std.specs.Prelude.{◌≡◌, ℕ, Bool, true, false, List, Option, Some, None, map, slice_get}
use Rattle.fs_cut.specs.Paths.{Path}
use Rattle.fs_cut.specs.Covers.{paths_of}
use Rattle.fs_model.specs.Machines.{Fsmd}
use Rattle.fs_model.specs.declared.sides.Side.{Side}
use Rattle.fs_model.specs.declared.sides.Side.TheVariants.{Left, Right}
use Rattle.nf_terms.specs.Computed.{Computed, Done, Wide, Large}
use Rattle.nf_rel.specs.Literals.{NormalLiteral, is_refuted}
use Rattle.sym_paths.specs.Execution.{Post, execute}
use Rattle.sym_facts.specs.Facts.{Fact, vector_of}
use Rattle.sym_entailment.specs.Outcomes.{way_in, refuted_together}
use Rattle.search_tables.specs.SearchTables.{MachinePair, SearchNode, Table}
use Rattle.search_worklist.specs.declared.node_ways.NodeWays.{NodeWays}

-- a path with what it gives over the vector of a fact
abbrev pub way_over : Fsmd → Side → Fact → Path → Path × Computed Post
way_over m side f p = (p, execute m p side (vector_of f.positions))

-- the way of a branch, if there is one
abbrev pub way_by : List (Path × Computed Post) → Option ℕ → Option (Path × Computed Post)
way_by ws None = None
way_by ws (Some k) = slice_get ws k

-- whether two ways are refuted together; a side that stays refutes nothing
abbrev pub refuted_by : List NormalLiteral → (left right : Option (Path × Computed Post)) → Computed Bool
refuted_by ls None right = Done false
refuted_by ls (Some l) None = Done false
refuted_by ls (Some l) (Some r) = refuted_together ls l.1 r.1

-- the ways of a node of a table
pub record AreWays (m : MachinePair) (T : Table) (w : NodeWays) : Type 0 where
  pub node : SearchNode
  pub is_in : slice_get T w.node ≡ Some node
  pub lefts : map way_in w.lefts.items ≡ map (λ p. way_over m.left Left node.fact p) (paths_of m.left node.left)
  pub rights : map way_in w.rights.items ≡ map (λ p. way_over m.right Right node.fact p) (paths_of m.right node.right)

abbrev pub AreKept : MachinePair → Table → Option NodeWays → Type 0
AreKept m T None = Unit {0}
AreKept m T (Some w) = AreWays m T w

-- what is told of an arrival: that it is refuted, its event, or nothing
abbrev pub Tells : Computed Post → Computed Bool → Type 0
Tells arrival (Done true) = (post : Post) × (arrival ≡ Done post) × (is_refuted post.conditions ≡ true)
Tells arrival (Done false) = Unit {0}
Tells arrival (Wide left right) = arrival ≡ Wide left right
Tells arrival (Large units depth) = arrival ≡ Large units depth
