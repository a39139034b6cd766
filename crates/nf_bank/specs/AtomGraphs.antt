-- Lists of nodes, each over the atoms of nodes before it.
use Rattle.std.specs.Prelude.{ℕ, ◌+◌, ◌≤◌, List, [], ◌∷◌, ◌++◌}
use Rattle.nf_trees.specs.NormalTerms.{Atom}
use Rattle.nf_bank.specs.declared.node.Node.{Node}
use Rattle.nf_bank.specs.Atoms.{IsBank}
use Rattle.nf_bank.specs.AtomNumbers.{bound_of_node, atom_over}

-- some atoms, and those of the nodes behind them
abbrev pub with_node_atoms : List Atom → List Node → List Atom
with_node_atoms atoms [] = atoms
with_node_atoms atoms (n ∷ ns) = with_node_atoms (atoms ++ atom_over atoms n ∷ []) ns

-- the atoms of nodes
abbrev pub atoms_of : List Node → List Atom
atoms_of ns = with_node_atoms [] ns

-- each node from place k on has smaller numbers alone
abbrev pub AreBelow : ℕ → List Node → Type 0
AreBelow k [] = Unit {0}
AreBelow k (n ∷ ns) = (bound_of_node n ≤ k) × AreBelow (k + 1) ns

-- what holds of the nodes of a bank: no cycle, and each atom once
pub record IsAtomGraph (nodes : List Node) : Type 0 where
  pub below : AreBelow 0 nodes
  pub different : IsBank (atoms_of nodes)
