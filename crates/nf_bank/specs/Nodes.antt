-- Whether nodes are the same: of one kind, over the same numbers with the same coefficients.
use Rattle.std.specs.Prelude.{Bool, true, false, ◌&&◌, ◌==◌}
use Rattle.std.specs.Ordering.{int_eq}
use Rattle.std.specs.Cmp.Lexicographic.{pointwise}
use Rattle.nf_trees.specs.Mentions.{same_pos}
use Rattle.nf_trees.specs.declared.tree.Base.{Base}
use Rattle.nf_trees.specs.declared.tree.Base.TheVariants as base
use Rattle.nf_bank.specs.declared.node.AtomId.{AtomId}
use Rattle.nf_bank.specs.declared.node.Term.{Term}
use Rattle.nf_bank.specs.declared.node.Write.{Write}
use Rattle.nf_bank.specs.declared.node.Array.{Array}
use Rattle.nf_bank.specs.declared.node.Node.{Node}
use Rattle.nf_bank.specs.declared.node.Node.TheVariants as node

abbrev pub same_base : Base → Base → Bool
same_base base.Zero base.Zero = true
same_base base.Zero (base.Sym q) = false
same_base (base.Sym p) base.Zero = false
same_base (base.Sym p) (base.Sym q) = same_pos p q

abbrev pub same_number : AtomId → AtomId → Bool
same_number i j = i.0 == j.0

abbrev pub same_term : Term → Term → Bool
same_term s t = pointwise same_number s.atoms t.atoms && int_eq s.coefficient t.coefficient

abbrev pub same_write : Write → Write → Bool
same_write w x = pointwise same_term w.index x.index && pointwise same_term w.value x.value

abbrev pub same_array : Array → Array → Bool
same_array a b = same_base a.base b.base && pointwise same_write a.writes b.writes

abbrev pub same_node : Node → Node → Bool
same_node (node.Sym p) (node.Sym q) = same_pos p q
same_node (node.Sym p) (node.Read b j) = false
same_node (node.Sym p) (node.Div r s) = false
same_node (node.Sym p) (node.Rem r s) = false
same_node (node.Read a i) (node.Sym q) = false
same_node (node.Read a i) (node.Read b j) = same_array a b && pointwise same_term i j
same_node (node.Read a i) (node.Div r s) = false
same_node (node.Read a i) (node.Rem r s) = false
same_node (node.Div p q) (node.Sym u) = false
same_node (node.Div p q) (node.Read b j) = false
same_node (node.Div p q) (node.Div r s) = pointwise same_term p r && pointwise same_term q s
same_node (node.Div p q) (node.Rem r s) = false
same_node (node.Rem p q) (node.Sym u) = false
same_node (node.Rem p q) (node.Read b j) = false
same_node (node.Rem p q) (node.Div r s) = false
same_node (node.Rem p q) (node.Rem r s) = pointwise same_term p r && pointwise same_term q s
