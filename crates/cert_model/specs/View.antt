-- The nodes of src/ as plain data.
use Rattle.fs_cut.specs.View.{point_of}
use Rattle.cert_bisimulation.specs.Tables.{Node}
use Rattle.sym_facts.specs.Facts.{Fact}
use Rattle.cert_model.specs.declared.cert.Node.{Node as CodeNode}

abbrev pub node_of : CodeNode → Node Fact
node_of n = record { left = point_of n.left; right = point_of n.right; mode = n.mode; rank = n.rank; fact = n.fact }
