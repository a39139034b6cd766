-- Nodes of src/ as plain data.
use Rattle.search_places.specs.declared.nodes.NodeAt.{NodeAt}
use Rattle.search_places.specs.NodeRecords.{NodeRecord, record_of_node}

abbrev pub node_record_in : NodeAt → NodeRecord
node_record_in s = record_of_node (s.points, s.entry.now)
