use Rattle.search_places.proofs.Finding.{stands}
use Rattle.search_places.proofs.nodes.find.Goals as goal

pub returns : goal.returns
returns c = stands (record { left = c.args.left; right = c.args.right }) c.args.nodes.now.entries c.get_index_of.result c.get_index_of.ensures.index
