use Rattle.search_closing.proofs.Keys.{key_more}
use Rattle.search_closing.proofs.places.places_of.Goals as goal

pub loop-node-preserved : goal.loop-node-preserved
loop-node-preserved c = record {
  keys = key_more c.args.nodes.now c.loop-node.node-index c.node-item.result c.key_of.result c.loop-node.places.keys c.insert.new.self.keys
      c.loop-node-test.true c.node-item.is c.requires c.key_of.ensures c.loop-node.invariant.keys c.in_ok-insert.ensures.keys;
}
