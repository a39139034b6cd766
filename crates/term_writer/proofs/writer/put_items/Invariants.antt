use Rattle.std.proofs.Common.{◌≡◌, ◌++◌, drop}
use Rattle.term_writer.specs.Direct.{items_direct}
use Rattle.term_writer.proofs.writer.put_items.Given as goal

abbrev pub invariant-loop-item : goal.invariant-loop-item
invariant-loop-item g l = l.out.items ++ items_direct (g.N.PositionNames.name l.names) (drop l.item-index l.items) ≡ l.fn.out.items
    ++ items_direct (g.N.PositionNames.name l.names) l.items
