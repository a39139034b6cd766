use Rattle.search_tables.specs.Walks.{lists_in, AreRight, IsStack, Extends, IsUnderWay, walk_work}
use Rattle.search_tables.proofs.walk.visit.Given as goal

abbrev pub invariant-walk : goal.invariant-walk
invariant-walk l = record {
  right : AreRight (lists_in l.edges) l.marks.items;
  stack : IsStack (lists_in l.edges) l.marks.items l.stack.items;
  extends : Extends l.fn.marks.items l.marks.items;
  root : IsUnderWay l.marks.items l.root;
}

abbrev pub decreases-walk : goal.decreases-walk
decreases-walk l = walk_work (lists_in l.edges) l.marks.items l.stack.items
