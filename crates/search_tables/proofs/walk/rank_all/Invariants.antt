use Rattle.search_tables.specs.Walks.{lists_in, AreRight, NoneOpen, AreRanked}
use Rattle.search_tables.proofs.walk.rank_all.Given as goal

abbrev pub invariant-roots : goal.invariant-roots
invariant-roots l = record {
  right : AreRight (lists_in l.edges) l.marks.items;
  closed : NoneOpen l.marks.items;
  ranked : AreRanked l.marks.items l.root;
}
