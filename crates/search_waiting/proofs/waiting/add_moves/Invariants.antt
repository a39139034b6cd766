use Rattle.std.proofs.Common.{◌+◌, ◌≤◌}
use Rattle.std.specs.BTreeSet.{btree_set_len}
use Rattle.search_waiting.specs.ItemOrder.{waits, AddsMoves}
use Rattle.search_waiting.proofs.waiting.add_moves.Given as goal

abbrev pub invariant-loop-number : goal.invariant-loop-number
invariant-loop-number l = record {
  within : l.number ≤ l.count;
  added : AddsMoves (waits l.initial.waiting) (waits l.waiting) l.node l.number;
  many : btree_set_len l.waiting ≤ btree_set_len l.initial.waiting + l.number;
}
