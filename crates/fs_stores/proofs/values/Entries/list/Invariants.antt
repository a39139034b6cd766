use Rattle.std.proofs.Common.{◌≡◌, ◌++◌}
use Rattle.std.specs.List.{filter}
use Rattle.fs_stores.specs.EntryLists.{is_not_zero}
use Rattle.fs_stores.proofs.values.Entries.list.Given as goal

-- what is listed, and what is left to list, are the entries that are not 0
abbrev pub invariant-loop-index : goal.invariant-loop-index
invariant-loop-index l = l.list.items ++ filter is_not_zero l.index-iterator ≡ filter is_not_zero l.self.map.entries
