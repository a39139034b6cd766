use Rattle.std.proofs.Common.{map, take}
use Rattle.cert_terms.specs.NameTables.{HasFirst}
use Rattle.cert_terms.proofs.table.table_of.Given as goal

abbrev pub invariant-loop-number : goal.invariant-loop-number
invariant-loop-number l = HasFirst l.table (map (λ n. n.now) (take l.number l.names))
