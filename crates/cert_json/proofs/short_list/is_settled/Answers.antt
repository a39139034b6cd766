use Rattle.std.proofs.Common.{arith}
use Rattle.cert_json.proofs.ListLaws.{settled_none, settled_full}
use Rattle.cert_json.proofs.short_list.is_settled.Goals as goal

pub returns-then-list : goal.returns-then-list
returns-then-list c holds ds rest h = settled_full ds rest c.args.list.now h (grind arith) (grind arith)

pub returns-else-list : goal.returns-else-list
returns-else-list c holds ds rest h = settled_none ds rest c.args.list.now h (grind arith) (grind arith)
