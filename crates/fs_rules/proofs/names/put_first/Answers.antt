use Rattle.std.proofs.Common.{rules, tests}
use Rattle.fs_rules.proofs.FirstFaults.{put_new, put_there}
use Rattle.fs_rules.specs.Places.{place_in}
use Rattle.fs_rules.proofs.Results.{on_ok}
use Rattle.fs_rules.proofs.names.put_first.Goals as goal

pub returns-clause-put : goal.returns-clause-put
returns-clause-put c =
    on_ok c.put.result
    (put_new c.in_ok-name.name c.args.entry.now.name c.in_ok-name.ensures (place_in c.args.places.now.entries)
    (place_in c.put.new.places.entries) c.args.place (search (rules, tests))) c.put.ensures

pub returns-then-contains_key-clause-put : goal.returns-then-contains_key-clause-put
returns-then-contains_key-clause-put c =
    put_there c.args.entry.now.name (place_in c.args.places.now.entries) c.args.place (search (rules, tests))
