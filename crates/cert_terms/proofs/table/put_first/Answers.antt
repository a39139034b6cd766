use Rattle.std.proofs.Common.{rules, ◌∷◌}
use Rattle.cert_terms.proofs.NameTables.{put_new}
use Rattle.cert_terms.proofs.table.put_first.Goals as goal

pub returns : goal.returns
returns c = λ x xs. put_new (λ k. k.bytes.now) c.args.table.now.numbers.entries c.insert.new.self.entries (record { bytes = c.args.name }) c.args.number
    (search rules) c.in_ok-insert.ensures.entries (x ∷ xs)
