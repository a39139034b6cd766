use Rattle.std.proofs.Common.{length, ap, sym, subst, arith}
use Rattle.fs_pair.specs.Paired.{IsPairing}
use Rattle.cert_terms.proofs.NameTables.{few_names}
use Rattle.cert_terms.proofs.name_places.positions_of.Goals as goal

pub table_of-requires : goal.table_of-requires
table_of-requires c =
    let few = few_names (λ n. n.now) c.args.a.now c.args.b.now c.args.side c.positions.result.now c.in_ok-names.names.items
    (subst IsPairing (sym c.positions.ensures) c.holds.ensures) c.in_ok-names.ensures in
    omega (arith, few, ap length c.as_slice.ensures.value)
