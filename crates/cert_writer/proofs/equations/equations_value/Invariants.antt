use Rattle.std.proofs.Common.{◌≡◌, map, drop}
use Rattle.std.specs.List.{AllByRecursion}
use Rattle.serde_json.specs.Data.{no_members}
use Rattle.serde_json.specs.View.{members_view}
use Rattle.sym_facts.specs.View.{position_in}
use Rattle.cert_writer.specs.WrittenCertificates.{equations_written}
use Rattle.cert_model.specs.Kept.{IsNormalEquation}
use Rattle.cert_writer.specs.View.{names_in}
use Rattle.cert_writer.proofs.equations.equations_value.Given as goal

abbrev pub invariant-loop-position : goal.invariant-loop-position
invariant-loop-position l = record {
  written : equations_written (names_in l.names) (members_view l.members.entries) (map position_in (drop l.position-index l.positions))
      ≡ equations_written (names_in l.names) no_members (map position_in l.positions);
  normal : AllByRecursion (λ q. IsNormalEquation q.equation) (map position_in (drop l.position-index l.positions))
      → AllByRecursion (λ q. IsNormalEquation q.equation) (map position_in l.positions);
}
