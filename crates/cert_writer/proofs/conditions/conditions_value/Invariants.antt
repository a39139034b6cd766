use Rattle.std.proofs.Common.{◌≡◌, ◌++◌, true, map, drop}
use Rattle.std.specs.List.{list_all}
use Rattle.serde_json.specs.Data.{string}
use Rattle.serde_json.specs.View.{view}
use Rattle.nf_rel.specs.View.{literal_in}
use Rattle.sym_facts.specs.Facts.{may_be_kept}
use Rattle.cert_writer.specs.WrittenCertificates.{literal_bytes}
use Rattle.cert_writer.specs.View.{names_in}
use Rattle.cert_writer.proofs.conditions.conditions_value.Given as goal

abbrev pub invariant-loop-literal : goal.invariant-loop-literal
invariant-loop-literal l = record {
  kept : list_all may_be_kept (map literal_in (drop l.literal-index l.literals)) ≡ true;
  written : map view l.out.items ++ map (λ m. string (literal_bytes (names_in l.names) (literal_in m))) (drop l.literal-index l.literals)
      ≡ map (λ m. string (literal_bytes (names_in l.names) (literal_in m))) l.literals;
}
