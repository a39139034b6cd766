use Rattle.std.proofs.Common.{List, map, subst, arith, rules}
use Rattle.std.specs.List.{AllByRecursion}
use Rattle.std.proofs.lemmas.List.{length-map}
use Rattle.fs_pair.specs.declared.positions.Position.{Position}
use Rattle.sym_facts.specs.Pairings.{IsFactOf}
use Rattle.cert_model.specs.View.{node_of}
use Rattle.search_strengthening_tables.proofs.assembling.assemble.Goals as goal

pub returns-clause-lawful : goal.returns-clause-lawful
returns-clause-lawful c =
    let nodes = map node_of c.in-Some.made.items in
    let of : AllByRecursion (λ n. IsFactOf c.args.p.now n.fact) (map node_of c.in-Some.made.items) = search rules in
    record {
      few = omega (arith, length-map c.in-Some.made.items node_of);
      points = search rules;
      ranks = search rules;
      facts = subst (λ (ps : List Position). AllByRecursion (λ n. IsFactOf ps n.fact) (map node_of c.in-Some.made.items)) c.requires of;
    }
