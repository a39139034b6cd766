use Rattle.fs_pair.specs.Partners.{position_name}
use Rattle.cert_model.specs.Lawful.{points_differ}
use Rattle.search_laws.proofs.Places.{find}
use Rattle.search_laws.proofs.Nodes.{written_nodes}
use Rattle.search_laws.proofs.certificate_laws.written_certificates_are_read.Goals as goal

pub returns : goal.returns
returns c = λ a b bytes ns left right lawful normal file.
    (let name = position_name a b in
    let found = find a b left right (points_differ ns) in
    written_nodes a b left right ns (record {
      polynomial_spelled = c.written_terms_are_spelled.ensures.polynomial name found;
      array_spelled = c.written_terms_are_spelled.ensures.array name found;
      list_spelled = c.written_terms_are_spelled.ensures.list name found;
      polynomial_again = c.written_terms_mean_themselves.ensures.polynomial name found;
      array_again = c.written_terms_mean_themselves.ensures.array name found;
      list_again = c.written_terms_mean_themselves.ensures.list name found;
      literal_spelled = c.written_literals_are_spelled.ensures name found;
      literal_again = c.written_literals_mean_themselves.ensures name found;
    }) bytes lawful normal file)
