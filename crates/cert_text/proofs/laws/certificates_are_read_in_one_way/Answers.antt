use Rattle.cert_text.proofs.OneWay.{one_list, not_refused}
use Rattle.cert_text.proofs.laws.certificates_are_read_in_one_way.Goals as goal

pub returns-clause-same : goal.returns-clause-same
returns-clause-same c = one_list

pub returns-clause-taken : goal.returns-clause-taken
returns-clause-taken c = not_refused
