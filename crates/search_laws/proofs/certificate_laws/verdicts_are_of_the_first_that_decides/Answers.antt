use Rattle.cert_model.specs.Obligations.{obligations}
use Rattle.search_laws.proofs.Deciding.{yes_where_held, no_where_first, wide_where_first, large_where_first}
use Rattle.search_laws.proofs.certificate_laws.verdicts_are_of_the_first_that_decides.Goals as goal

pub returns-clause-yes : goal.returns-clause-yes
returns-clause-yes c = λ a b start ns. yes_where_held (obligations a b start ns)

pub returns-clause-no : goal.returns-clause-no
returns-clause-no c = λ a b start ns k r. no_where_first r (obligations a b start ns) k

pub returns-clause-wide : goal.returns-clause-wide
returns-clause-wide c = λ a b start ns k. wide_where_first (obligations a b start ns) k

pub returns-clause-large : goal.returns-clause-large
returns-clause-large c = λ a b start ns k. large_where_first (obligations a b start ns) k
