use Rattle.search_laws.proofs.Small.{closed_holds}
use Rattle.search_laws.proofs.laws.certificates_of_closed_searches_hold.Goals as goal

pub returns : goal.returns
returns c = closed_holds
