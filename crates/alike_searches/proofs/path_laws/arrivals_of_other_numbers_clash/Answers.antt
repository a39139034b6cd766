use Rattle.alike_searches.proofs.OtherArrivals.{arrivals_clash}
use Rattle.alike_searches.proofs.path_laws.arrivals_of_other_numbers_clash.Goals as goal

pub returns : goal.returns
returns c = λ a b pairs P Q p q ls v post sound. arrivals_clash a b sound pairs P Q p q ls v post
