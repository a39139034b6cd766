use Rattle.alike_searches.proofs.OtherMoves.{others_refuted}
use Rattle.alike_searches.proofs.table_laws.moves_of_other_numbers_are_refuted.Goals as goal

pub returns : goal.returns
returns c = λ a b pairs P Q p q ls v post sound. others_refuted a b sound pairs P Q p q ls v post
