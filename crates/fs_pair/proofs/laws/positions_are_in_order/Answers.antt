use Rattle.fs_pair.proofs.Order.{lefts_in_order, partner_follows}
use Rattle.fs_pair.proofs.Last.{others_last}
use Rattle.fs_pair.proofs.laws.positions_are_in_order.Goals as goal

pub returns-clause-lefts : goal.returns-clause-lefts
returns-clause-lefts c = lefts_in_order

pub returns-clause-followed : goal.returns-clause-followed
returns-clause-followed c = λ a b k j p sound other. partner_follows a b sound other k j p

pub returns-clause-last : goal.returns-clause-last
returns-clause-last c = others_last
