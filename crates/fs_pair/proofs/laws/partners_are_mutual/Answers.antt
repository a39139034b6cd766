use Rattle.fs_pair.proofs.Variables.{has_partner}
use Rattle.fs_pair.proofs.Mutual.{mutual_partners}
use Rattle.fs_pair.proofs.Roles.{partner_role}
use Rattle.fs_pair.proofs.laws.partners_are_mutual.Goals as goal

pub returns-clause-alike : goal.returns-clause-alike
returns-clause-alike c = has_partner

pub returns-clause-mutual : goal.returns-clause-mutual
returns-clause-mutual c = λ a b k j p q sound other. mutual_partners a b sound other k j p q

pub returns-clause-role : goal.returns-clause-role
returns-clause-role c = λ a b j p sound other matched h. partner_role a b sound other matched p j h
