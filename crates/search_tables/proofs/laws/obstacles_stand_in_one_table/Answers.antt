use Rattle.search_tables.proofs.Ending.{one_end, no_certificate}
use Rattle.search_tables.proofs.laws.obstacles_stand_in_one_table.Goals as goal

pub returns : goal.returns
returns c = record { one = one_end; no_certificate = no_certificate }
