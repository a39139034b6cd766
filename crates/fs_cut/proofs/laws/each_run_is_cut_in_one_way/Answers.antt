use Rattle.fs_cut.proofs.Cutting.{cuts_in_one_way, cut_is_listed}
use Rattle.fs_cut.proofs.laws.each_run_is_cut_in_one_way.Goals as goal

pub returns-clause-one_way : goal.returns-clause-one_way
returns-clause-one_way c = cuts_in_one_way

pub returns-clause-listed : goal.returns-clause-listed
returns-clause-listed c = cut_is_listed
