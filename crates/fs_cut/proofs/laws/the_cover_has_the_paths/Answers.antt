use Rattle.fs_cut.proofs.Listed.{paths_count, few_paths, paths_in_order, paths_listed, others_missing, listed_is_path, listed_from, path_is_listed}
use Rattle.fs_cut.proofs.laws.the_cover_has_the_paths.Goals as goal

pub returns-clause-lists : goal.returns-clause-lists
returns-clause-lists c = paths_listed

pub returns-clause-lists_no_other : goal.returns-clause-lists_no_other
returns-clause-lists_no_other c = others_missing

pub returns-clause-count : goal.returns-clause-count
returns-clause-count c = paths_count

pub returns-clause-few : goal.returns-clause-few
returns-clause-few c = few_paths

pub returns-clause-in_order : goal.returns-clause-in_order
returns-clause-in_order c = paths_in_order

pub returns-clause-paths : goal.returns-clause-paths
returns-clause-paths c = listed_is_path

pub returns-clause-from : goal.returns-clause-from
returns-clause-from c = listed_from

pub returns-clause-all : goal.returns-clause-all
returns-clause-all c = path_is_listed
