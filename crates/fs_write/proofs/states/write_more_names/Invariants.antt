use Rattle.std.proofs.Common.{◌≡◌, ◌++◌, drop, take, IsTrue}
use Rattle.std.specs.List.{flat_map, list_all}
use Rattle.fs_model.specs.Words.{is_name}
use Rattle.fs_write.specs.Canonical.{after_comma}
use Rattle.fs_write.proofs.states.write_more_names.Given as goal

abbrev pub invariant-loop-name : goal.invariant-loop-name
invariant-loop-name l =
    (l.out.items ++ flat_map after_comma (drop l.name-index l.names) ≡ l.fn.out.items ++ flat_map after_comma l.names)
    × IsTrue (list_all is_name (take l.name-index l.names))
