use Rattle.std.proofs.lemmas.Result.{err_from_is_err_and}
use Rattle.fs_stores.proofs.changes.assign_each.Goals as goal

pub returns-in_err-value_changes-clause-past : goal.returns-in_err-value_changes-clause-past
returns-in_err-value_changes-clause-past c =
    let p = err_from_is_err_and c.from_residual.result c.from_residual.ensures.1 in
    rw (p.1, p.2) c.in_err-value_changes.ensures.past

pub change_all-requires : goal.change_all-requires
change_all-requires c = rw (c.as_slice.ensures.value, c.in_ok-value_changes.ensures.changes) c.requires

pub returns-in-Ok-clause-changed : goal.returns-in-Ok-clause-changed
returns-in-Ok-clause-changed c = rw (c.as_slice.ensures.value, c.in_ok-value_changes.ensures.changes) at c.in-Ok.ensures.changed
