use Rattle.fs_stores.proofs.changes.assign_all.Goals as goal

pub assign_one-requires : goal.assign_one-requires
assign_one-requires c = rw c.in-Some.ensures at c.requires

pub returns-in-Some-clause-changed : goal.returns-in-Some-clause-changed
returns-in-Some-clause-changed c = rw c.in-Some.ensures c.assign_one.ensures.changed

pub returns-in-Some-clause-fit : goal.returns-in-Some-clause-fit
returns-in-Some-clause-fit c = rw c.in-Some.ensures c.assign_one.ensures.fit

pub returns-in-Some-clause-past : goal.returns-in-Some-clause-past
returns-in-Some-clause-past c = rw c.in-Some.ensures c.assign_one.ensures.past
