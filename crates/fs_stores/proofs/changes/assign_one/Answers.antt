use Rattle.std.proofs.Common.{◌≡◌, true, subst}
use Rattle.base_laws.proofs.Booleans.{and_first}
use Rattle.fs_stores.specs.Values.{store_from}
use Rattle.fs_stores.specs.Changes.{change_store, suits}
use Rattle.fs_stores.proofs.changes.assign_one.Goals as goal

pub returns-in_default-clause-past : goal.returns-in_default-clause-past
returns-in_default-clause-past c = λ p. c.in_default.ensures p.0

pub change_one-requires : goal.change_one-requires
change_one-requires c = rw c.in-Some.ensures.1 (and_first (suits c.args.values.now _) true c.requires)

pub returns-in-Ok-clause-changed : goal.returns-in-Ok-clause-changed
returns-in-Ok-clause-changed c =
    subst (λ d. store_from c.change_one.new.values ≡ change_store (store_from c.args.values.now) d) c.in-Some.ensures.1 c.in-Ok.ensures.changed

pub returns-in-Ok-clause-fit : goal.returns-in-Ok-clause-fit
returns-in-Ok-clause-fit c = (c.in-Some.ensures.0, tt)
