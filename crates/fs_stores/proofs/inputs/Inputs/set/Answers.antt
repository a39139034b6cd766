use Rattle.std.proofs.Common.{refl}
use Rattle.std.proofs.lemmas.List.{map-set}
use Rattle.fs_stores.specs.declared.inputs.Input.{Input}
use Rattle.fs_stores.proofs.InputValues.{signatures_set}
use Rattle.fs_stores.proofs.inputs.Inputs.set.Goals as goal

pub returns-clause-values : goal.returns-clause-values
returns-clause-values c = map-set (λ (i : Input). i.value) c.args.self.now.items.items c.args.k
    (record { name = c.index_mut.result.now.name; value = c.args.value })

pub returns-clause-signatures : goal.returns-clause-signatures
returns-clause-signatures c = signatures_set c.args.self.now.items.items c.args.k c.index_mut.result.now
    (record { name = c.index_mut.result.now.name; value = c.args.value }) c.index_mut.ensures.value refl c.requires
