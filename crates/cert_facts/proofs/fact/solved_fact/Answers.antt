use Rattle.std.proofs.Common.{map}
use Rattle.nf_rel.specs.View.{literal_in}
use Rattle.cert_facts.proofs.Facts.{within_in}
use Rattle.cert_facts.proofs.fact.solved_fact.Goals as goal

pub of_shared-requires-clause-literals : goal.of_shared-requires-clause-literals
of_shared-requires-clause-literals c = rw c.requires.pairing (within_in c.args.c.now.places.now (map literal_in c.args.conds.items) c.requires.within)
