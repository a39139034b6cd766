use Rattle.std.proofs.Common.{ap, ◌∙◌}
use Rattle.nf_vectors.specs.Vectors.{form_at}
use Rattle.nf_vectors.proofs.Entries.{found}
use Rattle.nf_vectors.proofs.vector.Vector.shared_form.Goals as goal

pub returns : goal.returns
returns c = c.get.ensures.value ∙ found c.args.sort c.args.p _ c.self.invariant ∙ ap (form_at c.args.sort c.args.p) c.self.view_is
