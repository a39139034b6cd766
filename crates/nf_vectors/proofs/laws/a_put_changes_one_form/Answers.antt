use Rattle.nf_vectors.proofs.Entries.{form_put}
use Rattle.nf_vectors.proofs.laws.a_put_changes_one_form.Goals as goal

pub returns : goal.returns
returns c = form_put
