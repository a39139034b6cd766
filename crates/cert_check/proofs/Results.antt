-- Answers with a progress.
use Rattle.std.proofs.Common.{◌≡◌, ℕ, List, ap, ◌∙◌, IfOk, Result, Ok, Err}
use Rattle.nf_trees.specs.declared.stop.NoMemory.{NoMemory}
use Rattle.cert_model.specs.Obligations.{Judged}
use Rattle.cert_check.specs.Progress.{progress_from}
use Rattle.cert_check.specs.declared.progress.Progress.{Progress}
use Rattle.cert_check.specs.View.{progress_in}

-- an answer about a list is one about an equal one
pub answer_over : (k : ℕ) (xs ys : List Judged) (r : Result Progress NoMemory) → xs ≡ ys → IfOk r (λ q. progress_in q ≡ progress_from k xs)
    → IfOk r (λ q. progress_in q ≡ progress_from k ys)
answer_over k xs ys (Ok q) e h = h ∙ ap (progress_from k) e
answer_over k xs ys (Err stop) e h = tt
