use Rattle.std.proofs.lemmas.Result.{IfOk-weaker}
use Rattle.show_search_views.proofs.pictures.search_marks.Goals as goal

pub returns : goal.returns
returns c =
    IfOk-weaker c.marks_of.result _ _
    (λ marks are. record { outcome = c.in_ok-outcome.outcome; searched = c.in_ok-outcome.ensures.answers; are = are })
    c.marks_of.ensures
