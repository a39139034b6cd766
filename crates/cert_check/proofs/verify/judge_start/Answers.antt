use Rattle.std.proofs.Common.{subst}
use Rattle.nf_terms.specs.Computed.{Answers}
use Rattle.cert_model.specs.Obligations.{judge_start}
use Rattle.cert_check.specs.View.{index_nodes}
use Rattle.cert_check.proofs.verify.judge_start.Goals as goal

pub returns : goal.returns
returns c =
    subst (λ post. Answers c.judge_arrival.result (judge_start (index_nodes c.args.table.now.nodes) post)) c.in_ok-post.ensures c.judge_arrival.ensures
