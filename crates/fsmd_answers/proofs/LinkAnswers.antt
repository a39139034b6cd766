-- The answers to links of chains.
use Rattle.std.proofs.Common.{◌≡◌, ◌≢◌, ◌∙◌, ℕ, List, Option, ap, subst}
use Rattle.fsmd_words.specs.AskedWords.{Asked}
use Rattle.fs_model.specs.Machines.{Fsmd}
use Rattle.cert_bisimulation.specs.Tables.{Node}
use Rattle.sym_facts.specs.Facts.{Fact}
use Rattle.cert_model.specs.Obligations.{Verdict, Yes, verdict_on}
use Rattle.hls_shrink.specs.declared.chain.ChainStop.{ChainStop}
use Rattle.hls_shrink.specs.ChainStops.{IsStopOf}
use Rattle.fsmd_replies.specs.declared.answer.Answer.{Answer}
use Rattle.fsmd_answers.specs.declared.refused.Refused.{Refused as Refusal}
use Rattle.fsmd_answers.specs.declared.refused.Refused.TheVariants.{Answered, NoMemory}
use Rattle.fsmd_answers.specs.Refusing.{WhereAnswered}
use Rattle.fsmd_pair_answers.specs.Verdicts.{answer_to, IsJudged}
use Rattle.fsmd_answers.specs.Links.{AtLink}
use Rattle.fsmd_answers.proofs.Maps.{answer_map}

-- what the answer of a refusal meets, that of the link meets as told
pub told_refusal : (asked : Option Asked) (link : ℕ) (P : Answer → Type 0) (refused told : Refusal) → WhereAnswered P refused
    → WhereAnswered (AtLink asked link (λ stop. refused ≡ Answered stop)) told → WhereAnswered (AtLink asked link P) told
told_refusal asked link P refused (Answered x) h at = record { stop = at.stop; meets = subst (WhereAnswered P) at.meets h; is = at.is }
told_refusal asked link P refused NoMemory h at = tt

-- the verdict on nodes is not yes, and the answer is the one that it gets, told as that of a link
abbrev pub Fails : Option Asked → (link : ℕ) → (a b : Fsmd) → List (Node Fact) → Answer → Type 0
Fails asked link a b nodes answer = (verdict_on a b nodes ≢ Yes) × AtLink asked link (IsJudged a b nodes) answer

-- the answer that the verdict on nodes gets, as told
pub told_stop : (asked : Option Asked) (link : ℕ) (a b : Fsmd) (nodes : List (Node Fact)) (v : Verdict) (answer : Answer) (told : Refusal)
    → v ≡ verdict_on a b nodes → verdict_on a b nodes ≢ Yes → answer ≡ answer_to a b v
    → WhereAnswered (AtLink asked link (λ stop. Answered answer ≡ Answered stop)) told → WhereAnswered (Fails asked link a b nodes) told
told_stop asked link a b nodes v answer told g fails is at =
    let judged : IsJudged a b nodes answer = record { is = is ∙ ap (answer_to a b) g; same = λ yes. absurd (fails yes) } in
    answer_map _ _ (λ x h. (fails, h)) told (told_refusal asked link (IsJudged a b nodes) (Answered answer) told judged at)

-- why a chain stops at a link, by copies of its machines
pub link_fails : (asked : Option Asked) (link : ℕ) (a b x y : Fsmd) (nodes : List (Node Fact)) (stop : ChainStop) (told : Refusal) → x ≡ a → y ≡ b
    → (IsStopOf (verdict_on x y nodes) stop → WhereAnswered (Fails asked link x y nodes) told)
    → IsStopOf (verdict_on a b nodes) stop → WhereAnswered (Fails asked link a b nodes) told
link_fails asked link a b x y nodes stop told e f h =
    subst (λ m. IsStopOf (verdict_on m b nodes) stop → WhereAnswered (Fails asked link m b nodes) told) e
    (subst (λ m. IsStopOf (verdict_on x m nodes) stop → WhereAnswered (Fails asked link x m nodes) told) f h)
