use Rattle.std.specs.Prelude.{◌≡◌, ◌+◌, is_some}
use Rattle.fs_write.specs.Canonical.{canonical}
use Rattle.fs_cut.specs.PathTexts.{paths_text}
use Rattle.fsmd_replies.specs.declared.answer.Answer.TheVariants.{Text}
use Rattle.fsmd_replies.specs.AskedFiles.{cert_of, step_limit}
use Rattle.fsmd_tool.specs.ComparisonAnswers.{IsOfPair, IsOfLoops}
use Rattle.fsmd_tool.specs.Verdicts.{IsJudged}
use Rattle.fsmd_tool.specs.RunAnswers.{IsOfRun}
use Rattle.fsmd_tool.specs.Replays.{IsOfReplay}
use Rattle.fsmd_tool.specs.Shrinks.{IsOfShrink}
use Rattle.fsmd_tool.specs.Links.{AtLink, links_of, IsOfChain}
use Rattle.fsmd_tool.specs.ProgramFiles.{IsOfProgram}
use Rattle.fsmd_tool.specs.ScheduleFiles.{IsOfSchedule}
use Rattle.fsmd_tool.specs.BindingFiles.{IsOfBinding}
use Rattle.fsmd_tool_laws.proofs.Correct.{machines_checked, certificate_judged, loops_answered, run_answered, replay_answered, shrink_answered, fmt_answered}
use Rattle.fsmd_tool_laws.proofs.Correct.{cuts_answered, compile_answered, schedule_answered, bind_answered}
use Rattle.fsmd_tool_laws.proofs.Chains.{chain_answered, chain_stopped}
use Rattle.fsmd_tool_laws.proofs.Certificates.{in_one_way}
use Rattle.fsmd_tool_laws.proofs.Outcomes.{ends_by}
use Rattle.fsmd_tool_laws.proofs.laws.machines_get_their_answers.Goals as goal

pub returns-clause-check : goal.returns-clause-check
returns-clause-check c =
    λ g p a b e k n o. ends_by (IsOfPair (step_limit g.asked) (is_some (cert_of g.asked)) a b) g p n (λ x h. machines_checked g x a b e k h) o

pub returns-clause-verify : goal.returns-clause-verify
returns-clause-verify c =
    let w = in_one_way c.certificates_are_read_in_one_way.ensures.same c.certificates_are_read_in_one_way.ensures.taken c.texts_are_read.ensures in
    λ g p a b nodes e k t n o. ends_by (IsJudged a b nodes) g p n (λ x h. certificate_judged w g x a b nodes e k t h) o

pub returns-clause-generate : goal.returns-clause-generate
returns-clause-generate c = λ g p loops e n o. ends_by (IsOfLoops loops) g p n (λ x h. loops_answered g x loops e h) o

pub returns-clause-run : goal.returns-clause-run
returns-clause-run c =
    λ g p machine inputs steps m ins e k t n o. ends_by (IsOfRun steps m ins) g p n (λ x h. run_answered g x machine inputs steps m ins e k t h) o

pub returns-clause-replay : goal.returns-clause-replay
returns-clause-replay c =
    λ g p left right inputs steps a b ins e k t n o. ends_by (IsOfReplay steps a b ins) g p n
    (λ x h. replay_answered g x left right inputs steps a b ins e k t h) o

pub returns-clause-fmt : goal.returns-clause-fmt
returns-clause-fmt c = λ g p machine parts e k n o. ends_by (λ x. x ≡ Text (canonical parts)) g p n (λ x h. fmt_answered g x machine parts e k h) o

pub returns-clause-cuts : goal.returns-clause-cuts
returns-clause-cuts c = λ g p machine m e k n o. ends_by (λ x. x ≡ Text (paths_text m)) g p n (λ x h. cuts_answered g x machine m e k h) o

pub returns-clause-compile : goal.returns-clause-compile
returns-clause-compile c = λ g p file program e k n o. ends_by (IsOfProgram program) g p n (λ x h. compile_answered g x file program e k h) o

pub returns-clause-schedule : goal.returns-clause-schedule
returns-clause-schedule c =
    λ g p machine counts parts units e k t n o. ends_by (IsOfSchedule parts units) g p n (λ x h. schedule_answered g x machine counts parts units e k t h) o

pub returns-clause-bind : goal.returns-clause-bind
returns-clause-bind c =
    λ g p machine registers parts b e k t n o. ends_by (IsOfBinding parts b) g p n (λ x h. bind_answered g x machine registers parts b e k t h) o

pub returns-clause-shrink : goal.returns-clause-shrink
returns-clause-shrink c =
    λ g p left right inputs steps a b ins e k t n o. ends_by (IsOfShrink steps a b ins) g p n
    (λ x h. shrink_answered g x left right inputs steps a b ins e k t h) o

pub returns-clause-chain : goal.returns-clause-chain
returns-clause-chain c =
    let w = in_one_way c.certificates_are_read_in_one_way.ensures.same c.certificates_are_read_in_one_way.ensures.taken c.texts_are_read.ensures in
    λ g p words first last e k l n o. ends_by (IsOfChain first last (links_of words)) g p n (λ x h. chain_answered w g x words first last e k l h) o

pub returns-clause-stopped : goal.returns-clause-stopped
returns-clause-stopped c =
    let w = in_one_way c.certificates_are_read_in_one_way.ensures.same c.certificates_are_read_in_one_way.ensures.taken c.texts_are_read.ensures in
    λ g p words held first last next nodes e below k l link stops n o.
    ends_by (AtLink g.asked (held + 1) (IsJudged last next nodes)) g p n (λ x h. chain_stopped w g x words held first last next nodes e below k l link stops h)
    o
