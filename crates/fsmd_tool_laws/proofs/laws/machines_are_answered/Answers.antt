use Rattle.fsmd_tool_laws.proofs.Correct.{machines_checked, certificate_judged, loops_answered, run_answered, replay_answered, shrink_answered, fmt_answered}
use Rattle.fsmd_tool_laws.proofs.Correct.{cuts_answered, compile_answered, schedule_answered, bind_answered}
use Rattle.fsmd_tool_laws.proofs.Chains.{chain_answered, chain_stopped}
use Rattle.fsmd_tool_laws.proofs.Certificates.{in_one_way}
use Rattle.fsmd_tool_laws.proofs.laws.machines_are_answered.Goals as goal

pub returns-clause-check : goal.returns-clause-check
returns-clause-check c = machines_checked

pub returns-clause-verify : goal.returns-clause-verify
returns-clause-verify c =
    let w = in_one_way c.certificates_are_read_in_one_way.ensures.same c.certificates_are_read_in_one_way.ensures.taken c.texts_are_read.ensures in
    certificate_judged w

pub returns-clause-generate : goal.returns-clause-generate
returns-clause-generate c = loops_answered

pub returns-clause-run : goal.returns-clause-run
returns-clause-run c = run_answered

pub returns-clause-replay : goal.returns-clause-replay
returns-clause-replay c = replay_answered

pub returns-clause-fmt : goal.returns-clause-fmt
returns-clause-fmt c = fmt_answered

pub returns-clause-cuts : goal.returns-clause-cuts
returns-clause-cuts c = cuts_answered

pub returns-clause-compile : goal.returns-clause-compile
returns-clause-compile c = compile_answered

pub returns-clause-schedule : goal.returns-clause-schedule
returns-clause-schedule c = schedule_answered

pub returns-clause-bind : goal.returns-clause-bind
returns-clause-bind c = bind_answered

pub returns-clause-shrink : goal.returns-clause-shrink
returns-clause-shrink c = shrink_answered

pub returns-clause-chain : goal.returns-clause-chain
returns-clause-chain c =
    let w = in_one_way c.certificates_are_read_in_one_way.ensures.same c.certificates_are_read_in_one_way.ensures.taken c.texts_are_read.ensures in
    chain_answered w

pub returns-clause-stopped : goal.returns-clause-stopped
returns-clause-stopped c =
    let w = in_one_way c.certificates_are_read_in_one_way.ensures.same c.certificates_are_read_in_one_way.ensures.taken c.texts_are_read.ensures in
    chain_stopped w
