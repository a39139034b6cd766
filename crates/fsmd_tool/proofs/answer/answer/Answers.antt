use Rattle.std.proofs.Common.{◌∙◌, ap, sym, map, length, List, Some, String, Global, string_bytes, arith}
use Rattle.std.proofs.lemmas.List.{length-map}
use Rattle.fsmd_words.specs.declared.asking.Ask.{Ask}
use Rattle.fsmd_words.specs.AskedWords.{asked_of_ask, Chain}
use Rattle.fsmd_answers.specs.ComparisonAnswers.{IsOfLoops}
use Rattle.fsmd_answers.specs.Follows.{FollowsFrom}
use Rattle.fsmd_tool.specs.Calls.{IsCorrectInOrder}
use Rattle.fsmd_tool.proofs.InOrder.{made_answers}
use Rattle.fsmd_tool.proofs.Loads.{at_most_none, loads_named}
use Rattle.fsmd_tool.specs.declared.answer.pairs.PairCommand.TheVariants as commands
use Rattle.fsmd_tool.proofs.Later.{read_both}
use Rattle.fsmd_tool.proofs.Answering.{answers_as, check_answers, no_ports, pair_answers, pair_loads, of_loops, chain_answers, enough}
use Rattle.fsmd_tool.proofs.answer.answer.Goals as goal

pub returns-in-Check-clause-answers : goal.returns-in-Check-clause-answers
returns-in-Check-clause-answers g c =
    check_answers _ _ string_bytes c.in-Check.cert c.in-Check.steps c.is_some.result _ c.answer_pair.result
    (ap (λ (k : Ask). Some (asked_of_ask k)) c.in-Check.is)
    c.is_some.ensures
    (pair_answers (commands.Check c.in-Check.steps c.is_some.result) _ _ _ _ c.load_pair.result c.answer_pair.result
    c.load_pair.ensures.only_read c.load_pair.ensures.left c.load_pair.ensures.right
    c.load_pair.ensures.alike c.load_pair.ensures.loads c.load_pair.ensures.refused
    c.answer_pair.ensures.answers c.answer_pair.ensures.refused c.answer_pair.ensures.none)

pub returns-in-Generate-clause-answers : goal.returns-in-Generate-clause-answers
returns-in-Generate-clause-answers g c =
    let asked = Some (asked_of_ask c.args.ask.now) in
    made_answers (IsOfLoops c.in-Generate.n) (IsCorrectInOrder (FollowsFrom asked) 0 _)
    (λ x p. of_loops asked _ c.in-Generate.n x (ap (λ (k : Ask). Some (asked_of_ask k)) c.in-Generate.is) p)
    c.compare_generated.result c.made_answer.result c.made_answer.ensures c.compare_generated.ensures

pub returns-in-Verify-clause-answers : goal.returns-in-Verify-clause-answers
returns-in-Verify-clause-answers g c = answers_as _ _ c.answer_pair-in-Verify.result
    (ap (λ (k : Ask). Some (asked_of_ask k)) c.in-Verify.is)
    (pair_answers commands.Verify _ _ _ _ c.load_pair-in-Verify.result c.answer_pair-in-Verify.result
    c.load_pair-in-Verify.ensures.only_read c.load_pair-in-Verify.ensures.left c.load_pair-in-Verify.ensures.right
    c.load_pair-in-Verify.ensures.alike c.load_pair-in-Verify.ensures.loads c.load_pair-in-Verify.ensures.refused
    c.answer_pair-in-Verify.ensures.answers c.answer_pair-in-Verify.ensures.refused c.answer_pair-in-Verify.ensures.none)

pub returns-in-Run-clause-answers : goal.returns-in-Run-clause-answers
returns-in-Run-clause-answers g c = answers_as _ _ c.run_files.result (ap (λ (k : Ask). Some (asked_of_ask k)) c.in-Run.is) c.run_files.ensures.answers

pub returns-in-Replay-clause-answers : goal.returns-in-Replay-clause-answers
returns-in-Replay-clause-answers g c = answers_as _ _ c.answer_pair-in-Replay.result
    (ap (λ (k : Ask). Some (asked_of_ask k)) c.in-Replay.is)
    (pair_answers (commands.Replay c.in-Replay.steps) _ _ _ _ c.load_pair-in-Replay.result c.answer_pair-in-Replay.result
    c.load_pair-in-Replay.ensures.only_read c.load_pair-in-Replay.ensures.left c.load_pair-in-Replay.ensures.right
    c.load_pair-in-Replay.ensures.alike c.load_pair-in-Replay.ensures.loads c.load_pair-in-Replay.ensures.refused
    c.answer_pair-in-Replay.ensures.answers c.answer_pair-in-Replay.ensures.refused c.answer_pair-in-Replay.ensures.none)

pub returns-in-Fmt-clause-answers : goal.returns-in-Fmt-clause-answers
returns-in-Fmt-clause-answers g c = answers_as _ _ c.format_text.result (ap (λ (k : Ask). Some (asked_of_ask k)) c.in-Fmt.is) c.format_text.ensures.answers

pub returns-in-Cuts-clause-answers : goal.returns-in-Cuts-clause-answers
returns-in-Cuts-clause-answers g c = answers_as _ _ c.cut_paths.result (ap (λ (k : Ask). Some (asked_of_ask k)) c.in-Cuts.is) c.cut_paths.ensures.answers

pub returns-in-Compile-clause-answers : goal.returns-in-Compile-clause-answers
returns-in-Compile-clause-answers g c = answers_as _ _ c.compile_file.result
    (ap (λ (k : Ask). Some (asked_of_ask k)) c.in-Compile.is) c.compile_file.ensures.answers

pub returns-in-Schedule-clause-answers : goal.returns-in-Schedule-clause-answers
returns-in-Schedule-clause-answers g c = answers_as _ _ c.schedule_files.result (ap (λ (k : Ask). Some (asked_of_ask k)) c.in-Schedule.is)
    c.schedule_files.ensures.answers

pub returns-in-Bind-clause-answers : goal.returns-in-Bind-clause-answers
returns-in-Bind-clause-answers g c = answers_as _ _ c.bind_files.result (ap (λ (k : Ask). Some (asked_of_ask k)) c.in-Bind.is) c.bind_files.ensures.answers

pub returns-in-Shrink-clause-answers : goal.returns-in-Shrink-clause-answers
returns-in-Shrink-clause-answers g c = answers_as _ _ c.answer_pair-in-Shrink.result
    (ap (λ (k : Ask). Some (asked_of_ask k)) c.in-Shrink.is)
    (pair_answers (commands.Shrink c.in-Shrink.steps) _ _ _ _ c.load_pair-in-Shrink.result c.answer_pair-in-Shrink.result
    c.load_pair-in-Shrink.ensures.only_read c.load_pair-in-Shrink.ensures.left c.load_pair-in-Shrink.ensures.right
    c.load_pair-in-Shrink.ensures.alike c.load_pair-in-Shrink.ensures.loads c.load_pair-in-Shrink.ensures.refused
    c.answer_pair-in-Shrink.ensures.answers c.answer_pair-in-Shrink.ensures.refused c.answer_pair-in-Shrink.ensures.none)

pub returns-in-Chain-clause-answers : goal.returns-in-Chain-clause-answers
returns-in-Chain-clause-answers g c =
    chain_answers (map string_bytes c.as_slice.result.now) _ c.chain_files.result
    (ap (λ (k : Ask). Some (asked_of_ask k)) c.in-Chain.is
    ∙ ap (λ (ws : List (String Global)). Some (Chain (map string_bytes ws))) (sym c.as_slice.ensures.value))
    c.chain_files.ensures.answers

pub returns-in-Check-clause-loads : goal.returns-in-Check-clause-loads
returns-in-Check-clause-loads g c = loads_named _ _ 2 _ _ (ap (λ (k : Ask). Some (asked_of_ask k)) c.in-Check.is) (omega arith)
    (pair_loads (commands.Check c.in-Check.steps c.is_some.result) _ _ _ _ c.load_pair.result c.load_pair.ensures.at_most c.load_pair.ensures.loads
    c.answer_pair.ensures.at_most c.answer_pair.ensures.none)

pub returns-in-Verify-clause-loads : goal.returns-in-Verify-clause-loads
returns-in-Verify-clause-loads g c = loads_named _ _ 3 _ _ (ap (λ (k : Ask). Some (asked_of_ask k)) c.in-Verify.is) (omega arith)
    (pair_loads commands.Verify _ _ _ _ c.load_pair-in-Verify.result
    c.load_pair-in-Verify.ensures.at_most c.load_pair-in-Verify.ensures.loads c.answer_pair-in-Verify.ensures.at_most c.answer_pair-in-Verify.ensures.none)

pub returns-in-Run-clause-loads : goal.returns-in-Run-clause-loads
returns-in-Run-clause-loads g c = loads_named _ _ 2 _ _ (ap (λ (k : Ask). Some (asked_of_ask k)) c.in-Run.is) (omega arith) c.run_files.ensures.at_most

pub returns-in-Replay-clause-loads : goal.returns-in-Replay-clause-loads
returns-in-Replay-clause-loads g c = loads_named _ _ 3 _ _ (ap (λ (k : Ask). Some (asked_of_ask k)) c.in-Replay.is) (omega arith)
    (pair_loads (commands.Replay c.in-Replay.steps) _ _ _ _ c.load_pair-in-Replay.result
    c.load_pair-in-Replay.ensures.at_most c.load_pair-in-Replay.ensures.loads c.answer_pair-in-Replay.ensures.at_most c.answer_pair-in-Replay.ensures.none)

pub returns-in-Fmt-clause-loads : goal.returns-in-Fmt-clause-loads
returns-in-Fmt-clause-loads g c = loads_named _ _ 1 _ _ (ap (λ (k : Ask). Some (asked_of_ask k)) c.in-Fmt.is) (omega arith) c.format_text.ensures.at_most

pub returns-in-Cuts-clause-loads : goal.returns-in-Cuts-clause-loads
returns-in-Cuts-clause-loads g c = loads_named _ _ 1 _ _ (ap (λ (k : Ask). Some (asked_of_ask k)) c.in-Cuts.is) (omega arith) c.cut_paths.ensures.at_most

pub returns-in-Compile-clause-loads : goal.returns-in-Compile-clause-loads
returns-in-Compile-clause-loads g c = loads_named _ _ 1 _ _ (ap (λ (k : Ask). Some (asked_of_ask k)) c.in-Compile.is)
    (omega arith) c.compile_file.ensures.at_most

pub returns-in-Schedule-clause-loads : goal.returns-in-Schedule-clause-loads
returns-in-Schedule-clause-loads g c = loads_named _ _ 2 _ _ (ap (λ (k : Ask). Some (asked_of_ask k)) c.in-Schedule.is)
    (omega arith) c.schedule_files.ensures.at_most

pub returns-in-Bind-clause-loads : goal.returns-in-Bind-clause-loads
returns-in-Bind-clause-loads g c = loads_named _ _ 2 _ _ (ap (λ (k : Ask). Some (asked_of_ask k)) c.in-Bind.is) (omega arith) c.bind_files.ensures.at_most

pub returns-in-Shrink-clause-loads : goal.returns-in-Shrink-clause-loads
returns-in-Shrink-clause-loads g c = loads_named _ _ 3 _ _ (ap (λ (k : Ask). Some (asked_of_ask k)) c.in-Shrink.is) (omega arith)
    (pair_loads (commands.Shrink c.in-Shrink.steps) _ _ _ _ c.load_pair-in-Shrink.result
    c.load_pair-in-Shrink.ensures.at_most c.load_pair-in-Shrink.ensures.loads c.answer_pair-in-Shrink.ensures.at_most c.answer_pair-in-Shrink.ensures.none)

pub returns-in-Generate-clause-loads : goal.returns-in-Generate-clause-loads
returns-in-Generate-clause-loads g c = at_most_none _ 0 _ _

pub returns-in-Chain-clause-loads : goal.returns-in-Chain-clause-loads
returns-in-Chain-clause-loads g c =
    loads_named _ (Some (Chain (map string_bytes c.as_slice.result.now))) _ _ _
    (ap (λ (k : Ask). Some (asked_of_ask k)) c.in-Chain.is
    ∙ ap (λ (ws : List (String Global)). Some (Chain (map string_bytes ws))) (sym c.as_slice.ensures.value))
    (enough (map string_bytes c.as_slice.result.now)) c.chain_files.ensures.at_most

pub answer_pair-requires-clause-steps : goal.answer_pair-requires-clause-steps
answer_pair-requires-clause-steps g c = let limits = rw c.in-Check.is at c.requires in limits.0

pub run_files-requires : goal.run_files-requires
run_files-requires g c = let limits = rw c.in-Run.is at c.requires in limits.0

pub answer_pair-requires-in-Replay-clause-steps : goal.answer_pair-requires-in-Replay-clause-steps
answer_pair-requires-in-Replay-clause-steps g c = let limits = rw c.in-Replay.is at c.requires in limits.0

pub answer_pair-requires-in-Shrink-clause-steps : goal.answer_pair-requires-in-Shrink-clause-steps
answer_pair-requires-in-Shrink-clause-steps g c = let limits = rw c.in-Shrink.is at c.requires in limits.0

pub chain_files-requires : goal.chain_files-requires
chain_files-requires g c =
    let limits = rw c.in-Chain.is at c.requires in
    omega (arith, limits.1, length-map c.in-Chain.words.items string_bytes, ap length c.as_slice.ensures.value)

pub answer_pair-requires-clause-ports : goal.answer_pair-requires-clause-ports
answer_pair-requires-clause-ports g c =
    no_ports (Some (asked_of_ask c.args.ask.now)) (g.F.Files.told c.args.files.now) c.load_pair.result c.load_pair.ensures.left

pub returns-in-Check-clause-only_read : goal.returns-in-Check-clause-only_read
returns-in-Check-clause-only_read g c = read_both _ _ _ c.load_pair.ensures.only_read c.answer_pair.ensures.only_read

pub answer_pair-requires-in-Verify-clause-ports : goal.answer_pair-requires-in-Verify-clause-ports
answer_pair-requires-in-Verify-clause-ports g c =
    no_ports (Some (asked_of_ask c.args.ask.now)) (g.F.Files.told c.args.files.now) c.load_pair-in-Verify.result c.load_pair-in-Verify.ensures.left

pub returns-in-Verify-clause-only_read : goal.returns-in-Verify-clause-only_read
returns-in-Verify-clause-only_read g c = read_both _ _ _ c.load_pair-in-Verify.ensures.only_read c.answer_pair-in-Verify.ensures.only_read

pub answer_pair-requires-in-Replay-clause-ports : goal.answer_pair-requires-in-Replay-clause-ports
answer_pair-requires-in-Replay-clause-ports g c =
    no_ports (Some (asked_of_ask c.args.ask.now)) (g.F.Files.told c.args.files.now) c.load_pair-in-Replay.result c.load_pair-in-Replay.ensures.left

pub returns-in-Replay-clause-only_read : goal.returns-in-Replay-clause-only_read
returns-in-Replay-clause-only_read g c = read_both _ _ _ c.load_pair-in-Replay.ensures.only_read c.answer_pair-in-Replay.ensures.only_read

pub answer_pair-requires-in-Shrink-clause-ports : goal.answer_pair-requires-in-Shrink-clause-ports
answer_pair-requires-in-Shrink-clause-ports g c =
    no_ports (Some (asked_of_ask c.args.ask.now)) (g.F.Files.told c.args.files.now) c.load_pair-in-Shrink.result c.load_pair-in-Shrink.ensures.left

pub returns-in-Shrink-clause-only_read : goal.returns-in-Shrink-clause-only_read
returns-in-Shrink-clause-only_read g c = read_both _ _ _ c.load_pair-in-Shrink.ensures.only_read c.answer_pair-in-Shrink.ensures.only_read
