use Rattle.std.proofs.Common.{Some, arith}
use Rattle.fsmd_words.specs.AskedWords.{asked_of_ask}
use Rattle.fsmd_answers.specs.Unread.{IsUnread}
use Rattle.fsmd_tool.specs.Calls.{call}
use Rattle.fsmd_tool.proofs.FromFiles.{unread_as}
use Rattle.fsmd_tool.proofs.Loads.{loads_one, at_most}
use Rattle.fsmd_tool.proofs.load.load_bytes.Goals as goal

pub returns-in-Err-clause-unread : goal.returns-in-Err-clause-unread
returns-in-Err-clause-unread g c =
    unread_as (call (Some (asked_of_ask c.args.ask.now)) (g.F.Files.told c.args.files.now) (g.F.Files.told c.load.new.self)) c.args.file c.args.limit
    (IsUnread c.args.limit c.args.file) (λ k x u. u) c.word_of.result.now c.in-Err.error c.refused_load.result c.refused_load.ensures c.word_of.ensures
    c.in-Err.ensures.failed c.in-Err.ensures.too_long

pub returns-in-Ok-clause-loads : goal.returns-in-Ok-clause-loads
returns-in-Ok-clause-loads g c = loads_one _ c.args.file c.word_of.result.now _ _ c.word_of.ensures c.load.ensures.loaded

pub returns-in-Ok-clause-at_most : goal.returns-in-Ok-clause-at_most
returns-in-Ok-clause-at_most g c =
    at_most _ c.args.file.0 1 1 _ _ (omega arith) (loads_one _ c.args.file c.word_of.result.now _ _ c.word_of.ensures c.load.ensures.loaded)

pub returns-in-Err-clause-loads : goal.returns-in-Err-clause-loads
returns-in-Err-clause-loads g c = loads_one _ c.args.file c.word_of.result.now _ _ c.word_of.ensures c.load.ensures.loaded

pub returns-in-Err-clause-at_most : goal.returns-in-Err-clause-at_most
returns-in-Err-clause-at_most g c =
    at_most _ c.args.file.0 1 1 _ _ (omega arith) (loads_one _ c.args.file c.word_of.result.now _ _ c.word_of.ensures c.load.ensures.loaded)
