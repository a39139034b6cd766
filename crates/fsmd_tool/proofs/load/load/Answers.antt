use Rattle.std.proofs.Common.{Some, arith}
use Rattle.fsmd_words.specs.AskedWords.{asked_of_ask}
use Rattle.fs_model.specs.View.{source_of}
use Rattle.fs_model.specs.Limits.{most_text_bytes}
use Rattle.fsmd_answers.specs.declared.reading.Loaded.{Loaded}
use Rattle.fsmd_answers.specs.Refusals.{RefusesMachine, Unread}
use Rattle.fsmd_answers.specs.Refusing.{IsLoaded}
use Rattle.fsmd_tool.specs.Calls.{call}
use Rattle.fsmd_tool.proofs.FromFiles.{bytes_given, unread_as, held_bytes, held_of}
use Rattle.fsmd_tool.proofs.Loads.{loads_one, at_most}
use Rattle.fsmd_tool.proofs.load.load.Goals as goal

pub returns-in-Ok-clause-loaded : goal.returns-in-Ok-clause-loaded
returns-in-Ok-clause-loaded g c =
    held_of _ c.as_slice.result.now c.read_machine.result (λ (l : Loaded) bytes. IsLoaded (source_of l.parts) l.machine bytes)
    (held_bytes (g.F.Files.told c.args.files.now).holds c.word_of.result.now _ _ _ c.word_of.ensures c.as_slice.ensures.value c.in-Ok.ensures.held)
    c.read_machine.ensures.loaded

pub returns-in-Ok-clause-refused : goal.returns-in-Ok-clause-refused
returns-in-Ok-clause-refused g c =
    bytes_given _ _ c.as_slice.result.now (RefusesMachine c.args.file) c.read_machine.result
    (held_bytes (g.F.Files.told c.args.files.now).holds c.word_of.result.now _ _ _ c.word_of.ensures c.as_slice.ensures.value c.in-Ok.ensures.held)
    c.read_machine.ensures.refused

pub returns-in-Err-clause-refused : goal.returns-in-Err-clause-refused
returns-in-Err-clause-refused g c =
    unread_as (call (Some (asked_of_ask c.args.ask.now)) (g.F.Files.told c.args.files.now) (g.F.Files.told c.load.new.self)) c.args.file most_text_bytes
    (RefusesMachine c.args.file) (λ k x u. Unread u) c.word_of.result.now c.in-Err.error c.refused_load.result c.refused_load.ensures c.word_of.ensures
    c.in-Err.ensures.failed c.in-Err.ensures.too_long

pub returns-in-Ok-clause-loads : goal.returns-in-Ok-clause-loads
returns-in-Ok-clause-loads g c = loads_one _ c.args.file c.word_of.result.now _ _ c.word_of.ensures c.load.ensures.loaded

pub returns-in-Ok-clause-at_most : goal.returns-in-Ok-clause-at_most
returns-in-Ok-clause-at_most g c =
    at_most _ c.args.file.0 1 1 _ _ (omega arith) (loads_one _ c.args.file c.word_of.result.now _ _ c.word_of.ensures c.load.ensures.loaded)

pub returns-in-Err-clause-loads : goal.returns-in-Err-clause-loads
returns-in-Err-clause-loads g c = loads_one _ c.args.file c.word_of.result.now _ _ c.word_of.ensures c.load.ensures.loaded

pub returns-in-Err-clause-at_most : goal.returns-in-Err-clause-at_most
returns-in-Err-clause-at_most g c =
    at_most _ c.args.file.0 1 1 _ _ (omega arith) (loads_one _ c.args.file c.word_of.result.now _ _ c.word_of.ensures c.load.ensures.loaded)
