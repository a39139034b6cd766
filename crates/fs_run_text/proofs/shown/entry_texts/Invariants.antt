use Rattle.std.proofs.Common.{◌≡◌, ◌++◌, drop}
use Rattle.std.specs.Prelude.{map}
use Rattle.fs_run_text.specs.ContentTexts.{entry_text}
use Rattle.fs_run_text.proofs.shown.entry_texts.Given as goal

abbrev pub invariant-loop-entry : goal.invariant-loop-entry
invariant-loop-entry l = map (λ t. t.items) l.texts.items ++ map entry_text (drop l.entry-index l.entries) ≡ map entry_text l.entries
