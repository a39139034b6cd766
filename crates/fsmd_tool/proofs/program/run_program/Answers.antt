use Rattle.std.proofs.Common.{ap}
use Rattle.fs_base.specs.Writers.{WrittenSink}
use Rattle.fsmd_tool.proofs.Running.{ends_so}
use Rattle.fsmd_tool.proofs.program.run_program.Goals as goal

pub returns : goal.returns
returns g c = ends_so (λ all. all.items) c.words.result _ _ _ _ c.run_words.result c.new.ensures (ap (λ (w : WrittenSink). w.failures) c.new-2.ensures)
    c.run_words.ensures.driven c.run_words.ensures.without
