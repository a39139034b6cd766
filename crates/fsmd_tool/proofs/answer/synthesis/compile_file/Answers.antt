use Rattle.fsmd_tool.proofs.InOrder.{program_in_order}
use Rattle.fsmd_tool.proofs.answer.synthesis.compile_file.Goals as goal

pub returns-clause-answers : goal.returns-clause-answers
returns-clause-answers g c = program_in_order _ c.load_compiled.result c.load_compiled.ensures.loads c.load_compiled.ensures.compiled
    c.load_compiled.ensures.refused
