-- Words spell one program at most.
use Rattle.std.proofs.Common.{◌≡◌, List, Option, Some}
use Rattle.fs_grammar.specs.Spelling.{Word}
use Rattle.hls_program_parts.specs.Programs.{Program}
use Rattle.hls_program_parts.specs.ProgramGrammar.{ProgramParseState, at_prog, at_end}
use Rattle.hls_program_parts.specs.ProgramSpelling.{IsProgram}
use Rattle.hls_program_parts.proofs.Walks.{walk}
use Rattle.hls_program_parts.proofs.Complete.{complete}

same : (o : Option ProgramParseState) (p q : Program) → o ≡ Some (at_end p) → o ≡ Some (at_end q) → p ≡ q
same o p q e f = cc

pub one_program : (p q : Program) (ws : List Word) → IsProgram p ws → IsProgram q ws → p ≡ q
one_program p q ws h k = same (walk ws at_prog) p q (complete p ws h) (complete q ws k)
