-- The text of a compiled program spells what the program is compiled to.
use Rattle.std.proofs.Common.{◌≡◌, ◌∙◌, ℕ, List, sym, ap, subst}
use Rattle.std.specs.Prelude.{Ok}
use Rattle.fs_model.specs.Machines.{Fsmd}
use Rattle.fs_model.specs.Source.{Source}
use Rattle.fs_ast.specs.MachineOfParts.{machine_of}
use Rattle.fs_ast.specs.Rules.{BreaksNoRule}
use Rattle.fs_grammar.specs.Grammar.{at_start, reading}
use Rattle.fs_lex.specs.Scan.{tokens_of}
use Rattle.fs_lex.proofs.Texts.{spells}
use Rattle.fs_write.specs.Canonical.{canonical}
use Rattle.fs_write.specs.CanonicalLines.{with_canonical_lines}
use Rattle.fs_write.proofs.Again.{only_lines}
use Rattle.fs_write.proofs.Unlined.{same_machine, same_law}
use Rattle.hls_program_parts.specs.Programs.{Program}
use Rattle.hls_program_parts.specs.Compiled.{parts_of}
use Rattle.hls_program_parts.specs.ProgramMeaning.{DoesAs}
use Rattle.fsmd_synthesis_answers.specs.ProgramAnswers.{IsCompiledText}

of_parts : (program : Program) (text : List ℕ) → BreaksNoRule (parts_of program) → DoesAs program (machine_of (parts_of program))
    → text ≡ canonical (parts_of program)
    → reading (tokens_of text) at_start ≡ Ok (with_canonical_lines (parts_of program)) → IsCompiledText program text
of_parts program text lawful does is read =
    let p = parts_of program in
    let s = with_canonical_lines p in
    record {
      is_canonical = is;
      spelled = s;
      spells = spells text s read;
      same_parts = only_lines p;
      lawful = same_law p s (only_lines p) lawful;
      does = subst (DoesAs program) (sym (same_machine p s (only_lines p))) does;
    }

pub is_compiled : (program : Program) (p : Source) (m : Fsmd) (text : List ℕ) → p ≡ parts_of program → m ≡ machine_of (parts_of program)
    → BreaksNoRule (parts_of program) → DoesAs program m → text ≡ canonical p
    → reading (tokens_of text) at_start ≡ Ok (with_canonical_lines p) → IsCompiledText program text
is_compiled program p m text parts machine lawful does is read =
    of_parts program text lawful (subst (DoesAs program) machine does) (is ∙ ap canonical parts)
    (subst (λ (q : Source). reading (tokens_of text) at_start ≡ Ok (with_canonical_lines q)) parts read)

-- a program with such a text is compiled to parts that break no rule
pub parts_lawful : (program : Program) (text : List ℕ) → IsCompiledText program text → BreaksNoRule (parts_of program)
parts_lawful program text c = same_law c.spelled (parts_of program) (sym c.same_parts) c.lawful
