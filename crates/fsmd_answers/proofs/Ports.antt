-- No input of a machine that bytes spell is a port.
use Rattle.std.proofs.Common.{ℕ, List, sym, subst}
use Rattle.std.specs.Prelude.{IsTrue}
use Rattle.fs_model.specs.Machines.{Fsmd}
use Rattle.fs_lex.proofs.Read.{read_is_well_formed}
use Rattle.fs_lex.proofs.Texts.{reads}
use Rattle.hls_shrink.specs.Given.{has_no_input_port}
use Rattle.hls_shrink.proofs.ByName.{no_input_ports}
use Rattle.fsmd_answers.specs.MachineFiles.{SpellsMachine}

pub no_input_port : (m : Fsmd) (bytes : List ℕ) → SpellsMachine m bytes → IsTrue (has_no_input_port m)
no_input_port m bytes s =
    let formed = read_is_well_formed bytes s.parts (reads bytes s.parts s.spells.spells) in
    subst (λ (x : Fsmd). IsTrue (has_no_input_port x)) (sym s.machine) (no_input_ports s.parts formed)
