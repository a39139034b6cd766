-- The text of parts with registers spells their machine.
use Rattle.std.proofs.Common.{◌≡◌, ◌∙◌, ℕ, List, sym, subst}
use Rattle.std.specs.Prelude.{Ok}
use Rattle.fs_model.specs.Machines.{Fsmd}
use Rattle.fs_model.specs.Source.{Source}
use Rattle.fs_ast.specs.MachineOfParts.{machine_of}
use Rattle.fs_grammar.specs.Grammar.{at_start, reading}
use Rattle.fs_lex.specs.Scan.{tokens_of}
use Rattle.fs_lex.proofs.Texts.{spells}
use Rattle.fs_write.specs.Canonical.{canonical}
use Rattle.fs_write.specs.CanonicalLines.{with_canonical_lines}
use Rattle.fs_write.proofs.Again.{only_lines}
use Rattle.fs_write.proofs.Unlined.{same_machine, same_law}
use Rattle.hls_bind.specs.Results.{IsYes}
use Rattle.fsmd_synthesis_answers.specs.BindingAnswers.{Binding, IsBoundText}

of_machine : (p : Source) (b : Binding) (q : Source) (k : Fsmd) (text : List ℕ) → IsYes p (machine_of p) b q k → text ≡ canonical q
    → reading (tokens_of text) at_start ≡ Ok (with_canonical_lines q) → IsBoundText p b text
of_machine p b q k text right is read =
    let s = with_canonical_lines q in
    record {
      bound = q;
      machine = k;
      yes = right;
      is = is;
      spelled = s;
      spells = spells text s read;
      lawful = same_law q s (only_lines q) right.built.lawful;
      same_machine = same_machine q s (only_lines q) ∙ sym right.built.spelled;
    }

pub is_bound : (p : Source) (m : Fsmd) (b : Binding) (q : Source) (k : Fsmd) (text : List ℕ) → m ≡ machine_of p → IsYes p m b q k → text ≡ canonical q
    → reading (tokens_of text) at_start ≡ Ok (with_canonical_lines q)
    → IsBoundText p b text
is_bound p m b q k text e right is read = of_machine p b q k text (subst (λ (z : Fsmd). IsYes p z b q k) e right) is read
