-- What a machine gets by a binding of its locals to registers.
use Rattle.std.specs.Prelude.{◌≡◌, ℕ, Bool, List}
use Rattle.fs_model.specs.Machines.{Fsmd}
use Rattle.fs_model.specs.Source.{Source}
use Rattle.fs_model.specs.VariableNames.{variable_name}
use Rattle.fs_ast.specs.MachineOfParts.{machine_of}
use Rattle.fs_ast.specs.Rules.{BreaksNoRule}
use Rattle.fs_ast.specs.StoredBranches.{state_name_of}
use Rattle.fs_lex.specs.MachineTexts.{TextSpells}
use Rattle.fs_write.specs.Canonical.{canonical}
use Rattle.hls_bind.specs.Conflicts.{Conflict, IsFirstConflict}
use Rattle.hls_bind.specs.Results.{IsYes}
use Rattle.fsmd_replies.specs.BindingTexts.{conflict_line}
use Rattle.fsmd_synthesis_answers.specs.declared.bindings.BindingAnswer.{BindingAnswer}
use Rattle.fsmd_synthesis_answers.specs.declared.bindings.BindingAnswer.TheVariants.{Bound, Lost}

-- locals by their numbers, each with the name of its register
abbrev pub Binding : Type 0
Binding = List (ℕ × List ℕ)

-- the line of a branch that loses a local by writing another, or writes both
abbrev pub conflict_text : Fsmd → Conflict → Bool → List ℕ
conflict_text m c twice = conflict_line (state_name_of m c.state) c.branch (variable_name m.variables c.written) twice
    (variable_name m.variables c.other)

-- no branch loses a local, and this is the canonical text of the parts with registers, whose machine behaves as before; what it
-- spells breaks no rule, and its machine is that one
pub record IsBoundText (p : Source) (b : Binding) (text : List ℕ) : Type 0 where
  pub bound : Source
  pub machine : Fsmd
  pub yes : IsYes p (machine_of p) b bound machine
  pub is : text ≡ canonical bound
  pub spelled : Source
  pub spells : TextSpells text spelled
  pub lawful : BreaksNoRule spelled
  pub same_machine : machine_of spelled ≡ machine

-- the line of the first branch that loses a local
pub record IsConflictLine (p : Source) (b : Binding) (line : List ℕ) : Type 0 where
  pub conflict : Conflict
  pub twice : Bool
  pub first : IsFirstConflict b (machine_of p) conflict twice
  pub is : line ≡ conflict_text (machine_of p) conflict twice

-- the answer is right
abbrev pub IsRightOf : Source → Binding → BindingAnswer → Type 0
IsRightOf p b (Bound text) = IsBoundText p b text.items
IsRightOf p b (Lost line) = IsConflictLine p b line.items
