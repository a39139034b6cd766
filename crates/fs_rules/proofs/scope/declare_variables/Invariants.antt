use Rattle.std.proofs.Common.{◌≡◌, take}
use Rattle.std.specs.Prelude.{map}
use Rattle.fs_model.specs.View.{declaration_of}
use Rattle.fs_rules.specs.MachineOfParts.{variables_of}
use Rattle.fs_rules.specs.Rules.{declared_names}
use Rattle.fs_rules.specs.Places.{declared_of}
use Rattle.fs_rules.proofs.scope.declare_variables.Given as goal

abbrev pub invariant-loop-decl : goal.invariant-loop-decl
invariant-loop-decl l = record {
  vars : l.out.vars.items ≡ variables_of (map declaration_of (take l.decl-index l.decls));
  declared : map declared_of l.out.declared.items ≡ declared_names (map declaration_of (take l.decl-index l.decls));
}
