use Rattle.std.proofs.Common.{◌≡◌, ◌++◌, take}
use Rattle.std.specs.Prelude.{map}
use Rattle.fs_rules.specs.Places.{declared_of}
use Rattle.fs_rules.proofs.scope.declare.Given as goal

abbrev pub invariant-loop-name : goal.invariant-loop-name
invariant-loop-name l = record {
  vars : l.out.vars.items ≡ l.initial.out.vars.items ++ map (λ n. record { name = n; role = l.decl.role; sort = l.decl.sort }) (take l.name-index l.name-items);
  declared : map declared_of l.out.declared.items ≡ map declared_of l.initial.out.declared.items
      ++ map (λ n. (l.decl.line, n)) (take l.name-index l.name-items);
}
