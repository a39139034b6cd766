use Rattle.std.proofs.Common.{◌≡◌, ◌≤◌, ◌+◌, drop}
use Rattle.fs_ast.specs.MachineOfParts.{place_or_end, names_of}
use Rattle.hls_bind.proofs.renaming.place.Given as goal

abbrev pub invariant-loop-var : goal.invariant-loop-var
invariant-loop-var l = record {
  few : l.place ≤ l.var-index;
  left : l.place + place_or_end (names_of (drop l.var-index l.vars)) l.name ≡ place_or_end (names_of l.vars) l.name;
}
