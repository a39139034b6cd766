use Rattle.std.proofs.Common.{◌≡◌, drop}
use Rattle.std.specs.List.{list_all}
use Rattle.propagate_equations.specs.Equations.{is_held}
use Rattle.propagate_equations.proofs.held_symbols.are_held.Given as goal

abbrev pub invariant-loop-p : goal.invariant-loop-p
invariant-loop-p l = list_all (is_held l.meanings) (drop l.p-index l.symbols) ≡ list_all (is_held l.meanings) l.symbols
