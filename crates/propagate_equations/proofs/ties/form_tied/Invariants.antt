use Rattle.std.proofs.Common.{◌≡◌, map, drop}
use Rattle.propagate_equations.specs.Ties.{form_tied}
use Rattle.propagate_equations.specs.View.{freed_in}
use Rattle.propagate_equations.proofs.ties.form_tied.Given as goal

abbrev pub invariant-loop-other : goal.invariant-loop-other
invariant-loop-other l = form_tied l.v l.p l.form (map freed_in (drop l.other-index l.freed)) ≡ form_tied l.v l.p l.form (map freed_in l.freed)
