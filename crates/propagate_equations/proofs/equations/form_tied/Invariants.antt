use Rattle.std.proofs.Common.{◌≡◌, drop}
use Rattle.propagate_equations.specs.Equations.{form_tied}
use Rattle.propagate_equations.proofs.equations.form_tied.Given as goal

abbrev pub invariant-loop-q : goal.invariant-loop-q
invariant-loop-q l = form_tied l.v l.form (drop l.q-index l.freed) ≡ form_tied l.v l.form l.freed
