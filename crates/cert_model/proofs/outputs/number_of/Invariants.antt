use Rattle.std.proofs.Common.{◌≡◌, drop}
use Rattle.std.specs.List.{position_from}
use Rattle.std.specs.Str.{bytes_eq}
use Rattle.cert_model.proofs.outputs.number_of.Given as goal

abbrev pub invariant-loop-number : goal.invariant-loop-number
invariant-loop-number l = position_from (λ u. bytes_eq u.name l.name) l.number (drop l.number l.vars) ≡ position_from (λ u. bytes_eq u.name l.name) 0 l.vars
