use Rattle.std.proofs.Common.{◌≡◌, true, take, ◌^◌}
use Rattle.std.specs.Prelude.{pos, int_lt}
use Rattle.std.specs.List.{list_all}
use Rattle.fs_ast.proofs.machine.see_numbers.Given as goal

abbrev pub invariant-loop-number : goal.invariant-loop-number
invariant-loop-number l = list_all (λ n. int_lt n (pos (2 ^ 127))) (take l.number-index l.numbers) ≡ true
