use Rattle.std.proofs.Common.{◌≡◌, take}
use Rattle.std.specs.Prelude.{map}
use Rattle.fs_stores.specs.InputValues.{input_signatures, signature, AllZero}
use Rattle.fs_stores.proofs.inputs.Inputs.zero.Given as goal

abbrev pub invariant-loop-var : goal.invariant-loop-var
invariant-loop-var l = record {
  signatures : map signature l.items.items ≡ input_signatures (take l.var-index l.var-items);
  zero : AllZero l.items.items;
}
