use Rattle.std.proofs.Common.{◌≡◌, take}
use Rattle.std.specs.Prelude.{map}
use Rattle.fs_stores.specs.Values.{content_of, sort_of}
use Rattle.fs_stores.specs.InputValues.{inputs_of, first_content}
use Rattle.fs_stores.proofs.inputs.start.Given as goal

abbrev pub invariant-loop-var : goal.invariant-loop-var
invariant-loop-var l = record {
  contents : map content_of l.values.items ≡ map (first_content (inputs_of l.inputs)) (take l.var-index l.var-items);
  sorts : map sort_of l.values.items ≡ map (λ v. v.sort) (take l.var-index l.var-items);
}
