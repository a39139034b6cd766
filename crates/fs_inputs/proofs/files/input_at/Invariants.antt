use Rattle.std.proofs.Common.{◌≡◌, ◌≤◌, ◌+◌, drop}
use Rattle.std.specs.Option.{option_map}
use Rattle.fs_stores.specs.InputValues.{input_signatures, sort_named}
use Rattle.fs_inputs.specs.Steps.{input_place}
use Rattle.fs_inputs.proofs.files.input_at.Given as goal

abbrev pub invariant-loop-var : goal.invariant-loop-var
invariant-loop-var l = record {
  few : l.place ≤ l.var-index;
  places : option_map (λ k. l.place + k) (input_place (input_signatures (drop l.var-index l.var-items)) l.name)
      ≡ input_place (input_signatures l.var-items) l.name;
  sorts : sort_named (input_signatures (drop l.var-index l.var-items)) l.name ≡ sort_named (input_signatures l.var-items) l.name;
}
