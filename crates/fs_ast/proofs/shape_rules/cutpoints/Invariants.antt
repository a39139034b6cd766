use Rattle.std.proofs.Common.{◌≡◌, ℕ, ◌<◌, length}
use Rattle.std.specs.Prelude.{map}
use Rattle.fs_model.specs.SoundMachines.{is_cutpoint}
use Rattle.fs_branches.specs.NumberedParts.{state_with_line}
use Rattle.fs_rules.specs.TargetWalks.{is_cut}
use Rattle.fs_ast.specs.Shapes.{skeleton}
use Rattle.fs_ast.proofs.shape_rules.cutpoints.Given as goal

abbrev pub invariant-loop-place : goal.invariant-loop-place
invariant-loop-place l = record {
  count : length l.cut.items ≡ l.place;
  cuts : (q : ℕ) → q < l.place → is_cut l.cut.items q ≡ is_cutpoint (skeleton (map state_with_line l.states) l.reset) q;
}
