use Rattle.std.proofs.Common.{◌≡◌, ℕ, ◌<◌, true}
use Rattle.std.specs.Prelude.{◌⊎◌}
use Rattle.std.specs.Option.{is_some}
use Rattle.fs_rules.specs.TargetWalks.{is_cut, pass_at, AreSettledWalks}
use Rattle.fs_rules.proofs.uncut_cycles.find_endless.Given as goal

abbrev pub invariant-loop-start : goal.invariant-loop-start
invariant-loop-start l = record {
  settled : AreSettledWalks l.next l.cut l.walks.passes.items l.walks.verdicts.items l.walks.found.items;
  seen : (q : ℕ) → q < l.start → (is_cut l.cut q ≡ true) ⊎ (is_some (pass_at l.walks.passes.items q) ≡ true);
}
