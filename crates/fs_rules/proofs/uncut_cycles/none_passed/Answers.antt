use Rattle.std.proofs.Common.{◌∙◌, ap, ◌+◌, length, None}
use Rattle.std.proofs.lemmas.List.{length_push}
use Rattle.fs_rules.specs.TargetWalks.{pass_at}
use Rattle.fs_rules.proofs.Walks.{none_more}
use Rattle.fs_rules.proofs.uncut_cycles.none_passed.Goals as goal

pub none-preserved : goal.none-preserved
none-preserved c = record {
  none = λ q. ap (λ xs. pass_at xs q) c.in_ok-push_value.ensures ∙ none_more c.none.out.items q c.none.invariant.none;
  count = ap length c.in_ok-push_value.ensures ∙ length_push c.none.out.items None ∙ ap (λ n. n + 1) c.none.invariant.count;
}
