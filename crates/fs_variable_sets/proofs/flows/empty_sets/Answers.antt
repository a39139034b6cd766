use Rattle.std.proofs.Common.{◌∙◌, ◌+◌, ap, length, List}
use Rattle.std.proofs.lemmas.List.{length_push}
use Rattle.fs_variable_sets.specs.declared.VariableSet.{VariableSet}
use Rattle.fs_variable_sets.specs.Flows.{has_at}
use Rattle.fs_variable_sets.proofs.Grows.{none_at_first, none_pushed}
use Rattle.fs_variable_sets.proofs.flows.empty_sets.Goals as goal

pub loop-init : goal.loop-init
loop-init c = (λ q x. ap (λ (ss : List VariableSet). has_at ss q x) c.new-out.ensures.items ∙ none_at_first q x, ap length c.new-out.ensures.items)

pub loop-preserved : goal.loop-preserved
loop-preserved c = (
  (λ q x. ap (λ (ss : List VariableSet). has_at ss q x) c.in_ok-push.ensures.items
      ∙ none_pushed c.loop.out.items c.empty.result c.loop.invariant.0 c.empty.ensures q x),
  ap length c.in_ok-push.ensures.items ∙ length_push c.loop.out.items c.empty.result ∙ ap (λ n. n + 1) c.loop.invariant.1,
)
