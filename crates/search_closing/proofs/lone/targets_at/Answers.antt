use Rattle.std.proofs.Common.{inl, inr, ap, sym, ◌∙◌}
use Rattle.cert_bisimulation.specs.declared.mode.Mode.TheVariants.{Both}
use Rattle.search_tables.specs.Modes.{Found}
use Rattle.search_tables.specs.Next.{paths_in}
use Rattle.search_tables.specs.LoneMoves.{lone_in}
use Rattle.search_tables.specs.View.{table_in, search_node_in}
use Rattle.search_closing.specs.View.{covered_machines}
use Rattle.search_closing.proofs.Targets.{none_by_both}
use Rattle.search_closing.proofs.lone.targets_at.Goals as goal

pub returns-in-Both-clause-targets : goal.returns-in-Both-clause-targets
returns-in-Both-clause-targets c =
    let m = covered_machines c.args.table.now.machines.now in
    let T = table_in c.args.table.now.nodes.now in
    let n = search_node_in c.args.node.now in
    elim c.in-Both.is [
      | inl e ↦ c.new.ensures.items ∙ sym (none_by_both m T n (paths_in m n Both)) ∙ ap (lone_in m T n) (sym (c.requires.mode ∙ ap (λ x. Found x) e))
      | inr e ↦ c.new.ensures.items ∙ ap (lone_in m T n) (sym (c.requires.mode ∙ ap (λ x. Found x) e))
    ]
