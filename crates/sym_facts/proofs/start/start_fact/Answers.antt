use Rattle.std.proofs.Common.{map, ap, ◌∙◌}
use Rattle.nf_rel.specs.View.{literal_in}
use Rattle.sym_facts.specs.Starts.{start_position}
use Rattle.sym_facts.specs.View.{position_in}
use Rattle.sym_facts.proofs.Kept.{start_kept}
use Rattle.sym_facts.proofs.start.start_fact.Goals as goal

pub of-requires : goal.of-requires
of-requires c =
    start_kept c.args.p.now (map position_in c.in_ok-positions.positions.items) (map literal_in c.new.result.items) c.holds.ensures
    (c.in_ok-positions.ensures ∙ ap (λ ps. map (start_position ps) ps) c.positions.ensures) (ap (map literal_in) c.new.ensures.items)
