use Rattle.std.proofs.Common.{map, ap, ◌∙◌}
use Rattle.std.specs.List.{position_from}
use Rattle.nf_rel.specs.View.{literal_in}
use Rattle.sym_facts.specs.PositionSets.{is_unsolved_in}
use Rattle.sym_facts.specs.View.{position_in}
use Rattle.sym_facts.proofs.MentionedPositions.{first_is}
use Rattle.sym_facts.proofs.parts.first_unsolved.Goals as goal

pub returns : goal.returns
returns c =
    let qs = map position_in c.args.positions.now in
    c.first_unsolved_in.ensures ∙ ap (λ s. position_from (is_unsolved_in s) 0 qs) c.in_ok-mentioned.ensures
    ∙ first_is (record { positions = qs; literals = map literal_in c.args.literals.now })
