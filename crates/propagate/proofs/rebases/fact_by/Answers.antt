use Rattle.std.proofs.Common.{rules, ◌≡◌, map, ap, sym, subst, ◌∙◌}
use Rattle.nf_rel.specs.View.{literal_in}
use Rattle.nf_terms.specs.Computed.{Answers, Done, after}
use Rattle.sym_paths.specs.View.{post_in}
use Rattle.sym_facts.specs.View.{position_in}
use Rattle.propagate.specs.Rebases.{rebase}
use Rattle.propagate.specs.RebaseSteps.{conditions_kept}
use Rattle.propagate.proofs.RebaseWhole.{AfterThird, third_done, all_done, rebase_kept}
use Rattle.propagate.proofs.Stops.{stopped}
use Rattle.propagate.proofs.rebases.fact_by.Goals.{After-as_slice, In_ok-conds}
use Rattle.propagate.proofs.rebases.fact_by.Goals as goal

after_third : (c : After-as_slice)
    → AfterThird (post_in c.args.post.now) c.args.p.now (map position_in c.in_ok-positions.positions.items) c.args.meanings.now
    (map literal_in c.as_slice.result.now)
after_third c =
    third_done (post_in c.args.post.now) c.args.p.now c.args.meanings.now c.args.positions.now (map position_in c.in_ok-positions.positions.items)
    (map literal_in c.as_slice.result.now) c.requires.leads c.in_ok-positions.ensures.answers (ap (map literal_in) c.as_slice.ensures.value)

whole : (c : In_ok-conds) → AfterThird (post_in c.args.post.now) c.args.p.now (map position_in c.in_ok-positions.positions.items) c.args.meanings.now
    (map literal_in c.as_slice.result.now)
    → rebase (post_in c.args.post.now) c.args.p.now
    ≡ Done (record { positions = map position_in c.in_ok-positions.positions.items; literals = map literal_in c.in_ok-conds.conds.items })
whole c a = all_done (post_in c.args.post.now) c.args.p.now c.args.meanings.now (map position_in c.in_ok-positions.positions.items)
    (map literal_in c.as_slice.result.now) (map literal_in c.in_ok-conds.conds.items) a c.in_ok-conds.ensures.answers

pub returns-in_err-positions : goal.returns-in_err-positions
returns-in_err-positions c = subst (λ z. Answers c.from_residual.result z) c.requires.leads (search rules)

pub returns-in_err-conds : goal.returns-in_err-conds
returns-in_err-conds c =
    let at = goal.at.returns-in_err-conds c in
    let qs = map position_in c.in_ok-positions.positions.items in
    let done : after (conditions_kept c.args.meanings.now (map literal_in c.as_slice.result.now))
    (λ ks. Done (record { positions = qs; literals = ks })) ≡ rebase (post_in c.args.post.now) c.args.p.now = after_third at.After-as_slice in
    subst (λ z. Answers c.from_residual-in_err-conds.result z) done
    (stopped c.from_residual-in_err-conds.result c.in_err-conds.field-0.0 (conditions_kept c.args.meanings.now (map literal_in c.as_slice.result.now))
    (λ ks. Done (record { positions = qs; literals = ks })) c.from_residual-in_err-conds.ensures.1 c.in_err-conds.ensures.answers)

pub of-requires : goal.of-requires
of-requires c =
    let at = goal.at.of-requires c in
    rebase_kept c.args.p.now (post_in c.args.post.now)
    (record { positions = map position_in c.in_ok-positions.positions.items; literals = map literal_in c.in_ok-conds.conds.items })
    (whole at.In_ok-conds (after_third at.After-as_slice)) c.holds.ensures c.in_ok-conds.ensures.kept

pub returns : goal.returns
returns c =
    let at = goal.at.returns c in
    whole at.In_ok-conds (after_third at.After-as_slice) ∙ ap Done (sym c.of.ensures)
