use Rattle.std.proofs.Common.{rules, map, ap, sym, subst, ◌∙◌}
use Rattle.nf_terms.specs.Computed.{Answers, Done}
use Rattle.sym_paths.specs.View.{post_in}
use Rattle.propagate.proofs.RebaseWhole.{AfterFirst, AfterSecond, first_done, second_done}
use Rattle.propagate.proofs.rebases.rebase_from.Goals.{After-as_slice, After-as_slice-2}
use Rattle.propagate.proofs.rebases.rebase_from.Goals as goal

after_first : (c : After-as_slice) → AfterFirst (post_in c.args.post.now) c.args.p.now c.as_slice.result.now c.first_pass.new.meanings
after_first c =
    let e = c.as_slice.ensures.value in
    first_done (post_in c.args.post.now) c.args.p.now c.positions.result.now c.args.meanings.now c.first_pass.new.meanings c.as_slice.result.now
    c.positions.ensures c.requires
    (ap (map (λ m. m.position)) e ∙ c.in_ok-first.ensures.positions)
    (c.in_ok-first.ensures.held ∙ ap (λ xs. record { free = map (λ m. m.is_free) xs; meanings = c.first_pass.new.meanings }) (sym e))

after_second : (c : After-as_slice-2) → AfterFirst (post_in c.args.post.now) c.args.p.now c.as_slice.result.now c.first_pass.new.meanings
    → AfterSecond (post_in c.args.post.now) c.args.p.now c.as_slice-2.result.now c.second_pass.new.meanings
after_second c a =
    let e = c.as_slice-2.ensures.value in
    second_done (post_in c.args.post.now) c.args.p.now c.first_pass.new.meanings c.second_pass.new.meanings c.as_slice.result.now c.as_slice-2.result.now a
    (ap (map (λ m. m.position)) e ∙ c.in_ok-second.ensures.positions ∙ ap (map (λ m. m.position)) c.as_slice.ensures.value ∙ c.in_ok-first.ensures.positions
    ∙ c.positions.ensures)
    (c.in_ok-second.ensures.held ∙ ap (λ xs. Done (record { free = map (λ m. m.is_free) xs; meanings = c.second_pass.new.meanings })) (sym e))

pub returns-in_err-second : goal.returns-in_err-second
returns-in_err-second c = subst (λ z. Answers c.from_residual-in_err-second.result z)
    (after_first (goal.at.returns-in_err-second c).After-as_slice) (search rules)

pub fact_over-requires : goal.fact_over-requires
fact_over-requires c =
    let at = goal.at.fact_over-requires c in
    after_second at.After-as_slice-2 (after_first at.After-as_slice)
