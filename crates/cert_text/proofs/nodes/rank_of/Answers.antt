use Rattle.std.proofs.Common.{◌≤◌, arith, subst, sym}
use Rattle.cert_values.specs.View.{view}
use Rattle.cert_text.proofs.Shapes.{rank_low}
use Rattle.cert_text.proofs.nodes.rank_of.Goals as goal

pub overflow_cast-result : goal.overflow_cast-result
overflow_cast-result c =
    let low : c.number_at.result ≤ 4096 = subst (λ n. n ≤ 4096) (sym c.number_at.ensures) (rank_low (view c.args.value.now) c.requires) in
    omega (arith, low)

pub returns-clause-low : goal.returns-clause-low
returns-clause-low c = subst (λ n. n ≤ 4096) (sym c.number_at.ensures) (rank_low (view c.args.value.now) c.requires)
