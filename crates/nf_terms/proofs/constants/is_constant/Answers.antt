use Rattle.std.proofs.Common.{◌+◌, ◌&&◌, not, map, drop, ap, sym, ◌∙◌}
use Rattle.fs_model.proofs.Lists.{map_drop_next}
use Rattle.nf_trees.specs.NormalTerms.{polynomial_of}
use Rattle.nf_trees.specs.View.{monomial_in, term_in}
use Rattle.nf_terms.specs.Normal.{is_constant}
use Rattle.nf_terms.proofs.Steps.{constant_step}
use Rattle.nf_terms.proofs.constants.is_constant.Goals as goal

pub loop-mono-preserved : goal.loop-mono-preserved
loop-mono-preserved c =
    let xs = c.deref-mono-items.result.now in
    let i = c.loop-mono.mono-index in
    let x = c.loop-mono-item.result in
    let rest = polynomial_of (map term_in (drop (i + 1) xs)) in
    sym (ap (λ ts. is_constant (polynomial_of ts)) (map_drop_next term_in xs i x c.loop-mono-test.true c.loop-mono-item.is)
    ∙ constant_step (monomial_in x.0) x.1 rest
    ∙ ap (λ b. not b && is_constant rest) (sym c.has_atoms.ensures ∙ c.if-has_atoms.false))
    ∙ c.loop-mono.invariant
