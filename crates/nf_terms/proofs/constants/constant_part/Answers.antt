use Rattle.std.proofs.Common.{rules, ◌+◌, cond, map, drop, FitsSigned, ap, sym, ◌∙◌}
use Rattle.std.specs.Int.{w128}
use Rattle.std.proofs.lemmas.Int.{to_z-of_z}
use Rattle.std.proofs.lemmas.List.{at_drop_all}
use Rattle.fs_model.proofs.Lists.{map_drop_next}
use Rattle.nf_trees.specs.NormalTerms.{polynomial_of}
use Rattle.nf_trees.specs.View.{monomial_in, term_in}
use Rattle.nf_terms.specs.Normal.{constant_part}
use Rattle.nf_terms.proofs.Steps.{constant_part_step}
use Rattle.nf_terms.proofs.constants.constant_part.Goals as goal

pub loop-mono-preserved : goal.loop-mono-preserved
loop-mono-preserved c =
    let xs = c.deref-mono-items.result.now in
    let i = c.loop-mono.mono-index in
    let x = c.loop-mono-item.result in
    let rest = polynomial_of (map term_in (drop (i + 1) xs)) in
    sym (ap (λ ts. constant_part (polynomial_of ts)) (map_drop_next term_in xs i x c.loop-mono-test.true c.loop-mono-item.is)
    ∙ constant_part_step (monomial_in x.0) x.1 rest
    ∙ ap (λ b. cond b (constant_part rest) x.1) (sym c.has_atoms.ensures ∙ c.if-not-has_atoms.false))
    ∙ c.loop-mono.invariant

pub returns : goal.returns
returns c =
    sym (at_drop_all (λ ts. constant_part (polynomial_of (map term_in ts))) c.deref-mono-items.result.now c.loop-mono.mono-index c.loop-mono-test.false)
    ∙ c.loop-mono.invariant

pub returns-then-not-has_atoms : goal.returns-then-not-has_atoms
returns-then-not-has_atoms c =
    let xs = c.deref-mono-items.result.now in
    let i = c.loop-mono.mono-index in
    let x = c.loop-mono-item.result in
    let rest = polynomial_of (map term_in (drop (i + 1) xs)) in
    let fits : FitsSigned w128 x.1 = search rules in
    to_z-of_z w128 x.1 fits
    ∙ sym (ap (λ ts. constant_part (polynomial_of ts)) (map_drop_next term_in xs i x c.loop-mono-test.true c.loop-mono-item.is)
    ∙ constant_part_step (monomial_in x.0) x.1 rest
    ∙ ap (λ b. cond b (constant_part rest) x.1) (sym c.has_atoms.ensures ∙ c.if-not-has_atoms.true))
    ∙ c.loop-mono.invariant
