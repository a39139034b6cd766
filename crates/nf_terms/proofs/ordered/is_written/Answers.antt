use Rattle.std.proofs.Common.{◌+◌, ◌||◌, is_eq, ap, sym, ◌∙◌, map, drop}
use Rattle.std.proofs.lemmas.List.{at_drop_all}
use Rattle.fs_model.proofs.Lists.{map_drop_next}
use Rattle.nf_trees.specs.NormalTerms.{writes_of}
use Rattle.nf_terms.specs.Normal.{is_written}
use Rattle.nf_trees.specs.View.{polynomial_in, write_in}
use Rattle.nf_terms.proofs.ordered.is_written.Goals as goal

pub returns-then-is_eq : goal.returns-then-is_eq
returns-then-is_eq c =
    let index = polynomial_in c.args.index.now in
    let xs = c.args.writes.now in
    let i = c.loop-other.other-index in
    let x = c.loop-other-item.result in
    ap (λ b. b || is_written index (writes_of (map write_in (drop (i + 1) xs)))) (sym c.if-is_eq.true ∙ c.is_eq.ensures ∙ ap is_eq c.compare_polys.ensures)
    ∙ ap (λ ys. is_written index (writes_of ys)) (sym (map_drop_next write_in xs i x c.loop-other-test.true c.loop-other-item.is))
    ∙ c.loop-other.invariant

pub loop-other-preserved : goal.loop-other-preserved
loop-other-preserved c =
    let index = polynomial_in c.args.index.now in
    let xs = c.args.writes.now in
    let i = c.loop-other.other-index in
    let x = c.loop-other-item.result in
    ap (λ b. b || is_written index (writes_of (map write_in (drop (i + 1) xs)))) (sym c.if-is_eq.false ∙ c.is_eq.ensures ∙ ap is_eq c.compare_polys.ensures)
    ∙ ap (λ ys. is_written index (writes_of ys)) (sym (map_drop_next write_in xs i x c.loop-other-test.true c.loop-other-item.is))
    ∙ c.loop-other.invariant

pub returns : goal.returns
returns c =
    sym (at_drop_all (λ ys. is_written (polynomial_in c.args.index.now) (writes_of (map write_in ys))) c.args.writes.now c.loop-other.other-index
    c.loop-other-test.false)
    ∙ c.loop-other.invariant
