use Rattle.std.proofs.Common.{◌≡◌, ◌++◌, sym, subst, ◌∙◌}
use Rattle.std.specs.Prelude.{OnOk}
use Rattle.term_writer.proofs.Integers.{nothing}
use Rattle.term_writer.proofs.terms.+writer.Goals as goal

pub put_polynomial-returns-then-has_no_terms : goal.put_polynomial-returns-then-has_no_terms
put_polynomial-returns-then-has_no_terms g t c =
    subst (λ xs. OnOk c.put.result (c.put.new.out.items ≡ c.args.out.now.items ++ xs))
    (sym
    (nothing (g.N.PositionNames.name c.args.names.now) c.args.polynomial.now c.deref.result.now c.deref.ensures.value
    (sym c.has_no_terms.ensures ∙ c.if-has_no_terms.true))) c.put.ensures
