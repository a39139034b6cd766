use Rattle.std.proofs.Common.{sym, ◌∙◌}
use Rattle.term_text.specs.View.{written_monomial_in}
use Rattle.term_values.proofs.Tallies.{numbers_stay, names_stay, sorts_stay}
use Rattle.term_values.proofs.sums.with_monomial.Goals as goal

pub returns-then-monomial_passes-clause-numbers : goal.returns-then-monomial_passes-clause-numbers
returns-then-monomial_passes-clause-numbers g c = numbers_stay (g.N.Names.find c.args.names.now) (written_monomial_in c.args.monomial.now)
    c.args.tally.numbers (sym c.monomial_passes.ensures ∙ c.if-monomial_passes.true)

pub returns-then-monomial_passes-clause-names : goal.returns-then-monomial_passes-clause-names
returns-then-monomial_passes-clause-names g c = names_stay (g.N.Names.find c.args.names.now) (written_monomial_in c.args.monomial.now)
    c.args.tally.names (sym c.monomial_passes.ensures ∙ c.if-monomial_passes.true)

pub returns-then-monomial_passes-clause-sorts : goal.returns-then-monomial_passes-clause-sorts
returns-then-monomial_passes-clause-sorts g c = sorts_stay (g.N.Names.find c.args.names.now) (written_monomial_in c.args.monomial.now)
    c.args.tally.sorts (sym c.monomial_passes.ensures ∙ c.if-monomial_passes.true)
