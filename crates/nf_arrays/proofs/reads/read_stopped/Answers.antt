use Rattle.std.proofs.Common.{ap, sym, subst, ◌∙◌}
use Rattle.nf_trees.specs.NormalTerms.{Read, Over}
use Rattle.nf_trees.specs.View.{polynomial_in}
use Rattle.nf_trees.specs.Order.{same_polynomial}
use Rattle.nf_terms.specs.Normal.{IsNormal, stays_read}
use Rattle.nf_terms.specs.Computed.{Answers, Done}
use Rattle.nf_arrays.specs.NewAtoms.{new_atom}
use Rattle.nf_arrays.specs.Writes.{read_here}
use Rattle.nf_arrays.proofs.Stopping.{writes_in, no_writes, value_normal, read_same, read_other, stays_other}
use Rattle.nf_arrays.proofs.reads.read_stopped.Goals as goal

pub returns-in_ok-number-in-Zero : goal.returns-in_ok-number-in-Zero
returns-in_ok-number-in-Zero c =
    let none = no_writes c.args.writes.now c.in-None.ensures.cases in
    (λ k. read_here (Over (c.in-Zero.is k) (writes_in (none k))) c.args.i.now) ∙ ap Done (sym c.in_ok-number-in-Zero.ensures)

pub read_atom-requires-clause-normal : goal.read_atom-requires-clause-normal
read_atom-requires-clause-normal c = c.requires.normal

pub read_atom-requires-clause-stays : goal.read_atom-requires-clause-stays
read_atom-requires-clause-stays c =
    let none = no_writes c.args.writes.now c.in-None.ensures.cases in
    λ k. stays_read (Over (c.in-Sym.is k) (writes_in (none k))) c.args.i.now

pub returns-in-Sym : goal.returns-in-Sym
returns-in-Sym c =
    let none = no_writes c.args.writes.now c.in-None.ensures.cases in
    subst (Answers c.read_atom.result)
    ((λ k. new_atom (Read (Over (c.in-Sym.is k) (writes_in (none k))) c.args.i.now))
    ∙ (λ k. read_here (Over (sym c.in-Sym.is k) (writes_in (sym none k))) c.args.i.now)) c.read_atom.ensures

pub read_atom-requires-in-Some-clause-normal : goal.read_atom-requires-in-Some-clause-normal
read_atom-requires-in-Some-clause-normal c = c.requires.normal

pub from_normal-requires : goal.from_normal-requires
from_normal-requires c =
    subst IsNormal (sym c.in_ok-try_clone-in-Some.ensures)
    (value_normal c.args.i.now c.args.writes.now c.in-Some._earlier.now c.in-Some.field-0-0.now c.in-Some.ensures.cases.0 c.args.base c.requires.normal)

pub returns-then-is_same : goal.returns-then-is_same
returns-then-is_same c =
    read_same c.args.i.now c.args.writes.now c.in-Some._earlier.now c.in-Some.field-0-0.now c.in-Some.ensures.cases.0 c.args.base
    (sym (c.is_same.ensures ∙ ap (same_polynomial (polynomial_in c.in-Some.field-0-0.now.0)) c.tree.ensures.same) ∙ c.if-is_same.true)
    ∙ ap Done (sym (c.from_normal.ensures ∙ c.in_ok-try_clone-in-Some.ensures))

pub read_atom-requires-in-Some-clause-stays : goal.read_atom-requires-in-Some-clause-stays
read_atom-requires-in-Some-clause-stays c =
    stays_other c.args.i.now c.args.writes.now c.in-Some._earlier.now c.in-Some.field-0-0.now c.in-Some.ensures.cases.0 c.args.base c.requires.stops
    c.requires.normal.ordered c.size-size.ensures.normal.ordered
    (sym (c.is_same.ensures ∙ ap (same_polynomial (polynomial_in c.in-Some.field-0-0.now.0)) c.tree.ensures.same) ∙ c.if-is_same.false)

pub returns-else-is_same : goal.returns-else-is_same
returns-else-is_same c =
    subst (Answers c.read_atom-in-Some.result)
    (sym
    (read_other c.args.i.now c.args.writes.now c.in-Some._earlier.now c.in-Some.field-0-0.now c.in-Some.ensures.cases.0 c.args.base
    (sym (c.is_same.ensures ∙ ap (same_polynomial (polynomial_in c.in-Some.field-0-0.now.0)) c.tree.ensures.same) ∙ c.if-is_same.false)))
    c.read_atom-in-Some.ensures
