use Rattle.std.proofs.Common.{◌<◌, [], sym, ◌∙◌, subst, rules}
use Rattle.nf_terms.specs.TermLimits.{size_limit}
use Rattle.nf_terms.specs.declared.symbols.Sort.TheVariants as sort
use Rattle.term_values.specs.TermFaults.{IsRefusedAsTerm}
use Rattle.term_values.specs.SumTallies.{HasTally}
use Rattle.term_values.proofs.Tallies.{long_refused, refusal_refused}
use Rattle.term_values.proofs.sums.long_sum_refusal.Goals as goal

pub returns-then-tally-gt-SIZE_LIMIT : goal.returns-then-tally-gt-SIZE_LIMIT
returns-then-tally-gt-SIZE_LIMIT g c =
    let shallow = sym c.is_shallow.ensures ∙ c.if-not-is_shallow.false in
    let past : size_limit < c.in-Ok.tally.count = search rules in
    subst (IsRefusedAsTerm (g.N.Names.find c.args.names.now) sort.Scalar c.args.bytes.now) (sym c.fault_of.ensures)
    (long_refused (g.N.Names.find c.args.names.now) c.args.bytes.now c.in-Ok.tally shallow c.in-Ok.ensures past)

pub returns-in-Err : goal.returns-in-Err
returns-in-Err g c = subst (IsRefusedAsTerm (g.N.Names.find c.args.names.now) sort.Scalar c.args.bytes.now) (sym c.from.ensures)
    (refusal_refused (g.N.Names.find c.args.names.now) c.args.bytes.now (HasTally (g.N.Names.find c.args.names.now) c.args.bytes.now []) c.in-Err.refusal
    c.in-Err.ensures)
