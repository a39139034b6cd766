use Rattle.std.proofs.Common.{◌≡◌, length, map, ap, ap₂, sym, subst, ◌∙◌, arith}
use Rattle.std.proofs.lemmas.List.{length-map}
use Rattle.std.specs.List.{position_from}
use Rattle.nf_rel.specs.View.{literal_in}
use Rattle.sym_facts.specs.Facts.{is_unsolved}
use Rattle.sym_facts.specs.Pairings.{IsFactOf}
use Rattle.sym_facts.specs.FactParts.{with_equations, fact_of, IsKept}
use Rattle.sym_facts.specs.View.{position_in}
use Rattle.sym_facts.proofs.Kept.{few_parts, parts_kept, parts_of_pairing}
use Rattle.sym_facts.proofs.fact.Fact.of_shared.Goals as goal

pub first_unsolved-requires : goal.first_unsolved-requires
first_unsolved-requires c =
    let ps = c.args.p.now in
    let fs = c.args.defs.items in
    let items = c.in_ok-positions.positions.items in
    let made : map position_in items ≡ with_equations ps fs = c.in_ok-positions.ensures ∙ ap (λ qs. with_equations qs fs) c.positions.ensures in
    omega (
      arith,
      ap length c.as_slice.ensures.value,
      length-map items position_in,
      few_parts ps fs (map position_in items) c.holds.ensures c.requires.count made,
    )

pub of-requires : goal.of-requires
of-requires c =
    let ps = c.args.p.now in
    let fs = c.args.defs.items in
    let ls = map literal_in c.args.conds.items in
    let made : map position_in c.in_ok-positions.positions.items ≡ with_equations ps fs = c.in_ok-positions.ensures
    ∙ ap (λ qs. with_equations qs fs) c.positions.ensures in
    let read = ap₂ (λ qs ms. position_from (is_unsolved (record { positions = qs; literals = ms })) 0 qs) (ap (map position_in) c.as_slice.ensures.value ∙ made)
    (ap (map literal_in) c.as_slice-2.ensures.value) in
    subst (λ qs. IsKept (record { positions = qs; literals = ls })) (sym made)
    (parts_kept ps fs ls c.holds.ensures c.requires.count c.requires.sorts
    (omega (arith, length-map c.args.conds.items literal_in, c.requires.few)) c.requires.kept (sym read ∙ sym c.in_ok-first.ensures ∙ c.in-None.is))

pub returns-in-None-clause-pairing : goal.returns-in-None-clause-pairing
returns-in-None-clause-pairing c =
    let ps = c.args.p.now in
    let fs = c.args.defs.items in
    let ls = map literal_in c.args.conds.items in
    let made : map position_in c.in_ok-positions.positions.items ≡ with_equations ps fs = c.in_ok-positions.ensures
    ∙ ap (λ qs. with_equations qs fs) c.positions.ensures in
    let whole : c.of.result ≡ fact_of ps fs ls = c.of.ensures ∙ (λ k. record { positions = made k; literals = ls }) in
    subst (IsFactOf ps) (sym whole) (parts_of_pairing ps fs ls c.requires.count c.requires.sorts c.requires.equations c.requires.literals)
