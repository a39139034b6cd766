use Rattle.std.proofs.Common.{ap, sym, ◌∙◌}
use Rattle.nf_terms.specs.Computed.{Done}
use Rattle.nf_substitution.specs.StayingTerms.{terms_stay}
use Rattle.nf_substitution.proofs.Known.{known_more}
use Rattle.nf_substitution.proofs.Unchanged.{polynomial_stays}
use Rattle.nf_substitution.proofs.kept_terms.keep_poly.Goals as goal

pub returns-then-terms_stay-clause-answers : goal.returns-then-terms_stay-clause-answers
returns-then-terms_stay-clause-answers c =
    let v = c.args.vector.now in
    polynomial_stays v c.args.p.now c.terms_stay.result c.tree.ensures.normal (c.terms_stay.ensures ∙ ap (terms_stay v) c.tree.ensures.same)
    c.if-terms_stay.true
    ∙ ap Done (sym c.in_ok-try_clone.ensures)

pub returns-then-terms_stay-clause-known : goal.returns-then-terms_stay-clause-known
returns-then-terms_stay-clause-known c =
    known_more c.args.vector.now c.args.bank.now c.put_terms.new.bank c.args.memo.now c.put_terms.ensures.front c.requires

pub returns-in_err-put_terms-clause-known : goal.returns-in_err-put_terms-clause-known
returns-in_err-put_terms-clause-known c =
    known_more c.args.vector.now c.args.bank.now c.put_terms.new.bank c.args.memo.now c.put_terms.ensures.front c.requires

pub returns-in_err-try_clone-clause-known : goal.returns-in_err-try_clone-clause-known
returns-in_err-try_clone-clause-known c =
    known_more c.args.vector.now c.args.bank.now c.put_terms.new.bank c.args.memo.now c.put_terms.ensures.front c.requires
