use Rattle.std.proofs.Common.{◌+◌, map, drop, ap, sym, ◌∙◌}
use Rattle.std.proofs.lemmas.List.{at_drop_all}
use Rattle.fs_model.proofs.Lists.{map_drop_next}
use Rattle.nf_trees.specs.NormalTerms.{polynomial_of}
use Rattle.nf_trees.specs.View.{term_in}
use Rattle.nf_bank.specs.Atoms.{with_terms}
use Rattle.nf_bank.proofs.Fronts.{front_trans}
use Rattle.nf_substitution.proofs.kept_atoms.put_terms.Goals as goal

pub loop-mono-preserved : goal.loop-mono-preserved
loop-mono-preserved c =
    let xs = c.deref-mono-items.result.now in
    let i = c.loop-mono.mono-index in
    record {
      kept = ap (with_terms (polynomial_of (map term_in (drop (i + 1) xs)))) c.in_ok-put_monomial.ensures.kept
          ∙ ap (λ ys. with_terms (polynomial_of ys) c.loop-mono.bank)
          (sym (map_drop_next term_in xs i c.loop-mono-item.result c.loop-mono-test.true c.loop-mono-item.is))
          ∙ c.loop-mono.invariant.kept;
      front = front_trans _ _ _ c.loop-mono.invariant.front c.in_ok-put_monomial.ensures.front;
    }

pub returns-clause-kept : goal.returns-clause-kept
returns-clause-kept c =
    sym (at_drop_all (λ ys. with_terms (polynomial_of (map term_in ys)) c.loop-mono.bank)
    c.deref-mono-items.result.now c.loop-mono.mono-index c.loop-mono-test.false)
    ∙ c.loop-mono.invariant.kept

pub returns-clause-front : goal.returns-clause-front
returns-clause-front c = c.loop-mono.invariant.front

pub returns-in_err-put_monomial-clause-front : goal.returns-in_err-put_monomial-clause-front
returns-in_err-put_monomial-clause-front c = front_trans _ _ _ c.loop-mono.invariant.front c.in_err-put_monomial.ensures.front
