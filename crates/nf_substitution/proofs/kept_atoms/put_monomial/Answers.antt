use Rattle.std.proofs.Common.{◌+◌, map, drop, ap, sym, ◌∙◌}
use Rattle.std.proofs.lemmas.List.{at_drop_all}
use Rattle.fs_model.proofs.Lists.{map_drop_next}
use Rattle.nf_trees.specs.NormalTerms.{monomial_of}
use Rattle.nf_trees.specs.View.{atom_in}
use Rattle.nf_bank.specs.Atoms.{with_monomial}
use Rattle.nf_bank.proofs.Fronts.{front_trans}
use Rattle.nf_substitution.proofs.kept_atoms.put_monomial.Goals as goal

pub loop-atom-preserved : goal.loop-atom-preserved
loop-atom-preserved c =
    let xs = c.deref-atom-items.result.now in
    let i = c.loop-atom.atom-index in
    record {
      kept = ap (with_monomial (monomial_of (map atom_in (drop (i + 1) xs)))) c.in_ok-put.ensures.kept
          ∙ ap (λ ys. with_monomial (monomial_of ys) c.loop-atom.bank)
          (sym (map_drop_next atom_in xs i c.atom-item.result c.loop-atom-test.true c.atom-item.is))
          ∙ c.loop-atom.invariant.kept;
      front = front_trans _ _ _ c.loop-atom.invariant.front c.in_ok-put.ensures.front;
    }

pub returns-clause-kept : goal.returns-clause-kept
returns-clause-kept c =
    sym (at_drop_all (λ ys. with_monomial (monomial_of (map atom_in ys)) c.loop-atom.bank)
    c.deref-atom-items.result.now c.loop-atom.atom-index c.loop-atom-test.false)
    ∙ c.loop-atom.invariant.kept

pub returns-clause-front : goal.returns-clause-front
returns-clause-front c = c.loop-atom.invariant.front

pub returns-in_err-put-clause-front : goal.returns-in_err-put-clause-front
returns-in_err-put-clause-front c = front_trans _ _ _ c.loop-atom.invariant.front c.in_err-put.ensures.front
