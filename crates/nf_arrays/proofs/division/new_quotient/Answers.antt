use Rattle.std.proofs.Common.{ap₂, sym, subst, ◌∙◌}
use Rattle.nf_trees.specs.NormalTerms.{Quotient}
use Rattle.nf_terms.specs.Computed.{Answers}
use Rattle.nf_arrays.specs.NewAtoms.{IsNewAtom, new_atom}
use Rattle.nf_arrays.proofs.NewAtoms.{new_quotient}
use Rattle.nf_arrays.proofs.division.new_quotient.Goals as goal

pub new_atom-requires : goal.new_atom-requires
new_atom-requires c =
    subst IsNewAtom
    (sym (c.in_ok-atom.ensures ∙ ap₂ Quotient (c.in_ok-left.ensures.left ∙ c.tree.ensures.same) (c.in_ok-left.ensures.right ∙ c.tree-2.ensures.same)))
    (new_quotient c.args.l.now c.args.r.now c.tree.ensures.normal c.tree-2.ensures.normal c.requires)

pub returns : goal.returns
returns c =
    subst (λ a. Answers c.new_atom.result (new_atom a))
    (c.in_ok-atom.ensures ∙ ap₂ Quotient (c.in_ok-left.ensures.left ∙ c.tree.ensures.same) (c.in_ok-left.ensures.right ∙ c.tree-2.ensures.same))
    c.new_atom.ensures
