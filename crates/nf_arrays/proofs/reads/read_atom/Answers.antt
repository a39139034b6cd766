use Rattle.std.proofs.Common.{map, ap, sym, subst, ◌∙◌}
use Rattle.nf_trees.specs.NormalTerms.{Over, Read, writes_of}
use Rattle.nf_trees.specs.View.{write_in}
use Rattle.nf_terms.specs.Computed.{Answers}
use Rattle.nf_arrays.specs.NewAtoms.{IsNewAtom, new_atom}
use Rattle.nf_arrays.proofs.NewAtoms.{new_read}
use Rattle.nf_arrays.proofs.reads.read_atom.Goals as goal

pub new_atom-requires : goal.new_atom-requires
new_atom-requires c =
    let a = Over c.args.base (writes_of (map write_in c.args.writes.now)) in
    subst IsNewAtom (sym (c.in_ok-atom.ensures ∙ ap (Read a) c.tree.ensures.same))
    (new_read a c.args.i.now c.requires.normal c.tree.ensures.normal c.requires.stays)

pub returns : goal.returns
returns c =
    let a = Over c.args.base (writes_of (map write_in c.args.writes.now)) in
    subst (λ x. Answers c.new_atom.result (new_atom x)) (c.in_ok-atom.ensures ∙ ap (Read a) c.tree.ensures.same) c.new_atom.ensures
