use Rattle.std.proofs.Common.{refl}
use Rattle.nf_sums.proofs.Joining.{begun, ended, turn_left_end, turn_right_end, turn_left, turn_right}
use Rattle.nf_sums.proofs.join.merged_atoms.Goals as goal

pub merge-init : goal.merge-init
merge-init c = begun _ _ _ _ _ c.new-out.ensures.items refl refl c.requires.left c.requires.right

pub merge-preserved-in-Some-get : goal.merge-preserved-in-Some-get
merge-preserved-in-Some-get c =
    turn_right_end _ _ _ _ _ _ c.merge.invariant c.in-Some-get.atom.now c.in-Some-get.ensures.lookup.3.0 c.in-Some-get.ensures.lookup.1
    c.in-None.ensures.lookup.3 c.in_ok-push_atom_copy-in-Some-get.ensures

pub merge-preserved-in-None-get-2 : goal.merge-preserved-in-None-get-2
merge-preserved-in-None-get-2 c =
    turn_left_end _ _ _ _ _ _ c.merge.invariant c.in-Some.atom.now c.in-Some.ensures.lookup.3.0 c.in-Some.ensures.lookup.1 c.in-None-get-2.ensures.lookup.3
    c.in_ok-push_atom_copy-in-None-get-2.ensures

pub merge-preserved-then-is_le : goal.merge-preserved-then-is_le
merge-preserved-then-is_le c =
    turn_left _ _ _ _ _ _ c.merge.invariant c.in-Some.atom.now c.in-Some-get-2.other.now c.in-Some.ensures.lookup.3.0 c.in-Some.ensures.lookup.1
    c.in-Some-get-2.ensures.lookup.3.0 c.in-Some-get-2.ensures.lookup.1 (cc) c.in_ok-push_atom_copy-in-Some-get-2.ensures

pub merge-preserved : goal.merge-preserved
merge-preserved c =
    turn_right _ _ _ _ _ _ c.merge.invariant c.in-Some.atom.now c.in-Some-get-2.other.now c.in-Some.ensures.lookup.3.0 c.in-Some.ensures.lookup.1
    c.in-Some-get-2.ensures.lookup.3.0 c.in-Some-get-2.ensures.lookup.1 (cc) c.in_ok-push_atom_copy-in-Some-get-2-2.ensures

pub returns : goal.returns
returns c = ended _ _ _ _ _ c.merge.invariant c.in-None.ensures.lookup.3 c.in-None-get.ensures.lookup.3
