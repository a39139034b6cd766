-- Nodes and their atoms: a node is there exactly where its atom is.
use Rattle.std.proofs.Common.{◌≡◌, ℕ, zero, suc, ◌+◌, ◌≤◌, Bool, true, false, ◌||◌, cond, Some, List, [], ◌∷◌, ◌++◌, length, take, append_assoc}
use Rattle.std.proofs.Common.{arith, refl, ap, sym, subst, ◌∙◌, if◌then◌else◌}
use Rattle.std.proofs.lemmas.List.{append-nil, length_push}
use Rattle.std.proofs.lemmas.List.Folds.{list_any-append}
use Rattle.std.proofs.Math.Seq.{take-append_seam}
use Rattle.std.specs.List.{list_any, slice_get}
use Rattle.fs_model.proofs.Booleans.{or_false}
use Rattle.nf_trees.specs.NormalTerms.{Atom}
use Rattle.nf_trees.specs.Order.{same_atom}
use Rattle.nf_bank.specs.declared.node.Node.{Node}
use Rattle.nf_bank.specs.Nodes.{same_node}
use Rattle.nf_bank.specs.Equal.{nodes_decide}
use Rattle.nf_bank.specs.Atoms.{holds_atom, with_one, atom_place, IsBank, IsFront}
use Rattle.nf_bank.specs.AtomNumbers.{bound_of_node, atom_at, atom_over}
use Rattle.nf_bank.specs.AtomGraphs.{with_node_atoms, atoms_of, AreBelow, IsAtomGraph}
use Rattle.nf_bank.proofs.Fronts.{front_one}
use Rattle.nf_bank.proofs.Places.{equal_atoms, own_atom, one_place, bank_one, bank_taken, found_at}
use Rattle.nf_bank.proofs.Growing.{nodes_grow, nodes_tell, front_length, front_stays}

-- ---- the atoms of nodes

pub grown_front : (atoms : List Atom) (ns : List Node) → IsFront atoms (with_node_atoms atoms ns)
grown_front atoms [] = record { rest = []; split = sym (append-nil atoms) }
grown_front atoms (n ∷ ns) =
    let f = grown_front (atoms ++ atom_over atoms n ∷ []) ns in
    record { rest = atom_over atoms n ∷ f.rest; split = f.split ∙ append_assoc atoms (atom_over atoms n ∷ []) f.rest }

grown-last : (atoms : List Atom) (ns : List Node) (n : Node) → with_node_atoms atoms (ns ++ n ∷ []) ≡ with_node_atoms atoms ns
    ++ atom_over (with_node_atoms atoms ns) n ∷ []
grown-last atoms [] n = refl
grown-last atoms (m ∷ ns) n = grown-last (atoms ++ atom_over atoms m ∷ []) ns n

length-grown : (atoms : List Atom) (ns : List Node) → length (with_node_atoms atoms ns) ≡ length atoms + length ns
length-grown atoms [] = omega arith
length-grown atoms (n ∷ ns) = omega (arith, length-grown (atoms ++ atom_over atoms n ∷ []) ns, length_push atoms (atom_over atoms n))

pub grown_length : (ns : List Node) (atoms : List Atom) → atoms_of ns ≡ atoms → length ns ≡ length atoms
grown_length ns atoms e = omega (arith, length-grown [] ns, ap length e)

-- the atom of a node over the first atoms is that over all
pub node_stays : (atoms whole : List Atom) (n : Node) → IsFront atoms whole → bound_of_node n ≤ length atoms → atom_over whole n ≡ atom_over atoms n
node_stays atoms whole n f h = front_stays bound_of_node atom_over nodes_grow atoms whole n f h

pub next_below : (atoms : List Atom) (a : Atom) (ns : List Node) → AreBelow (length atoms + 1) ns → AreBelow (length (atoms ++ a ∷ [])) ns
next_below atoms a ns b = subst (λ k. AreBelow k ns) (sym (length_push atoms a)) b

-- the atom that stands at the place of a node
placed_along : (atoms : List Atom) (ns : List Node) (k : ℕ) (n : Node) → AreBelow (length atoms) ns → slice_get ns k ≡ Some n
    → slice_get (with_node_atoms atoms ns) (length atoms + k) ≡ Some (atom_over (with_node_atoms atoms ns) n)
placed_along atoms [] k n b e = cc
placed_along atoms (m ∷ ns) zero n b e =
    let q : m ≡ n = cc in
    let f = grown_front (atoms ++ atom_over atoms m ∷ []) ns in
    let g = grown_front atoms (m ∷ ns) in
    ap (λ l. slice_get l (length atoms + 0)) f.split ∙ at_last atoms (atom_over atoms m) f.rest
    ∙ ap Some (sym (node_stays atoms (with_node_atoms atoms (m ∷ ns)) m g b.0) ∙ ap (atom_over (with_node_atoms atoms (m ∷ ns))) q)
  where
    at_last : (l : List Atom) (a : Atom) (rest : List Atom) → slice_get ((l ++ a ∷ []) ++ rest) (length l + 0) ≡ Some a
    at_last [] a rest = refl
    at_last (c ∷ l) a rest = subst (λ j. slice_get (c ∷ ((l ++ a ∷ []) ++ rest)) j ≡ Some a) (sucs (length l)) (at_last l a rest)
      where
        sucs : (n : ℕ) → suc (n + 0) ≡ suc n + 0
        sucs n = omega arith
placed_along atoms (m ∷ ns) (suc k) n b e =
    let next = atoms ++ atom_over atoms m ∷ [] in
    subst (λ j. slice_get (with_node_atoms next ns) j ≡ Some (atom_over (with_node_atoms next ns) n)) (lengths (length_push atoms (atom_over atoms m)))
    (placed_along next ns k n (next_below atoms (atom_over atoms m) ns b.1) e)
  where
    lengths : {l : ℕ} → l ≡ length atoms + 1 → l + k ≡ length atoms + suc k
    lengths h = omega arith

placed : (ns : List Node) (k : ℕ) (n : Node) → IsAtomGraph ns → slice_get ns k ≡ Some n → slice_get (atoms_of ns) k ≡ Some (atom_over (atoms_of ns) n)
placed ns k n g e = subst (λ j. slice_get (atoms_of ns) j ≡ Some (atom_over (atoms_of ns) n)) (plus k) (placed_along [] ns k n g.below e)
  where
    plus : (k : ℕ) → 0 + k ≡ k
    plus k = omega arith

below_along : (k : ℕ) (ns : List Node) (j : ℕ) (n : Node) → AreBelow k ns → slice_get ns j ≡ Some n → bound_of_node n ≤ k + j
below_along k [] j n b e = cc
below_along k (m ∷ ns) zero n b e = let q : bound_of_node m ≡ bound_of_node n = ap bound_of_node (cc) in omega (arith, b.0)
below_along k (m ∷ ns) (suc j) n b e = omega (arith, below_along (k + 1) ns j n b.1 e)

-- a node of a graph: its numbers are smaller, and its atom stands at its place
pub node_within : (ns : List Node) (k : ℕ) (n : Node) → IsAtomGraph ns → slice_get ns k ≡ Some n → bound_of_node n ≤ k
node_within ns k n g e = omega (arith, below_along 0 ns k n g.below e)

pub node_there : (ns : List Node) (atoms : List Atom) (k : ℕ) (n : Node) → atoms_of ns ≡ atoms → IsAtomGraph ns → slice_get ns k ≡ Some n
    → atom_over atoms n ≡ atom_at atoms k
node_there ns atoms k n w g e =
    let p = one_place (atoms_of ns) (atom_over (atoms_of ns) n) k g.different (placed ns k n g e) in
    subst (λ l. atom_over l n ≡ atom_at l k) w (sym (found_at (atoms_of ns) k (atom_over (atoms_of ns) n) p).1)

-- ---- a node is there exactly where its atom is

same_both : (atoms : List Atom) → IsBank atoms → (m n : Node) → bound_of_node m ≤ length atoms → bound_of_node n ≤ length atoms
    → same_atom (atom_over atoms m) (atom_over atoms n) ≡ same_node m n
same_both atoms u m n g h = by_values (same_atom (atom_over atoms m) (atom_over atoms n)) (same_node m n) refl refl
  where
    by_values : (s t : Bool) → same_atom (atom_over atoms m) (atom_over atoms n) ≡ s → same_node m n ≡ t → s ≡ t
    by_values true true e f = refl
    by_values true false e f = sym ((nodes_decide m n).1 (nodes_tell atoms u m n g h (equal_atoms (atom_over atoms m) (atom_over atoms n) e))) ∙ f
    by_values false true e f = sym e ∙ own_atom (atom_over atoms m) (atom_over atoms n) (ap (atom_over atoms) ((nodes_decide m n).0 f))
    by_values false false e f = refl

or_deep : (x y z : Bool) → x || y || z ≡ x || (y || z)
or_deep true y z = refl
or_deep false y z = refl

pub holds_push : (a b : Atom) (atoms : List Atom) → holds_atom a (atoms ++ b ∷ []) ≡ holds_atom a atoms || same_atom a b
holds_push a b atoms = list_any-append (same_atom a) atoms (b ∷ []) ∙ ap (λ x. holds_atom a atoms || x) (or_false (same_atom a b))

module _ (n : Node) where
  held_along : (atoms : List Atom) (ns : List Node) → AreBelow (length atoms) ns → IsBank (with_node_atoms atoms ns)
      → bound_of_node n ≤ length (with_node_atoms atoms ns)
      → holds_atom (atom_over (with_node_atoms atoms ns) n) (with_node_atoms atoms ns) ≡ holds_atom (atom_over (with_node_atoms atoms ns) n) atoms
      || list_any (same_node n) ns
  held_along atoms [] b u h = sym (or_false (holds_atom (atom_over atoms n) atoms))
  held_along atoms (m ∷ ns) b u h =
      let next = atoms ++ atom_over atoms m ∷ [] in
      let whole = with_node_atoms next ns in
      let a = atom_over whole n in
      let f = grown_front atoms (m ∷ ns) in
      let kept : atom_over whole m ≡ atom_over atoms m = node_stays atoms whole m f b.0 in
      let s : same_atom a (atom_over atoms m) ≡ same_node n m = ap (same_atom a) (sym kept)
      ∙ same_both whole u n m h (omega (arith, b.0, front_length atoms whole f)) in
      held_along next ns (next_below atoms (atom_over atoms m) ns b.1) u h
      ∙ ap (λ x. x || list_any (same_node n) ns) (holds_push a (atom_over atoms m) atoms ∙ ap (λ x. holds_atom a atoms || x) s)
      ∙ or_deep (holds_atom a atoms) (same_node n m) (list_any (same_node n) ns)

  pub held : (ns : List Node) → IsAtomGraph ns → bound_of_node n ≤ length (atoms_of ns)
      → holds_atom (atom_over (atoms_of ns) n) (atoms_of ns) ≡ list_any (same_node n) ns
  held ns g h = held_along [] ns g.below g.different h

below-last : (k : ℕ) (ns : List Node) (n : Node) → AreBelow k ns → bound_of_node n ≤ k + length ns → AreBelow k (ns ++ n ∷ [])
below-last k [] n b h = (omega arith, tt)
below-last k (m ∷ ns) n b h = (b.0, below-last (k + 1) ns n b.1 (omega arith))

-- ---- a node is put

module _ (ns new : List Node) (n : Node) (atoms : List Atom) (w : atoms_of ns ≡ atoms) (g : IsAtomGraph ns) (h : bound_of_node n ≤ length atoms)
    (e : new ≡ (if list_any (same_node n) ns then ns else ns ++ n ∷ [])) where
  within : bound_of_node n ≤ length (atoms_of ns)
  within = omega (arith, h, ap length w)

  by_held : (P : List Node → Type 0) → (list_any (same_node n) ns ≡ true → P ns) → (list_any (same_node n) ns ≡ false → P (ns ++ n ∷ [])) → P new
  by_held P f g = subst P (sym e) (by_value (list_any (same_node n) ns) refl)
    where
      by_value : (t : Bool) → list_any (same_node n) ns ≡ t → P (if t then ns else ns ++ n ∷ [])
      by_value true q = f q
      by_value false q = g q

  pub node_kept : atoms_of new ≡ with_one (atom_over atoms n) atoms
  node_kept =
      by_held (λ l. atoms_of l ≡ with_one (atom_over (atoms_of ns) n) (atoms_of ns))
      (λ q. sym (ap (λ t. cond t (atoms_of ns) (atoms_of ns ++ atom_over (atoms_of ns) n ∷ [])) (held n ns g within ∙ q)))
      (λ q. grown-last [] ns n ∙ sym (ap (λ t. cond t (atoms_of ns) (atoms_of ns ++ atom_over (atoms_of ns) n ∷ [])) (held n ns g within ∙ q)))
      ∙ ap (λ l. with_one (atom_over l n) l) w

  pub graph_kept : IsAtomGraph new
  graph_kept = record {
    below = by_held (AreBelow 0) (λ q. g.below) (λ q. below-last 0 ns n g.below (omega (arith, within, length-grown [] ns)));
    different = subst IsBank (sym node_kept) (bank_one (atom_over atoms n) atoms (subst IsBank w g.different));
  }

  pub front_kept : IsFront atoms (atoms_of new)
  front_kept = front_one atoms (atom_over atoms n) (atoms_of new) node_kept

  pub place_kept : (k : ℕ) (m : Node) → slice_get new k ≡ Some m → same_node n m ≡ true → atom_place (atom_over atoms n) (atoms_of new) ≡ Some k
  place_kept k m s q =
      let i : slice_get new k ≡ Some n = s ∙ ap Some (sym ((nodes_decide n m).0 q)) in
      let p = one_place (atoms_of new) (atom_over (atoms_of new) n) k graph_kept.different (placed new k n graph_kept i) in
      ap (λ a. atom_place a (atoms_of new)) (sym (node_stays atoms (atoms_of new) n front_kept h)) ∙ p

-- ---- the first nodes

below_taken : (k i : ℕ) (ns : List Node) → AreBelow k ns → AreBelow k (take i ns)
below_taken k zero ns b = tt
below_taken k (suc i) [] b = tt
below_taken k (suc i) (n ∷ ns) b = (b.0, below_taken (k + 1) i ns b.1)

grown_taken : (atoms : List Atom) (i : ℕ) (ns : List Node) → with_node_atoms atoms (take i ns) ≡ take (length atoms + i) (with_node_atoms atoms ns)
grown_taken atoms zero ns =
    let f = grown_front atoms ns in
    sym (ap (λ k. take k (with_node_atoms atoms ns)) (plus (length atoms)) ∙ ap (take (length atoms)) f.split ∙ take-append_seam atoms f.rest)
  where
    plus : (k : ℕ) → k + 0 ≡ k
    plus k = omega arith
grown_taken atoms (suc i) [] = sym (all_taken atoms (length atoms + suc i) (omega arith))
  where
    all_taken : (l : List Atom) (k : ℕ) → length l ≤ k → take k l ≡ l
    all_taken [] zero h = refl
    all_taken [] (suc k) h = refl
    all_taken (a ∷ l) zero h = absurd (omega arith)
    all_taken (a ∷ l) (suc k) h = ap (λ t. a ∷ t) (all_taken l k (omega arith))
grown_taken atoms (suc i) (n ∷ ns) =
    grown_taken (atoms ++ atom_over atoms n ∷ []) i ns ∙ ap (λ k. take k (with_node_atoms (atoms ++ atom_over atoms n ∷ []) ns))
    (lengths (length_push atoms (atom_over atoms n)))
  where
    lengths : {l : ℕ} → l ≡ length atoms + 1 → l + i ≡ length atoms + suc i
    lengths h = omega arith

pub atoms_taken : (i : ℕ) (ns : List Node) → atoms_of (take i ns) ≡ take i (atoms_of ns)
atoms_taken i ns = grown_taken [] i ns ∙ ap (λ k. take k (atoms_of ns)) (plus i)
  where
    plus : (k : ℕ) → 0 + k ≡ k
    plus k = omega arith

pub graph_taken : (i : ℕ) (ns : List Node) → IsAtomGraph ns → IsAtomGraph (take i ns)
graph_taken i ns g = record { below = below_taken 0 i ns g.below; different = subst IsBank (sym (atoms_taken i ns)) (bank_taken i (atoms_of ns) g.different) }
