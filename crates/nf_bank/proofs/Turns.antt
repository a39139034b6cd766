-- Loops that gather numbers: what they spell so far, and what is left.
use Rattle.std.proofs.Common.{◌≡◌, ℕ, ◌+◌, ◌<◌, ◌≤◌, ℤ, Some, List, [], ◌∷◌, ◌++◌, length, map, take, get_or, arith, ap, sym, subst, ◌∙◌}
use Rattle.std.proofs.lemmas.List.{map_push, map_more, take_all}
use Rattle.nf_trees.specs.NormalTerms.{Atom, Monomial, Polynomial, ArrayTerm, Over, monomial_of, polynomial_of, writes_of}
use Rattle.nf_trees.specs.View.{atom_in, monomial_in, polynomial_in, term_in, write_in}
use Rattle.nf_trees.specs.declared.tree.Atom.{Atom as AtomTree}
use Rattle.nf_trees.specs.declared.tree.MonoTree.{MonoTree}
use Rattle.nf_trees.specs.declared.tree.PolyTree.{PolyTree}
use Rattle.nf_trees.specs.declared.tree.Base.{Base}
use Rattle.nf_bank.specs.declared.node.AtomId.{AtomId}
use Rattle.nf_bank.specs.declared.node.Term.{Term}
use Rattle.nf_bank.specs.declared.node.Write.{Write}
use Rattle.nf_bank.specs.Atoms.{atom_place, IsFront}
use Rattle.nf_bank.specs.AtomNumbers.{bound_over, bound_of_number, bound_of_term, bound_of_write, bound_of_sum, atom_of_number, scaled_monomial_over, sum_over}
use Rattle.nf_bank.specs.AtomNumbers.{write_over, SpellsOverAtoms, SpellsMonomial, SpellsSum, SpellsArray}
use Rattle.nf_bank.proofs.Bounds.{bound_push, max_both}
use Rattle.nf_bank.proofs.Places.{found_at}
use Rattle.nf_bank.proofs.Growing.{Grows, sums_grow, spells_list, spells_more}

module _ {N V T : Type 0} (bound : N → ℕ) (over : List Atom → N → V) (seen : T → V) where
  -- numbers spell the first items of a list
  abbrev pub SpellsFirst : List Atom → List N → List T → ℕ → Type 0
  SpellsFirst atoms ns items k = SpellsOverAtoms (bound_over bound) (λ l. map (over l)) atoms ns (map seen (take k items))

  -- one item more is spelled
  pub append_spells_first : Grows bound over → (atoms whole : List Atom) (ns : List N) (items : List T) (k : ℕ) (n : N) (x : T) → SpellsFirst atoms ns items k
      → IsFront atoms whole → k < length items → x ≡ get_or items k x → SpellsOverAtoms bound over whole n (seen x)
      → SpellsFirst whole (ns ++ n ∷ []) items (k + 1)
  append_spells_first g atoms whole ns items k n x s f h e t =
      let r = spells_list bound over g atoms whole ns (map seen (take k items)) f s in
      record {
        within = bound_push bound ns n (length whole) r.within t.within;
        is = map_push (over whole) ns n ∙ (λ j. r.is j ++ t.is j ∷ []) ∙ ap (λ y. map seen (take k items) ++ seen y ∷ []) e ∙ sym (map_more seen items k x h);
      }

  all_spelled : (atoms : List Atom) (ns new : List N) (items : List T) (k : ℕ) → SpellsFirst atoms ns items k → length items ≤ k → new ≡ ns
      → SpellsOverAtoms (bound_over bound) (λ l. map (over l)) atoms new (map seen items)
  all_spelled atoms ns new items k s h e =
      subst (λ l. SpellsOverAtoms (bound_over bound) (λ a. map (over a)) atoms l (map seen items)) (sym e)
      (subst (λ l. SpellsOverAtoms (bound_over bound) (λ a. map (over a)) atoms ns (map seen l)) (take_all k items h) s)

-- ---- what is gathered in all

pub monomial_spelled : (atoms : List Atom) (ids new : List AtomId) (items : List AtomTree) (k : ℕ) (m : Monomial)
    → SpellsFirst bound_of_number atom_of_number atom_in atoms ids items k → length items ≤ k → new ≡ ids → monomial_of (map atom_in items) ≡ m
    → SpellsMonomial atoms new m
monomial_spelled atoms ids new items k m s h e w =
    let r = all_spelled bound_of_number atom_of_number atom_in atoms ids new items k s h e in
    record { within = r.within; is = ap monomial_of r.is ∙ w }

pub sum_spelled : (atoms : List Atom) (terms new : List Term) (items : List (MonoTree × ℤ)) (k : ℕ) (p : Polynomial)
    → SpellsFirst bound_of_term scaled_monomial_over term_in atoms terms items k → length items ≤ k → new ≡ terms → polynomial_of (map term_in items) ≡ p
    → SpellsSum atoms new p
sum_spelled atoms terms new items k p s h e w =
    let r = all_spelled bound_of_term scaled_monomial_over term_in atoms terms new items k s h e in
    record { within = r.within; is = ap polynomial_of r.is ∙ w }

pub array_spelled : (atoms : List Atom) (b : Base) (writes new : List Write) (items : List (PolyTree × PolyTree)) (k : ℕ) (a : ArrayTerm)
    → SpellsFirst bound_of_write write_over write_in atoms writes items k → length items ≤ k → new ≡ writes → Over b (writes_of (map write_in items)) ≡ a
    → SpellsArray atoms (record { base = b; writes = new }) a
array_spelled atoms b writes new items k a s h e w =
    let r = all_spelled bound_of_write write_over write_in atoms writes new items k s h e in
    record { within = r.within; is = ap (λ ws. Over b (writes_of ws)) r.is ∙ w }

-- ---- one item

pub number_spells : (atoms : List Atom) (i : AtomId) (a : Atom) → atom_place a atoms ≡ Some i.0 → SpellsOverAtoms bound_of_number atom_of_number atoms i a
number_spells atoms i a e = let f = found_at atoms i.0 a e in record { within = omega (arith, f.0); is = f.1 }

pub term_spells : (atoms : List Atom) (t : Term) (ids : List AtomId) (x : MonoTree × ℤ) → ◌≡◌ {A = Term} t (record { atoms = ids; coefficient = x.1 })
    → SpellsMonomial atoms ids (monomial_in x.0) → SpellsOverAtoms bound_of_term scaled_monomial_over atoms t (term_in x)
term_spells atoms t ids x e s = subst (λ u. SpellsOverAtoms bound_of_term scaled_monomial_over atoms u (term_in x)) (sym e)
    (record { within = s.within; is = λ k. (s.is k, x.1) })

pub write_spells : (first atoms : List Atom) (i v : List Term) (x : PolyTree × PolyTree) → IsFront first atoms → SpellsSum first i (polynomial_in x.0)
    → SpellsSum atoms v (polynomial_in x.1) → SpellsOverAtoms bound_of_write write_over atoms (record { index = i; value = v }) (write_in x)
write_spells first atoms i v x f s t =
    let r = spells_more bound_of_sum sum_over sums_grow first atoms i (polynomial_in x.0) f s in
    record { within = max_both (bound_of_sum i) (bound_of_sum v) (length atoms) r.within t.within; is = λ k. (r.is k, t.is k) }
