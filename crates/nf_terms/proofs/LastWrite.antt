-- The last write of an array.
use Rattle.std.proofs.Common.{◌≡◌, ◌-◌, Bool, true, false, not, List, [], ◌∷◌, length, map, Some, None, refl, ap, subst, ◌∙◌, arith}
use Rattle.std.specs.List.{slice_get}
use Rattle.nf_trees.specs.NormalTerms.{Polynomial, Over, NoWrites, writes_of}
use Rattle.nf_trees.specs.View.{polynomial_in, array_in, write_in}
pub use Rattle.nf_trees.proofs.Compared.{array_in-is}
use Rattle.nf_terms.specs.Normal.{last_index, stays_read, differ_by_constant}
use Rattle.nf_trees.specs.declared.tree.PolyTree.{PolyTree}
use Rattle.nf_trees.specs.declared.tree.ArrTree.{ArrTree, out-ArrTree}
use Rattle.fs_model.specs.declared.sides.Pos.{Pos}
use Rattle.nf_trees.specs.declared.tree.Base.{Base}
use Rattle.nf_trees.specs.declared.tree.Base.TheVariants as base

last_is : (w x : PolyTree × PolyTree) (ws : List (PolyTree × PolyTree)) → slice_get (w ∷ ws) (length ws) ≡ Some x
    → last_index (polynomial_in w.0) (writes_of (map write_in ws)) ≡ polynomial_in x.0
last_is w x [] e = cc
last_is w x (v ∷ ws) e = last_is v x ws e

shorter : (w : PolyTree × PolyTree) (ws : List (PolyTree × PolyTree)) → length (w ∷ ws) - 1 ≡ length ws
shorter w ws = omega arith

-- a list that is not empty has a last place
has_last : (s t : Bool) (w : PolyTree × PolyTree) (ws : List (PolyTree × PolyTree)) → slice_get (w ∷ ws) (length ws) ≡ None → s ≡ t
has_last s t w [] e = cc
has_last s t w (v ∷ ws) e = has_last s t v ws e

stays_over : (b : Base) (ws : List (PolyTree × PolyTree)) (x : PolyTree × PolyTree) (i : Polynomial) → slice_get ws (length ws - 1) ≡ Some x
    → stays_read (Over b (writes_of (map write_in ws))) i ≡ not (differ_by_constant (polynomial_in x.0) i)
stays_over b [] x i e = cc
stays_over base.Zero (w ∷ ws) x i e = ap (λ j. not (differ_by_constant j i)) (last_is w x ws (subst (λ k. slice_get (w ∷ ws) k ≡ Some x) (shorter w ws) e))
stays_over (base.Sym p) (w ∷ ws) x i e = ap (λ j. not (differ_by_constant j i)) (last_is w x ws (subst (λ k. slice_get (w ∷ ws) k ≡ Some x) (shorter w ws) e))

pub stays_with_last : (a : ArrTree) (x : PolyTree × PolyTree) (i : Polynomial)
    → slice_get (out-ArrTree a).writes.items (length (out-ArrTree a).writes.items - 1) ≡ Some x
    → stays_read (array_in a) i ≡ not (differ_by_constant (polynomial_in x.0) i)
stays_with_last a x i e = ap (λ t. stays_read t i) (array_in-is a) ∙ stays_over (out-ArrTree a).base (out-ArrTree a).writes.items x i e

stays_bare : (b : Base) (ws : List (PolyTree × PolyTree)) (i : Polynomial) → slice_get ws (length ws - 1) ≡ None
    → stays_read (Over b (writes_of (map write_in ws))) i ≡ stays_read (Over b NoWrites) i
stays_bare b [] i e = refl
stays_bare b (w ∷ ws) i e = has_last _ _ w ws (subst (λ k. slice_get (w ∷ ws) k ≡ None) (shorter w ws) e)

pub stays_zero : (a : ArrTree) (i : Polynomial) → slice_get (out-ArrTree a).writes.items (length (out-ArrTree a).writes.items - 1) ≡ None
    → (out-ArrTree a).base ≡ base.Zero → stays_read (array_in a) i ≡ false
stays_zero a i e b = ap (λ t. stays_read t i) (array_in-is a) ∙ stays_bare (out-ArrTree a).base (out-ArrTree a).writes.items i e
    ∙ ap (λ z. stays_read (Over z NoWrites) i) b

pub stays_symbol : (a : ArrTree) (p : Pos) (i : Polynomial) → slice_get (out-ArrTree a).writes.items (length (out-ArrTree a).writes.items - 1) ≡ None
    → (out-ArrTree a).base ≡ base.Sym p → stays_read (array_in a) i ≡ true
stays_symbol a p i e b = ap (λ t. stays_read t i) (array_in-is a) ∙ stays_bare (out-ArrTree a).base (out-ArrTree a).writes.items i e
    ∙ ap (λ z. stays_read (Over z NoWrites) i) b
