-- Nodes are the same exactly where they are equal.
use Rattle.std.specs.Prelude.{◌≡◌, Bool, true, false, ◌&&◌, List, refl}
use Rattle.std.proofs.Common.{ap, sym, ◌∙◌}
use Rattle.std.proofs.lemmas.Bool.{eqb-true, eq-eqb}
use Rattle.std.specs.Bool.{Decides}
use Rattle.std.specs.Cmp.{signed_Decides, IsPartialEquivalence, IsEquivalence, partial_equiv_from_equiv}
use Rattle.std.specs.Cmp.Lexicographic.{pointwise, pointwise_decides}
use Rattle.nf_trees.specs.Mentions.{same_pos}
use Rattle.fs_model.specs.declared.sides.Side.{Side}
use Rattle.fs_model.specs.declared.sides.Side.TheVariants.{Left, Right}
use Rattle.fs_model.specs.declared.sides.Pos.{Pos}
use Rattle.fs_model.specs.Sides.{same_side}
use Rattle.nf_trees.specs.declared.tree.Base.{Base}
use Rattle.nf_trees.specs.declared.tree.Base.TheVariants as base
use Rattle.nf_bank.specs.declared.node.AtomId.{AtomId}
use Rattle.nf_bank.specs.declared.node.Term.{Term}
use Rattle.nf_bank.specs.declared.node.Write.{Write}
use Rattle.nf_bank.specs.declared.node.Array.{Array}
use Rattle.nf_bank.specs.declared.node.Node.{Node}
use Rattle.nf_bank.specs.declared.node.Node.TheVariants as node
use Rattle.nf_bank.specs.Nodes.{same_base, same_number, same_term, same_write, same_array, same_node}

-- the tests of two parts, of the whole
both : {A B : Type 0} {a b : Bool} {W : Type 0} → Decides a A → Decides b B → (A → B → W) → (W → A) → (W → B) → Decides (a && b) W
both {a = true} {b = true} d e f g h = ((λ _. f (d.0 refl) (e.0 refl)), (λ _. refl))
both {a = true} {b = false} d e f g h = ((λ k. cc k), (λ w. e.1 (h w)))
both {a = false} d e f g h = ((λ k. cc k), (λ w. d.1 (g w)))

sides_decide : (a b : Side) → Decides (same_side a b) (a ≡ b)
sides_decide Left Left = ((λ _. refl), (λ _. refl))
sides_decide Left Right = ((λ e. cc e), (λ e. cc e))
sides_decide Right Left = ((λ e. cc e), (λ e. cc e))
sides_decide Right Right = ((λ _. refl), (λ _. refl))

pos_decide : (p q : Pos) → Decides (same_pos p q) (p ≡ q)
pos_decide p q = both (sides_decide p.side q.side) (eqb-true p.var q.var, eq-eqb p.var q.var)
    (λ e f k. record { side = e k; var = f k }) (ap (λ x. x.side)) (ap (λ x. x.var))

bases_decide : (a b : Base) → Decides (same_base a b) (a ≡ b)
bases_decide base.Zero base.Zero = ((λ _. refl), (λ _. refl))
bases_decide base.Zero (base.Sym q) = ((λ e. cc e), (λ e. cc e))
bases_decide (base.Sym p) base.Zero = ((λ e. cc e), (λ e. cc e))
bases_decide (base.Sym p) (base.Sym q) = ((λ e. ap base.Sym ((pos_decide p q).0 e)), (λ e. (pos_decide p q).1 (cc e)))

numbers_decide : (i j : AtomId) → Decides (same_number i j) (i ≡ j)
numbers_decide i j = ((λ e k. record { 0 = eqb-true i.0 j.0 e k }), (λ e. eq-eqb i.0 j.0 (ap (λ x. x.0) e)))

terms_decide : (s t : Term) → Decides (same_term s t) (s ≡ t)
terms_decide s t = both (pointwise_decides numbers_decide s.atoms t.atoms) (signed_Decides s.coefficient t.coefficient)
    (λ e f k. record { atoms = e k; coefficient = f k }) (ap (λ x. x.atoms)) (ap (λ x. x.coefficient))

sums_decide : (s t : List Term) → Decides (pointwise same_term s t) (s ≡ t)
sums_decide s t = pointwise_decides terms_decide s t

writes_decide : (w x : Write) → Decides (same_write w x) (w ≡ x)
writes_decide w x = both (sums_decide w.index x.index) (sums_decide w.value x.value)
    (λ e f k. record { index = e k; value = f k }) (ap (λ y. y.index)) (ap (λ y. y.value))

arrays_decide : (a b : Array) → Decides (same_array a b) (a ≡ b)
arrays_decide a b = both (bases_decide a.base b.base) (pointwise_decides writes_decide a.writes b.writes)
    (λ e f k. record { base = e k; writes = f k }) (ap (λ x. x.base)) (ap (λ x. x.writes))

-- nodes are the same exactly where they are equal
pub nodes_decide : (m n : Node) → Decides (same_node m n) (m ≡ n)
nodes_decide (node.Sym p) (node.Sym q) = ((λ e. ap node.Sym ((pos_decide p q).0 e)), (λ e. (pos_decide p q).1 (cc e)))
nodes_decide (node.Sym p) (node.Read b j) = ((λ e. cc e), (λ e. cc e))
nodes_decide (node.Sym p) (node.Div r s) = ((λ e. cc e), (λ e. cc e))
nodes_decide (node.Sym p) (node.Rem r s) = ((λ e. cc e), (λ e. cc e))
nodes_decide (node.Read a i) (node.Sym q) = ((λ e. cc e), (λ e. cc e))
nodes_decide (node.Read a i) (node.Read b j) = both (arrays_decide a b) (sums_decide i j) (λ e f k. node.Read (e k) (f k))
    (λ e. cc e) (λ e. cc e)
nodes_decide (node.Read a i) (node.Div r s) = ((λ e. cc e), (λ e. cc e))
nodes_decide (node.Read a i) (node.Rem r s) = ((λ e. cc e), (λ e. cc e))
nodes_decide (node.Div p q) (node.Sym u) = ((λ e. cc e), (λ e. cc e))
nodes_decide (node.Div p q) (node.Read b j) = ((λ e. cc e), (λ e. cc e))
nodes_decide (node.Div p q) (node.Div r s) = both (sums_decide p r) (sums_decide q s) (λ e f k. node.Div (e k) (f k))
    (λ e. cc e) (λ e. cc e)
nodes_decide (node.Div p q) (node.Rem r s) = ((λ e. cc e), (λ e. cc e))
nodes_decide (node.Rem p q) (node.Sym u) = ((λ e. cc e), (λ e. cc e))
nodes_decide (node.Rem p q) (node.Read b j) = ((λ e. cc e), (λ e. cc e))
nodes_decide (node.Rem p q) (node.Div r s) = ((λ e. cc e), (λ e. cc e))
nodes_decide (node.Rem p q) (node.Rem r s) = both (sums_decide p r) (sums_decide q s) (λ e f k. node.Rem (e k) (f k))
    (λ e. cc e) (λ e. cc e)

same_turned : (m n : Node) → same_node m n ≡ same_node n m
same_turned m n = by_values (same_node m n) (same_node n m) refl refl
  where
    by_values : (a b : Bool) → same_node m n ≡ a → same_node n m ≡ b → a ≡ b
    by_values true true e f = refl
    by_values true false e f = sym ((nodes_decide n m).1 (sym ((nodes_decide m n).0 e))) ∙ f
    by_values false true e f = sym e ∙ (nodes_decide m n).1 (sym ((nodes_decide n m).0 f))
    by_values false false e f = refl

pub nodes_same : IsEquivalence same_node
nodes_same = record {
  refl = λ m. (nodes_decide m m).1 refl;
  symm = same_turned;
  congr = λ m n o e. ap (λ x. same_node x o) ((nodes_decide m n).0 e);
}

pub nodes_partly : IsPartialEquivalence same_node
nodes_partly = partial_equiv_from_equiv nodes_same
