-- Legal lists of moves, one move longer.
use Rattle.std.proofs.Common.{◌≡◌, ℕ, zero, suc, ◌+◌, ◌-◌, ◌*◌, ◌<◌, ◌≤◌, refl, sym, ◌∙◌, ap, subst, arith, Bool, true, List, [], ◌∷◌, ◌++◌, length, Some, None}
use Rattle.std.proofs.Common.{Ok, Err, Vec, Global}
use Rattle.std.proofs.lemmas.List.{length-append, length-map}
use Rattle.std.proofs.lemmas.Option.{slice_get_within}
use Rattle.std.specs.Prelude.{◌&&◌, slice_get, Option, Result, IfOk}
use Rattle.std.specs.List.{list_all}
use Rattle.fs_model.proofs.Booleans.{and_first, and_second}
use Rattle.fs_model.proofs.Quantifiers.{each_at}
use Rattle.fs_model.proofs.Lists.{slice_get-of_map}
use Rattle.fs_model.specs.SoundMachines.{IsSound}
use Rattle.fs_cut.specs.Paths.{is_point}
use Rattle.sym_facts.specs.Facts.{most_literals}
use Rattle.sym_facts.specs.Pairings.{IsFactOf}
use Rattle.cert_model.specs.Lawful.{most_nodes}
use Rattle.search_tables.specs.declared.moves.Move.{Move}
use Rattle.search_tables.specs.SearchTables.{MachinePair, positions_of, SearchNode, Table, first_table}
use Rattle.search_tables.specs.Next.{Change, next_move}
use Rattle.search_tables.specs.Legal.{difference_in, MovesLead, Makes}
use Rattle.search_tables.proofs.Forming.{well_formed}
use Rattle.search_tables.proofs.Bounded.{legal_short}
use Rattle.search_tables.specs.View.{table_in}
use Rattle.search_tables.specs.declared.pairs.PointPair.{PointPair}
use Rattle.search_places.specs.declared.node_state.NodeState.{NodeState}
use Rattle.search_places.specs.NodeRecords.{NodeRecord, record_of_node, node_records, table_of}
use Rattle.search_tables.specs.declared.outcome.Obstacle.{Obstacle}
use Rattle.search_worklist.specs.declared.ends.Ended.{Ended}
use Rattle.search_worklist.specs.SearchEnds.{EndsSo, IsEnded}
use Rattle.search_worklist.specs.Endings.{IsEndedWith}
use Rattle.search_worklist.specs.States.{IsMade}
use Rattle.search_tables.proofs.FactsOfPairing.{AreOf, legal_facts}

lead_more : (m : MachinePair) (xs : List Move) (S T U : Table) (x : Move) → MovesLead m S xs T → difference_in m T ≡ None → next_move m T ≡ Change x U
    → MovesLead m S (xs ++ x ∷ []) U
lead_more m [] S T U x h s n = (U, subst (λ V. difference_in m V ≡ None) (sym h) s, subst (λ V. next_move m V ≡ Change x U) (sym h) n, refl)
lead_more m (y ∷ ys) S T U x h s n = (h.0, h.1, h.2, lead_more m ys h.0 T U x h.3 s n)

pub makes_none : (m : MachinePair) (xs : List Move) (T : Table) → xs ≡ [] → T ≡ first_table m → Makes m xs T
makes_none m xs T e f = subst (λ ys. Makes m ys T) (sym e) (record { lead = sym f })

pub makes_more : (m : MachinePair) (xs ys : List Move) (x : Move) (T U V : Table) → Makes m xs T → difference_in m T ≡ None → next_move m T ≡ Change x U
    → ys ≡ xs ++ x ∷ [] → V ≡ U → Makes m ys V
makes_more m xs ys x T U V h s n e f = subst (λ zs. Makes m zs V) (sym e)
    (subst (λ W. Makes m (xs ++ x ∷ []) W) (sym f) (record { lead = lead_more m xs (first_table m) T U x h.lead s n }))

pub made : (m : MachinePair) (xs : List Move) (T : Table) → IsSound m.left → IsSound m.right → Makes m xs T → difference_in m T ≡ None → IsMade m T
made m xs T l r h s = record { formed = well_formed m l r xs T h; facts = legal_facts m xs T h; agrees = s }

-- how many moves are left at most
abbrev pub moves_left : MachinePair → List Move → ℕ
moves_left m xs = most_nodes * (length (positions_of m) + most_literals + 1) - length xs

pub fewer_left : (m : MachinePair) (xs ys : List Move) (x : Move) (T : Table) → ys ≡ xs ++ x ∷ [] → Makes m ys T → moves_left m ys < moves_left m xs
fewer_left m xs ys x T e h = over (most_nodes * (length (positions_of m) + most_literals + 1)) (length xs) (length ys) (ap length e ∙ length-append xs (x ∷ []))
    (legal_short m ys T h)
  where
    over : (n a b : ℕ) → b ≡ a + 1 → b ≤ n → n - b < n - a
    over n a b e h = omega (arith, e, h)

-- ---- what is known of a node of such a table
all_at : (f : SearchNode → Bool) (ns : List SearchNode) (k : ℕ) (n : SearchNode) → list_all f ns ≡ true → slice_get ns k ≡ Some n → f n ≡ true
all_at f [] k n h e = absurd (cc e)
all_at f (a ∷ ns) zero n h e = let s : a ≡ n = cc e in ap f (sym s) ∙ and_first (f a) (list_all f ns) h
all_at f (a ∷ ns) (suc k) n h e = all_at f ns k n (and_second (f a) (list_all f ns) h) e

module _ (m : MachinePair) (ls : List NodeRecord) (h : IsMade m (table_of ls)) (k : ℕ) (l : NodeRecord) (g : slice_get ls k ≡ Some l) where
  pub node_in : slice_get (table_of ls) k ≡ Some l.node
  node_in = slice_get-of_map (λ (z : NodeRecord). z.node) ls k l g

  at_points : is_point m.left l.node.left && is_point m.right l.node.right ≡ true
  at_points = all_at (λ (n : SearchNode). is_point m.left n.left && is_point m.right n.right) (table_of ls) k l.node h.formed.points node_in

  pub left_point : is_point m.left l.node.left ≡ true
  left_point = and_first (is_point m.left l.node.left) (is_point m.right l.node.right) at_points

  pub right_point : is_point m.right l.node.right ≡ true
  right_point = and_second (is_point m.left l.node.left) (is_point m.right l.node.right) at_points

  pub fact_of : IsFactOf (positions_of m) l.node.fact
  fact_of = each_at (λ (n : SearchNode). IsFactOf (positions_of m) n.fact) (table_of ls) k l.node h.facts node_in

-- ---- the end of a search
pub number_in : (es : List (PointPair × NodeState)) (k : ℕ) (n : SearchNode) → slice_get (table_of (node_records es)) k ≡ Some n → k < length es
number_in es k n g = omega (
  arith,
  slice_get_within (table_of (node_records es)) k n g,
  length-map (node_records es) (λ (l : NodeRecord). l.node),
  length-map es record_of_node,
)

pub ends_with : (m : MachinePair) (T : Table) (xs : Vec Move Global) (x : Option Obstacle) (e : Ended) → Makes m xs.items T → EndsSo m T x
    → IsEndedWith T xs x e → IsEnded m e
ends_with m T xs x e h s w =
    let items = ap (λ (v : Vec Move Global). v.items) w.moves in
    record {
      makes = subst (λ ys. Makes m ys (table_in e.nodes.items)) (sym items) (subst (Makes m xs.items) (sym w.nodes) h);
      facts = subst (AreOf (positions_of m)) (sym w.nodes) (legal_facts m xs.items T h);
      ends = subst (EndsSo m (table_in e.nodes.items)) (sym w.ends) (subst (λ U. EndsSo m U x) (sym w.nodes) s);
    }

pub if_ok : {T E : Type 0} {P Q : T → Type 0} (r : Result T E) → ((x : T) → P x → Q x) → IfOk r P → IfOk r Q
if_ok (Ok x) f h = f x h
if_ok (Err e) f h = h
