-- What comes next is found at the least item that waits.
use Rattle.std.proofs.Common.{◌≡◌, ℕ, zero, suc, ◌+◌, ◌<◌, ◌⊎◌, inl, inr, refl, ◌∙◌, ap, subst, arith, Bool, true, false, cond, List, [], ◌∷◌, drop, map, Some}
use Rattle.std.specs.Prelude.{slice_get}
use Rattle.fs_model.proofs.Lists.{slice_get-of_map}
use Rattle.fs_cut.specs.Paths.{Point}
use Rattle.fs_pair.specs.declared.positions.Position.{Position}
use Rattle.cert_bisimulation.specs.declared.mode.Mode.{Mode}
use Rattle.nf_terms.specs.Computed.{Done}
use Rattle.nf_rel.specs.Literals.{is_refuted}
use Rattle.sym_paths.specs.Execution.{Post, end_of}
use Rattle.propagate.specs.Joins.{join}
use Rattle.propagate.specs.Modes.{Traced, Found}
use Rattle.search_tables.specs.declared.moves.Move.{Move}
use Rattle.search_tables.specs.SearchTables.{MachinePair, positions_of, SearchNode, Table, node_target, keep_or_join, look_up_target, weaken_node, Keeps}
use Rattle.search_tables.specs.SearchTables.{effect_of_arrival}
use Rattle.search_tables.specs.SearchTables.{PathPair, effect}
use Rattle.search_tables.specs.Next.{Next, Nothing, mode_at, paths_in, move_by, next_by, first_change_of, next_in, next_at, or_next, next_from, next_move}
use Rattle.search_waiting.specs.declared.item.Item.{Item}
use Rattle.search_places.specs.NodeRecords.{NodeRecord, table_of}
use Rattle.search_waiting.specs.ItemOrder.{item, IsLeastWaiting}
use Rattle.search_tables.proofs.RankLists.{get_map_back}
use Rattle.search_worklist.specs.Waiting.{IsEntailed, IsSettledMove, IsWaiting}

-- a post that entails the fact of its target keeps the table
entailed_keeps : (ps : List Position) (T : Table) (P Q : Point) (post : Post) (k : ℕ) → is_refuted post.conditions ≡ false → IsEntailed T P Q post k
    → effect_of_arrival ps T P Q (Done post) ≡ Keeps
entailed_keeps ps T P Q post k o e =
    ap (λ b. cond b Keeps (look_up_target ps T P Q post (node_target T P Q))) o ∙ ap (look_up_target ps T P Q post) e.target
    ∙ ap (keep_or_join T k e.node post) e.compared
    ∙ ap (λ b. cond b Keeps (weaken_node T k e.node (join e.node.fact post e.missing))) e.nothing

-- a settled move keeps the table
settled_keeps : (m : MachinePair) (ls : List NodeRecord) (n : SearchNode) (x : PathPair) (y : Item) → IsSettledMove m ls n x y
    → effect m (table_of ls) n x ≡ Keeps
settled_keeps m ls n x y s =
    let ps = positions_of m in
    let T = table_of ls in
    let P = end_of n.left x.left in
    let Q = end_of n.right x.right in
    ap (effect_of_arrival ps T P Q) s.valued
    ∙ elim s.holds as (λ z. effect_of_arrival ps T P Q (Done s.post) ≡ Keeps) [
      | inl r ↦ ap (λ b. cond b Keeps (look_up_target ps T P Q s.post (node_target T P Q))) r
      | inr a ↦ entailed_keeps ps T P Q s.post a.number a.is_open a.entailed
    ]

-- moves that keep the table are passed over
pass_moves : (m : MachinePair) (T : Table) (i : ℕ) (n : SearchNode) (xs : List PathPair) (p : ℕ) (x : PathPair) → slice_get xs p ≡ Some x
    → ((q : ℕ) (y : PathPair) → q < p → slice_get xs q ≡ Some y → effect m T n y ≡ Keeps)
    → first_change_of m T i n xs ≡ next_by (move_by i x) (effect m T n x) (first_change_of m T i n (drop (suc p) xs))
pass_moves m T i n [] p x g h = cc
pass_moves m T i n (a ∷ xs) zero x g h = let e : a ≡ x = cc in ap (λ z. next_by (move_by i z) (effect m T n z) (first_change_of m T i n xs)) e
pass_moves m T i n (a ∷ xs) (suc p) x g h =
    let k : effect m T n a ≡ Keeps = h 0 a (omega arith) refl in
    ap (λ e. next_by (move_by i a) e (first_change_of m T i n xs)) k ∙ pass_moves m T i n xs p x g (λ q y lt z. h (suc q) y (omega arith) z)

pass_all : (m : MachinePair) (T : Table) (i : ℕ) (n : SearchNode) (xs : List PathPair)
    → ((q : ℕ) (y : PathPair) → slice_get xs q ≡ Some y → effect m T n y ≡ Keeps) → first_change_of m T i n xs ≡ Nothing
pass_all m T i n [] h = refl
pass_all m T i n (a ∷ xs) h = ap (λ e. next_by (move_by i a) e (first_change_of m T i n xs)) (h 0 a refl) ∙ pass_all m T i n xs (λ q y z. h (suc q) y z)

-- nodes at which nothing is next are passed over
pass_nodes : (m : MachinePair) (T : Table) (ns : List SearchNode) (i k : ℕ) (n : SearchNode) → slice_get ns k ≡ Some n
    → ((j : ℕ) (a : SearchNode) → j < k → slice_get ns j ≡ Some a → next_at m T (i + j) a ≡ Nothing)
    → next_from m T i ns ≡ or_next (next_at m T (i + k) n) (next_from m T (i + k + 1) (drop (suc k) ns))
pass_nodes m T [] i k n g h = cc
pass_nodes m T (a ∷ ns) i zero n g h =
    let e : a ≡ n = cc in
    let at : i ≡ i + 0 = omega arith in
    ap (λ b. or_next (next_at m T i b) (next_from m T (i + 1) ns)) e ∙ ap (λ j. or_next (next_at m T j n) (next_from m T (j + 1) ns)) at
pass_nodes m T (a ∷ ns) i (suc k) n g h =
    let at0 : i + 0 ≡ i = omega arith in
    let here : next_at m T i a ≡ Nothing = subst (λ j. next_at m T j a ≡ Nothing) at0 (h 0 a (omega arith) refl) in
    let at : (i + 1) + k ≡ i + suc k = omega arith in
    ap (λ z. or_next z (next_from m T (i + 1) ns)) here
    ∙ pass_nodes m T ns (i + 1) k n g
    (λ j b lt z. let on : i + suc j ≡ (i + 1) + j = omega arith in subst (λ l. next_at m T l b ≡ Nothing) on (h (suc j) b (omega arith) z))
    ∙ ap (λ j. or_next (next_at m T j n) (next_from m T (j + 1) (drop (suc k) ns))) at

all_nothing : (m : MachinePair) (T : Table) (ns : List SearchNode) (i : ℕ)
    → ((j : ℕ) (a : SearchNode) → slice_get ns j ≡ Some a → next_at m T (i + j) a ≡ Nothing) → next_from m T i ns ≡ Nothing
all_nothing m T [] i h = refl
all_nothing m T (a ∷ ns) i h =
    let at0 : i + 0 ≡ i = omega arith in
    let here : next_at m T i a ≡ Nothing = subst (λ j. next_at m T j a ≡ Nothing) at0 (h 0 a refl) in
    ap (λ z. or_next z (next_from m T (i + 1) ns)) here ∙ all_nothing m T ns (i + 1)
    (λ j b z. let on : i + suc j ≡ (i + 1) + j = omega arith in subst (λ l. next_at m T l b ≡ Nothing) on (h (suc j) b z))

-- what is next where this comes first, whatever comes later
pub record Comes (m : MachinePair) (T : Table) (first : Next → Next) : Type 0 where
  pub rest : Next
  pub after : Next
  pub is : next_move m T ≡ or_next (first rest) after

module _ (m : MachinePair) (ls : List NodeRecord) (waits : Item → Bool) (w : IsWaiting m ls waits) where
  keeps_by : (n : SearchNode) (x : PathPair) (y : Item) → waits y ≡ false → (waits y ≡ true) ⊎ IsSettledMove m ls n x y → effect m (table_of ls) n x ≡ Keeps
  keeps_by n x y f s = elim s [ inl h ↦ (let e = f in cc) | inr h ↦ settled_keeps m ls n x y h ]

  -- at a node of which nothing waits nothing is next
  quiet_record : (j : ℕ) (l : NodeRecord) → slice_get ls j ≡ Some l → ((q : ℕ) → waits (item j q) ≡ false) → next_at m (table_of ls) j l.node ≡ Nothing
  quiet_record j l g f =
      let r = w.rests j l g (f 0) in
      ap (next_in m (table_of ls) j l.node) r.found
      ∙ pass_all m (table_of ls) j l.node (paths_in m l.node r.mode) (λ q x z. keeps_by l.node x (item j (suc q)) (f (suc q)) (r.each q x z))

  quiet_node : (j : ℕ) (n : SearchNode) → slice_get (table_of ls) j ≡ Some n → ((q : ℕ) → waits (item j q) ≡ false) → next_at m (table_of ls) j n ≡ Nothing
  quiet_node j n g f =
      let b = get_map_back (λ (l : NodeRecord). l.node) ls j n g in
      subst (λ a. next_at m (table_of ls) j a ≡ Nothing) b.2 (quiet_record j b.0 b.1 f)

  -- where nothing waits, nothing is next
  pub none_waits : ((j q : ℕ) → waits (item j q) ≡ false) → next_move m (table_of ls) ≡ Nothing
  none_waits f = all_nothing m (table_of ls) (table_of ls) 0
      (λ j n g. let at : j ≡ 0 + j = omega arith in subst (λ i. next_at m (table_of ls) i n ≡ Nothing) at (quiet_node j n g (f j)))

  abbrev later : ℕ → Next
  later i = next_from m (table_of ls) (i + 1) (drop (suc i) (table_of ls))

  least_next : (i p : ℕ) (l : NodeRecord) → IsLeastWaiting waits i p → slice_get ls i ≡ Some l
      → next_move m (table_of ls) ≡ or_next (next_at m (table_of ls) i l.node) (later i)
  least_next i p l least g =
      let at : 0 + i ≡ i = omega arith in
      pass_nodes m (table_of ls) (table_of ls) 0 i l.node (slice_get-of_map (λ (k : NodeRecord). k.node) ls i l g)
      (λ j n lt z. let on : j ≡ 0 + j = omega arith in subst (λ k. next_at m (table_of ls) k n ≡ Nothing) on (quiet_node j n z (λ q. least.of_earlier j q lt)))
      ∙ ap (λ k. or_next (next_at m (table_of ls) k l.node) (next_from m (table_of ls) (k + 1) (drop (suc i) (table_of ls)))) at

  -- the least item is a node: its mode comes first
  pub mode_next : (i : ℕ) (l : NodeRecord) (r : Traced Mode) → IsLeastWaiting waits i 0 → slice_get ls i ≡ Some l → mode_at m l.node ≡ r
      → Comes m (table_of ls) (λ rest. next_in m (table_of ls) i l.node r)
  mode_next i l r least g h = record {
    rest = Nothing;
    after = later i;
    is = least_next i 0 l least g ∙ ap (λ q. or_next (next_in m (table_of ls) i l.node q) (later i)) h;
  }

  -- the least item is a move of its node's mode: it comes first
  pub record Chosen (i p : ℕ) (n : SearchNode) (at : Move) : Type 0 where
    pub mode : Mode
    pub paths : PathPair
    pub listed : slice_get (paths_in m n mode) p ≡ Some paths
    pub is : move_by i paths ≡ at
    pub comes : Comes m (table_of ls) (λ rest. next_by at (effect m (table_of ls) n paths) rest)

  chosen_by : (i p : ℕ) (l : NodeRecord) (mode : Mode) (x : PathPair) (at : Move) → IsLeastWaiting waits i (suc p) → slice_get ls i ≡ Some l
      → mode_at m l.node ≡ Found mode → slice_get (paths_in m l.node mode) p ≡ Some x → move_by i x ≡ at
      → ((q : ℕ) (y : PathPair) → q < p → slice_get (paths_in m l.node mode) q ≡ Some y → effect m (table_of ls) l.node y ≡ Keeps) → Chosen i p l.node at
  chosen_by i p l mode x at least g found listed is keeps =
      let T = table_of ls in
      let rest = first_change_of m T i l.node (drop (suc p) (paths_in m l.node mode)) in
      record {
        mode = mode;
        paths = x;
        listed = listed;
        is = is;
        comes = record {
          rest = rest;
          after = later i;
          is = least_next i (suc p) l least g
              ∙ ap (λ r. or_next (next_in m T i l.node r) (later i)) found
              ∙ ap (λ r. or_next r (later i)) (pass_moves m T i l.node (paths_in m l.node mode) p x listed keeps)
              ∙ ap (λ a. or_next (next_by a (effect m T l.node x) rest) (later i)) is;
        };
      }

  pub move_next : (i p : ℕ) (l : NodeRecord) (xs : List Move) (at : Move) → IsLeastWaiting waits i (suc p) → slice_get ls i ≡ Some l → l.moves ≡ Some xs
      → slice_get xs p ≡ Some at → Chosen i p l.node at
  move_next i p l xs at least g k z =
      let r = w.rests i l g (least.of_same 0 (omega arith)) in
      let same : xs ≡ map (move_by i) (paths_in m l.node r.mode) = (let a = r.listed in cc) in
      let b = get_map_back (move_by i) (paths_in m l.node r.mode) p at (subst (λ ys. slice_get ys p ≡ Some at) same z) in
      chosen_by i p l r.mode b.0 at least g r.found b.1 b.2
      (λ q y lt u. keeps_by l.node y (item i (suc q)) (least.of_same (suc q) (omega arith)) (r.each q y u))
