-- A turn at a move that keeps the table: its item no longer waits.
use Rattle.std.proofs.Common.{◌≡◌, ℕ, zero, suc, ◌<◌, ◌⊎◌, inl, inr, refl, sym, ◌∙◌, ap, subst, arith, true, List, [], ◌∷◌, ◌++◌, length, map, Some, None, Ok}
use Rattle.std.proofs.lemmas.List.{length-map}
use Rattle.std.proofs.lemmas.Option.{slice_get_within}
use Rattle.std.specs.Prelude.{◌≢◌, slice_get, slice_set, sum_by, Result}
use Rattle.std.specs.BTreeSet.{BTreeSet, btree_set_len}
use Rattle.fs_model.proofs.Lists.{slice_get-of_map}
use Rattle.fs_cut.specs.Paths.{Point}
use Rattle.cert_bisimulation.specs.declared.mode.Mode.{Mode}
use Rattle.nf_terms.specs.declared.stop.NfStop.{NfStop}
use Rattle.sym_paths.specs.Execution.{Post, end_of}
use Rattle.search_tables.specs.declared.moves.Move.{Move}
use Rattle.search_tables.specs.SearchTables.{MachinePair, SearchNode, units, node_target, PathPair}
use Rattle.search_tables.specs.Next.{paths_in, move_by}
use Rattle.search_tables.proofs.Forming.{known_in}
use Rattle.search_waiting.specs.declared.item.Item.{Item}
use Rattle.search_places.specs.NodeRecords.{NodeRecord, record_of_node, table_of}
use Rattle.search_places.specs.NodeChanges.{ListsArrival}
use Rattle.search_waiting.specs.ItemOrder.{item, waits, IsLeastWaiting, Drops}
use Rattle.search_tables.proofs.RankLists.{get_snoc, get_map_back, set_same, set_other, same_or_not}
use Rattle.search_worklist.specs.declared.state.State.{State}
use Rattle.search_worklist.specs.declared.trial.Trial.{Trial}
use Rattle.search_worklist.specs.declared.trial.Trial.TheVariants as tried
use Rattle.search_places.specs.Moves.{paths_at}
use Rattle.search_worklist.specs.Trials.{Tries, TriesAt}
use Rattle.search_worklist.specs.Turns.{IsTurned, IsMoveAt, NoMoveAt}
use Rattle.search_worklist.specs.Waiting.{IsEntailed, Arrives, IsSettledMove, IsWaiting}
use Rattle.search_worklist.specs.States.{records, table, Ready, IsReady, record_weight, work_of}
use Rattle.search_places.proofs.Moved.{again}
use Rattle.search_worklist.proofs.Keeping.{Lists, lists_none, lists_one, lists_this, move_done}
use Rattle.search_worklist.proofs.Found.{weight_set, apart}

abbrev more_arrivals : NodeRecord → Item → NodeRecord
more_arrivals l y = record { node = l.node; moves = l.moves; arrivals = l.arrivals ++ y ∷ [] }

-- the item is listed as arriving, or nothing is
pub record MayList (ls ls' : List NodeRecord) (y : Item) : Type 0 where
  pub lists : Lists ls ls'
  pub weights : sum_by record_weight ls' ≡ sum_by record_weight ls
  pub back : (j : ℕ) (z : Item) → Arrives ls' j z → Arrives ls j z ⊎ (y ≡ z)

pub lists_nothing : (ls : List NodeRecord) (y : Item) → MayList ls ls y
lists_nothing ls y = record { lists = lists_none ls; weights = refl; back = λ j z a. inl a }

listed_by : (ls : List NodeRecord) (k : ℕ) (old : NodeRecord) (x : Item) (j : ℕ) (y : Item) → slice_get ls k ≡ Some old
    → Arrives (slice_set ls k (more_arrivals old x)) j y
    → Arrives ls j y ⊎ (x ≡ y)
listed_by ls k old x j y g a = elim (same_or_not j k) [
  | inl e ↦
      (let i : slice_get (slice_set ls k (more_arrivals old x)) k ≡ Some a.node_record =
      subst (λ z. slice_get (slice_set ls k (more_arrivals old x)) z ≡ Some a.node_record) e a.is_in in
      let b : slice_get (slice_set ls k (more_arrivals old x)) k ≡ Some (more_arrivals old x) = set_same ls k old (more_arrivals old x) g in
      let s : a.node_record ≡ more_arrivals old x = cc in
      elim (get_snoc old.arrivals x a.place y (subst (λ (z : NodeRecord). slice_get z.arrivals a.place ≡ Some y) s a.listed)) [
        | inl z ↦ inl (record { node_record = old; is_in = rw e g; place = a.place; listed = z })
        | inr z ↦ inr z.1
      ])
  | inr d ↦ inl (record { node_record = a.node_record; is_in = sym (set_other ls k j (more_arrivals old x) d) ∙ a.is_in; place = a.place; listed = a.listed })
]

pub lists_arrival : (ls ls' : List NodeRecord) (k : ℕ) (y : Item) → ListsArrival ls ls' k y → MayList ls ls' y
lists_arrival ls ls' k y h =
    subst (λ z. MayList ls z y) (sym h.set) (record {
      lists = lists_one ls k h.old (more_arrivals h.old y) y h.is_in refl refl refl;
      weights = (let s = weight_set ls k h.old (more_arrivals h.old y) h.is_in in omega (arith, s));
      back = λ j z a. listed_by ls k h.old y j z h.is_in a;
    })

module _ (m : MachinePair) (ls ls' : List NodeRecord) (w w2 : BTreeSet Item) (n : ℕ) (ready : Ready m ls w n) (y : Item) (p : ℕ) (at : y.place ≡ suc p)
    (waited : waits w y ≡ true) (more : MayList ls ls' y)
    (drops : Drops (waits w) (waits w2) y) (fewer : btree_set_len w2 < btree_set_len w)
    (settles : (l : NodeRecord) (mode : Mode) (x : PathPair) → slice_get ls y.node ≡ Some l → l.moves ≡ Some (map (move_by y.node) (paths_in m l.node mode))
    → slice_get (paths_in m l.node mode) p ≡ Some x → IsSettledMove m ls' l.node x (item y.node (suc p))) where
  is_item : y ≡ item y.node (suc p)
  is_item = λ k. record { node = y.node; place = at k }

  done_waiting : IsWaiting m ls' (waits w2)
  done_waiting = move_done m ls ls' (waits w) (waits w2) ready.waiting more.lists y.node p
      (λ j q h d. drops.stay (item j q) h (λ e. apart j q y.node (suc p) d (sym is_item ∙ e)))
      settles
      (λ j q h. subst (λ a. j < a) (sym more.lists.count) (ready.waiting.in_table j q (drops.only (item j q) h)))

  pub done_ready : Ready m ls' w2 n
  done_ready = record {
    waiting = done_waiting;
    unfound = λ j l g h. let k = more.lists.records j l g in sym k.3 ∙ ready.unfound j k.0 k.1 (drops.only (item j 0) h);
    listed = λ j z a. elim (more.back j z a) [
      | inl b ↦ (let r = ready.listed j z b in (subst (λ c. z.node < c) (sym more.lists.count) r.0, r.1))
      | inr e ↦ (
        subst (λ (b : Item). b.node < length ls') e (subst (λ c. y.node < c) (sym more.lists.count) (ready.waiting.in_table y.node y.place waited)),
        (λ b. (let q : suc p ≡ 0 = sym at ∙ ap (λ (u : Item). u.place) e ∙ b in cc)),
      )
    ];
    sized = ready.sized ∙ ap units (sym more.lists.same);
  }

  pub done_work : work_of ls' w2 < work_of ls w
  done_work = omega (arith, more.weights, fewer)

-- ---- what settles an item
-- the move of an item is the one that was tried
same_moves : (t l : NodeRecord) (xs ys : List Move) → t ≡ l → t.moves ≡ Some xs → l.moves ≡ Some ys → xs ≡ ys
same_moves t l xs ys e g h = let k = ap (λ (q : NodeRecord). q.moves) e in cc

same_paths : (m : MachinePair) (i : ℕ) (n : SearchNode) (mode : Mode) (p : ℕ) (x y : PathPair) (at : Move) → slice_get (paths_in m n mode) p ≡ Some x
    → slice_get (paths_in m n mode) p ≡ Some y → move_by i y ≡ at → (move_by i x ≡ at) × (paths_at m n at ≡ x)
same_paths m i n mode p x y at g h e =
    let same : y ≡ x = cc in
    let is : move_by i x ≡ at = sym (ap (move_by i) same) ∙ e in
    (is, ap (paths_at m n) (sym is) ∙ again m i n mode p x g)

chosen : (m : MachinePair) (ls : List NodeRecord) (y : Item) (at : Move) (t : IsMoveAt ls y at) (l : NodeRecord) (mode : Mode) (x : PathPair) (p : ℕ)
    → y.place ≡ suc p
    → slice_get ls y.node ≡ Some l → l.moves ≡ Some (map (move_by y.node) (paths_in m l.node mode)) → slice_get (paths_in m l.node mode) p ≡ Some x
    → (move_by y.node x ≡ at) × (paths_at m l.node at ≡ x)
chosen m ls y at t l mode x p e g h z =
    let node_record : t.node_record ≡ l = (let a = t.is_in in cc) in
    let known = same_moves t.node_record l t.moves (map (move_by y.node) (paths_in m l.node mode)) node_record t.known h in
    let number : t.number ≡ p = (let a = t.place in omega (arith, a, e)) in
    let b = get_map_back (move_by y.node) (paths_in m l.node mode) p at
    (subst (λ xs. slice_get xs p ≡ Some at) known (subst (λ i. slice_get t.moves i ≡ Some at) number t.listed)) in
    same_paths m y.node l.node mode p x b.0 at z b.1 b.2

-- what settles an item, for each way in which its move may be named
abbrev pub Settles : (m : MachinePair) (ls ls' : List NodeRecord) (y : Item) (p : ℕ) → Type 0
Settles m ls ls' y p = (l : NodeRecord) (mode : Mode) (x : PathPair) → slice_get ls y.node ≡ Some l
    → l.moves ≡ Some (map (move_by y.node) (paths_in m l.node mode))
    → slice_get (paths_in m l.node mode) p ≡ Some x → IsSettledMove m ls' l.node x (item y.node (suc p))

pub none_settles : (m : MachinePair) (ls : List NodeRecord) (y : Item) (p : ℕ) → y.place ≡ suc p → NoMoveAt ls y → Settles m ls ls y p
none_settles m ls y p e none l mode x g h z =
    let gone = none l (map (move_by y.node) (paths_in m l.node mode)) p g h e in
    let there = slice_get-of_map (move_by y.node) (paths_in m l.node mode) p x z in
    absurd (cc)

-- the record of the node of the move that was tried, and its paths
pub same_record : (m : MachinePair) (ls : List NodeRecord) (y : Item) (at : Move) (r : Result Trial NfStop) (l : NodeRecord) (x : PathPair)
    (a : TriesAt m ls at r)
    → slice_get ls y.node ≡ Some l → move_by y.node x ≡ at → paths_at m l.node at ≡ x → Tries m (table_of ls) l.node x r
same_record m ls y at r l x a g is paths =
    let node : at.node ≡ y.node = sym (ap (λ (z : Move). z.node) is) in
    let there : slice_get ls y.node ≡ Some a.node_record = subst (λ i. slice_get ls i ≡ Some a.node_record) node a.is_in in
    let node_record : a.node_record ≡ l = cc in
    subst (λ z. Tries m (table_of ls) l.node z r) paths (subst (λ (z : NodeRecord). Tries m (table_of ls) z.node (paths_at m z.node at) r) node_record a.tries)

pub refuted_settles : (m : MachinePair) (ls : List NodeRecord) (y : Item) (at : Move) (t : IsMoveAt ls y at) (p : ℕ) → y.place ≡ suc p
    → TriesAt m ls at (Ok tried.Refuted) → Settles m ls ls y p
refuted_settles m ls y at t p e a l mode x g h z =
    let c = chosen m ls y at t l mode x p e g h z in
    let r = same_record m ls y at (Ok tried.Refuted) l x a g c.0 c.1 in
    record { post = r.0; valued = r.1; holds = inl r.2 }

pub entailed_settles : (m : MachinePair) (ls ls' : List NodeRecord) (y : Item) (at : Move) (t : IsMoveAt ls y at) (p k : ℕ) → y.place ≡ suc p
    → TriesAt m ls at (Ok (tried.Entailed k)) → ListsArrival ls ls' k y → Settles m ls ls' y p
entailed_settles m ls ls' y at t p k place a h l mode x g known z =
    let c = chosen m ls y at t l mode x p place g known z in
    let r = same_record m ls y at (Ok (tried.Entailed k)) l x a g c.0 c.1 in
    let e = r.2.1 in
    let P = end_of l.node.left x.left in
    let Q = end_of l.node.right x.right in
    let same = (lists_arrival ls ls' k y h).lists.same in
    let is : y ≡ item y.node (suc p) = λ i. record { node = y.node; place = place i } in
    let here : Arrives ls' k y = subst (λ b. Arrives b k y) (sym h.set) (lists_this ls k h.old (more_arrivals h.old y) y h.is_in refl) in
    record {
      post = r.0;
      valued = r.1;
      holds = inr (record {
        is_open = r.2.0;
        number = k;
        entailed = record {
          node = e.node;
          target = ap (λ T. node_target T P Q) same ∙ e.target;
          missing = e.missing;
          compared = e.compared;
          nothing = e.nothing;
        };
        arrives = subst (λ b. Arrives ls' k b) is here;
      });
    }

-- the target of a move that was tried is a node
target_within : (ls : List NodeRecord) (P Q : Point) (post : Post) (k : ℕ) → IsEntailed (table_of ls) P Q post k → k < length ls
target_within ls P Q post k e =
    let j = known_in P Q 0 (table_of ls) k e.node e.target in
    let h = slice_get_within (table_of ls) j.0 e.node j.2 in
    omega (arith, j.1, h, length-map ls (λ (l : NodeRecord). l.node))

pub entailed_within : (m : MachinePair) (s : State) (at : Move) (k : ℕ) → TriesAt m (records s) at (Ok (tried.Entailed k)) → k < length s.entries.entries
entailed_within m s at k a =
    let n = a.node_record.node in
    let x = paths_at m n at in
    let t = a.tries in
    omega (arith, target_within (records s) (end_of n.left x.left) (end_of n.right x.right) t.0 k t.2.1, length-map s.entries.entries record_of_node)

-- a table has as many nodes as its map has entries
pub as_many : (s : State) (n : ℕ) → n ≡ length s.entries.entries → n ≡ length (table s)
as_many s n e = e ∙ sym (length-map s.entries.entries record_of_node) ∙ sym (length-map (records s) (λ (l : NodeRecord). l.node))

-- a turn that ends an item
pub place_before : (n : ℕ) → n ≢ 0 → (p : ℕ) × (n ≡ suc p)
place_before zero h = absurd (h refl)
place_before (suc p) h = (p, refl)

pub done_turned : (m : MachinePair) (s t : State) (y : Item) (p : ℕ) → IsReady m s → t.units ≡ s.units → y.place ≡ suc p → waits s.waiting y ≡ true
    → MayList (records s) (records t) y → Drops (waits s.waiting) (waits t.waiting) y → btree_set_len t.waiting < btree_set_len s.waiting
    → Settles m (records s) (records t) y p → IsTurned m s t None
done_turned m s t y p ready units at waited more drops fewer settles = record {
  ready = subst (Ready m (records t) t.waiting) (sym units)
      (done_ready m (records s) (records t) s.waiting t.waiting s.units ready y p at waited more drops fewer settles);
  same = more.lists.same;
  finds = done_work m (records s) (records t) s.waiting t.waiting s.units ready y p at waited more drops fewer settles;
}

-- the move of an item is of the item's node
pub move_within : (m : MachinePair) (s : State) (y : Item) (at : Move) → IsReady m s → IsLeastWaiting (waits s.waiting) y.node y.place
    → IsMoveAt (records s) y at → at.node < length (records s)
move_within m s y at ready least t =
    let first : 0 < y.place = (let e = t.place in omega (arith, e)) in
    let r = ready.waiting.rests y.node t.node_record t.is_in (least.of_same 0 first) in
    let known : t.moves ≡ map (move_by y.node) (paths_in m t.node_record.node r.mode) = (let a = t.known in let b = r.listed in cc) in
    let b = get_map_back (move_by y.node) (paths_in m t.node_record.node r.mode) t.number at (subst (λ xs. slice_get xs t.number ≡ Some at) known t.listed) in
    let node : y.node ≡ at.node = ap (λ (z : Move). z.node) b.2 in
    subst (λ i. i < length (records s)) node (slice_get_within (records s) y.node t.node_record t.is_in)
