-- What is known of what waits stays, however nodes or what waits change.
use Rattle.std.proofs.Common.{◌≡◌, ℕ, suc, ◌<◌, ◌⊎◌, inl, inr, refl, sym, ◌∙◌, ap, subst, arith, Bool, true, List, [], ◌∷◌, ◌++◌, length, map, Some}
use Rattle.std.specs.Prelude.{◌≢◌, Option, slice_get, slice_set}
use Rattle.std.proofs.lemmas.List.{map-set, map-append, length-set}
use Rattle.std.proofs.lemmas.Option.{slice_get_within, get_or_from_slice_get}
use Rattle.std.proofs.Math.Seq.{map-set_same}
use Rattle.fs_model.proofs.Lists.{slice_get-front, slice_get-of_map}
use Rattle.fs_cut.specs.Paths.{Point}
use Rattle.cert_bisimulation.specs.declared.mode.Mode.{Mode}
use Rattle.sym_paths.specs.Execution.{end_of}
use Rattle.propagate.specs.Modes.{Found}
use Rattle.search_tables.specs.declared.moves.Move.{Move}
use Rattle.search_tables.specs.SearchTables.{MachinePair, SearchNode, Known, node_target, PathPair}
use Rattle.search_tables.specs.Next.{mode_at, paths_in, move_by}
use Rattle.search_waiting.specs.declared.item.Item.{Item}
use Rattle.search_places.specs.NodeRecords.{NodeRecord, table_of}
use Rattle.search_waiting.specs.ItemOrder.{item}
use Rattle.search_tables.proofs.RankLists.{set_same, set_other, get_last, get_snoc, same_or_not, not_before}
use Rattle.search_worklist.specs.Waiting.{Arrives, IsSettledMove, Rests, IsWaiting}
use Rattle.search_worklist.proofs.Lookups.{target_front, target_other}

abbrev Status : (m : MachinePair) (ls : List NodeRecord) (waits : Item → Bool) (n : SearchNode) (x : PathPair) (y : Item) → Type 0
Status m ls waits n x y = (waits y ≡ true) ⊎ IsSettledMove m ls n x y

rests_on : (m : MachinePair) (ls ls' : List NodeRecord) (waits waits' : Item → Bool) (i : ℕ) (n : SearchNode) (moves : Option (List Move))
    → Rests m ls waits i n moves
    → ((q : ℕ) (x : PathPair) → Status m ls waits n x (item i (suc q)) → Status m ls' waits' n x (item i (suc q))) → Rests m ls' waits' i n moves
rests_on m ls ls' waits waits' i n moves r pass = record { mode = r.mode; found = r.found; listed = r.listed; each = λ p x g. pass p x (r.each p x g) }

-- a settled move stays settled where its target stays, or waits
settled_on : (m : MachinePair) (ls ls' : List NodeRecord) (waits' : Item → Bool) (n : SearchNode) (x : PathPair) (y : Item) → IsSettledMove m ls n x y
    → ((P Q : Point) (k : ℕ) (g : SearchNode) → node_target (table_of ls) P Q ≡ Known k g → Arrives ls k y
    → (waits' y ≡ true) ⊎ ((node_target (table_of ls') P Q ≡ Known k g) × Arrives ls' k y))
    → Status m ls' waits' n x y
settled_on m ls ls' waits' n x y s on =
    elim s.holds [
      | inl r ↦ inr (record { post = s.post; valued = s.valued; holds = inl r })
      | inr a ↦ elim (on (end_of n.left x.left) (end_of n.right x.right) a.number a.entailed.node a.entailed.target a.arrives) [
        | inl w ↦ inl w
        | inr t ↦ inr (record {
          post = s.post;
          valued = s.valued;
          holds =
              inr
              (record {
                is_open = a.is_open;
                number = a.number;
                entailed = record {
                  node = a.entailed.node;
                  target = t.0;
                  missing = a.entailed.missing;
                  compared = a.entailed.compared;
                  nothing = a.entailed.nothing;
                };
                arrives = t.1;
              });
        })
      ]
    ]

-- a node is added, and waits
module _ (m : MachinePair) (ls : List NodeRecord) (waits waits' : Item → Bool) (w : IsWaiting m ls waits) (l : NodeRecord)
    (stay : (y : Item) → waits y ≡ true → waits' y ≡ true) (fresh : waits' (item (length ls) 0) ≡ true)
    (in_table : (i p : ℕ) → waits' (item i p) ≡ true → i < length (ls ++ l ∷ [])) where
  arrives_front : (k : ℕ) (y : Item) → Arrives ls k y → Arrives (ls ++ l ∷ []) k y
  arrives_front k y a = record { node_record = a.node_record; is_in = slice_get-front ls (l ∷ []) k a.node_record a.is_in; place = a.place; listed = a.listed }

  pass_new : (n : SearchNode) (x : PathPair) (y : Item) → Status m ls waits n x y → Status m (ls ++ l ∷ []) waits' n x y
  pass_new a x y s = elim s [
    | inl h ↦ inl (stay y h)
    | inr h ↦ settled_on m ls (ls ++ l ∷ []) waits' a x y h (λ P Q k g t z. inr (
      rw map-append (target_front P Q 0 k g (table_of ls) (l.node ∷ []) t),
      arrives_front k y z,
    ))
  ]

  pub node_added : IsWaiting m (ls ++ l ∷ []) waits'
  node_added = record {
    rests = λ j k g f. elim (get_snoc ls l j k g) [
      | inl h ↦ rests_on m ls (ls ++ l ∷ []) waits waits' j k.node k.moves
          (w.rests j k h (not_before (waits (item j 0)) (waits' (item j 0)) f (stay (item j 0)))) (λ q x. pass_new k.node x (item j (suc q)))
      | inr h ↦ absurd (let e : waits' (item j 0) ≡ true = rw h.0 fresh in let k = f in cc)
    ];
    in_table = in_table;
  }

-- the fact of node k changes: it waits, and so do the items that arrived at it
module _ (m : MachinePair) (ls : List NodeRecord) (waits waits' : Item → Bool) (w : IsWaiting m ls waits) (k : ℕ) (old new : NodeRecord)
    (is_in : slice_get ls k ≡ Some old)
    (left : new.node.left ≡ old.node.left) (right : new.node.right ≡ old.node.right)
    (stay : (y : Item) → waits y ≡ true → waits' y ≡ true) (fresh : waits' (item k 0) ≡ true) (woken : (y : Item) → Arrives ls k y → waits' y ≡ true)
    (in_table : (i p : ℕ) → waits' (item i p) ≡ true → i < length (slice_set ls k new)) where
  arrives_other : (j : ℕ) (y : Item) → j ≢ k → Arrives ls j y → Arrives (slice_set ls k new) j y
  arrives_other j y d a = record { node_record = a.node_record; is_in = set_other ls k j new d ∙ a.is_in; place = a.place; listed = a.listed }

  pass_other : (n : SearchNode) (x : PathPair) (y : Item) → Status m ls waits n x y → Status m (slice_set ls k new) waits' n x y
  pass_other a x y s = elim s [
    | inl h ↦ inl (stay y h)
    | inr h ↦ settled_on m ls (slice_set ls k new) waits' a x y h (λ P Q j g t z. elim (same_or_not j k) [
      | inl e ↦ inl (woken y (subst (λ i. Arrives ls i y) e z))
      | inr d ↦ inr (
        rw map-set
            (target_other P Q 0 j k old.node new.node g (table_of ls) (slice_get-of_map (λ (z : NodeRecord). z.node) ls k old is_in) left right
            (λ e. d (omega arith)) t),
        arrives_other j y d z,
      )
    ])
  ]

  pub fact_changed : IsWaiting m (slice_set ls k new) waits'
  fact_changed = record {
    rests = λ j l g f. elim (same_or_not j k) [
      | inl e ↦ absurd (let h : waits' (item j 0) ≡ true = rw e fresh in let u = f in cc)
      | inr d ↦ rests_on m ls (slice_set ls k new) waits waits' j l.node l.moves
          (w.rests j l (sym (set_other ls k j new d) ∙ g) (not_before (waits (item j 0)) (waits' (item j 0)) f (stay (item j 0))))
          (λ q x. pass_other l.node x (item j (suc q)))
    ];
    in_table = in_table;
  }

-- a node's mode is found, and its moves wait
module _ (m : MachinePair) (ls : List NodeRecord) (waits waits' : Item → Bool) (w : IsWaiting m ls waits) (k : ℕ) (old new : NodeRecord)
    (is_in : slice_get ls k ≡ Some old)
    (same : new.node ≡ old.node) (arrivals : new.arrivals ≡ old.arrivals) (mode : Mode) (found : mode_at m new.node ≡ Found mode)
    (listed : new.moves ≡ Some (map (move_by k) (paths_in m new.node mode)))
    (stay : (j q : ℕ) → waits (item j q) ≡ true → ((j ≡ k) × (q ≡ 0) → ⊥) → waits' (item j q) ≡ true)
    (fresh : (p : ℕ) → p < length (paths_in m new.node mode) → waits' (item k (suc p)) ≡ true)
    (in_table : (i p : ℕ) → waits' (item i p) ≡ true → i < length (slice_set ls k new)) where
  same_table : table_of (slice_set ls k new) ≡ table_of ls
  same_table = map-set_same (λ (l : NodeRecord). l.node) ls k new old (same ∙ sym (ap (λ (l : NodeRecord). l.node) (get_or_from_slice_get ls k old old is_in)))

  arrives_same : (j : ℕ) (y : Item) → Arrives ls j y → Arrives (slice_set ls k new) j y
  arrives_same j y a = elim (same_or_not j k) [
    | inl e ↦ (let i : slice_get ls j ≡ Some old = rw e is_in in
        let l : a.node_record ≡ old = (let h = a.is_in in cc) in
        record {
          node_record = new;
          is_in = rw e (set_same ls k old new is_in);
          place = a.place;
          listed = rw arrivals (subst (λ (z : NodeRecord). slice_get z.arrivals a.place ≡ Some y) l a.listed);
        })
    | inr d ↦ record { node_record = a.node_record; is_in = set_other ls k j new d ∙ a.is_in; place = a.place; listed = a.listed }
  ]

  pass_same : (n : SearchNode) (x : PathPair) (j q : ℕ) → Status m ls waits n x (item j (suc q)) → Status m (slice_set ls k new) waits' n x (item j (suc q))
  pass_same a x j q s = elim s [
    | inl h ↦ inl (stay j (suc q) h (λ z. (let e = z.1 in cc)))
    | inr h ↦ settled_on m ls (slice_set ls k new) waits' a x (item j (suc q)) h
        (λ P Q i g t z. inr (ap (λ T. node_target T P Q) same_table ∙ t, arrives_same i (item j (suc q)) z))
  ]

  pub mode_found : IsWaiting m (slice_set ls k new) waits'
  mode_found = record {
    rests = λ j l g f. elim (same_or_not j k) [
      | inl e ↦ (let i : slice_get (slice_set ls k new) k ≡ Some l = subst (λ z. slice_get (slice_set ls k new) z ≡ Some l) e g in
          let h : slice_get (slice_set ls k new) k ≡ Some new = set_same ls k old new is_in in
          let n : new ≡ l = cc in
          subst (λ (z : NodeRecord). Rests m (slice_set ls k new) waits' j z.node z.moves) n
          (subst (λ z. Rests m (slice_set ls k new) waits' z new.node new.moves) (sym e)
          (record { mode = mode; found = found; listed = listed; each = λ p x g. inl (fresh p (slice_get_within (paths_in m new.node mode) p x g)) })))
      | inr d ↦ rests_on m ls (slice_set ls k new) waits waits' j l.node l.moves
          (w.rests j l (sym (set_other ls k j new d) ∙ g) (not_before (waits (item j 0)) (waits' (item j 0)) f (λ h. stay j 0 h (λ z. d z.0))))
          (λ q x. pass_same l.node x j q)
    ];
    in_table = in_table;
  }

-- more items are listed as arriving, and nothing else changes
pub record Lists (ls ls' : List NodeRecord) : Type 0 where
  pub same : table_of ls' ≡ table_of ls
  pub records : (j : ℕ) (l : NodeRecord) → slice_get ls' j ≡ Some l → (k : NodeRecord) × (slice_get ls j ≡ Some k) × (k.node ≡ l.node) × (k.moves ≡ l.moves)
  pub arrives : (j : ℕ) (y : Item) → Arrives ls j y → Arrives ls' j y
  pub count : length ls' ≡ length ls

pub lists_none : (ls : List NodeRecord) → Lists ls ls
lists_none ls = record { same = refl; records = λ j l g. (l, g, refl, refl); arrives = λ j y a. a; count = refl }

pub lists_one : (ls : List NodeRecord) (k : ℕ) (old new : NodeRecord) (y : Item) → slice_get ls k ≡ Some old → new.node ≡ old.node → new.moves ≡ old.moves
    → new.arrivals ≡ old.arrivals ++ y ∷ [] → Lists ls (slice_set ls k new)
lists_one ls k old new y is_in n ms a = record {
  same = map-set_same (λ (l : NodeRecord). l.node) ls k new old (n ∙ sym (ap (λ (l : NodeRecord). l.node) (get_or_from_slice_get ls k old old is_in)));
  records = λ j l g. elim (same_or_not j k) [
    | inl e ↦ (let i : slice_get (slice_set ls k new) k ≡ Some l = subst (λ z. slice_get (slice_set ls k new) z ≡ Some l) e g in
        let h : slice_get (slice_set ls k new) k ≡ Some new = set_same ls k old new is_in in
        let s : new ≡ l = cc in
        (old, rw e is_in, sym n ∙ ap (λ (z : NodeRecord). z.node) s, sym ms ∙ ap (λ (z : NodeRecord). z.moves) s))
    | inr d ↦ (l, sym (set_other ls k j new d) ∙ g, refl, refl)
  ];
  arrives = λ j z w. elim (same_or_not j k) [
    | inl e ↦ (let i : slice_get ls j ≡ Some old = rw e is_in in
        let l : w.node_record ≡ old = (let h = w.is_in in cc) in
        record {
          node_record = new;
          is_in = rw e (set_same ls k old new is_in);
          place = w.place;
          listed = rw a (slice_get-front old.arrivals (y ∷ []) w.place z (subst (λ (b : NodeRecord). slice_get b.arrivals w.place ≡ Some z) l w.listed));
        })
    | inr d ↦ record { node_record = w.node_record; is_in = set_other ls k j new d ∙ w.is_in; place = w.place; listed = w.listed }
  ];
  count = length-set ls k new;
}

-- the item that was added is listed
pub lists_this : (ls : List NodeRecord) (k : ℕ) (old new : NodeRecord) (y : Item) → slice_get ls k ≡ Some old → new.arrivals ≡ old.arrivals ++ y ∷ []
    → Arrives (slice_set ls k new) k y
lists_this ls k old new y is_in a = record {
  node_record = new;
  is_in = set_same ls k old new is_in;
  place = length old.arrivals;
  listed = rw a (get_last old.arrivals y);
}

-- an item no longer waits, which is settled, or no move in its node's mode
module _ (m : MachinePair) (ls ls' : List NodeRecord) (waits waits' : Item → Bool) (w : IsWaiting m ls waits) (more : Lists ls ls') (i p : ℕ)
    (stay : (j q : ℕ) → waits (item j q) ≡ true → ((j ≡ i) × (q ≡ suc p) → ⊥) → waits' (item j q) ≡ true)
    (settles : (l : NodeRecord) (mode : Mode) (x : PathPair) → slice_get ls i ≡ Some l → l.moves ≡ Some (map (move_by i) (paths_in m l.node mode))
    → slice_get (paths_in m l.node mode) p ≡ Some x → IsSettledMove m ls' l.node x (item i (suc p)))
    (in_table : (j q : ℕ) → waits' (item j q) ≡ true → j < length ls') where
  pass_more : (n : SearchNode) (x : PathPair) (y : Item) → IsSettledMove m ls n x y → Status m ls' waits' n x y
  pass_more n x y s = settled_on m ls ls' waits' n x y s (λ P Q k g t z. inr (ap (λ T. node_target T P Q) more.same ∙ t, more.arrives k y z))

  wakes : (l : NodeRecord) (mode : Mode) (x : PathPair) (j q : ℕ) → slice_get ls j ≡ Some l → l.moves ≡ Some (map (move_by j) (paths_in m l.node mode))
      → slice_get (paths_in m l.node mode) q ≡ Some x → waits (item j (suc q)) ≡ true → Status m ls' waits' l.node x (item j (suc q))
  wakes l mode x j q g h z f =
      elim (same_or_not j i) [
        | inl e ↦ elim (same_or_not q p) [
          | inl d ↦ inr (subst (λ a. IsSettledMove m ls' l.node x (item a (suc q))) (sym e) (subst (λ b. IsSettledMove m ls' l.node x (item i (suc b))) (sym d)
              (settles l mode x (subst (λ a. slice_get ls a ≡ Some l) e g) (subst (λ a. l.moves ≡ Some (map (move_by a) (paths_in m l.node mode))) e h)
              (subst (λ b. slice_get (paths_in m l.node mode) b ≡ Some x) d z))))
          | inr d ↦ inl (stay j (suc q) f (λ a. d (let b = a.1 in cc)))
        ]
        | inr d ↦ inl (stay j (suc q) f (λ a. d a.0))
      ]

  each_on : (l : NodeRecord) (j : ℕ) → slice_get ls j ≡ Some l → (r : Rests m ls waits j l.node l.moves) → Rests m ls' waits' j l.node l.moves
  each_on l j g r = record {
    mode = r.mode;
    found = r.found;
    listed = r.listed;
    each = λ q x z. elim (r.each q x z) [
      | inl f ↦ wakes l r.mode x j q g r.listed z f
      | inr s ↦ pass_more l.node x (item j (suc q)) s
    ];
  }

  pub move_done : IsWaiting m ls' waits'
  move_done = record {
    rests = λ j l g f.
        let k = more.records j l g in
        subst (λ n. Rests m ls' waits' j n l.moves) k.2 (subst (λ ms. Rests m ls' waits' j k.0.node ms) k.3
        (each_on k.0 j k.1 (w.rests j k.0 k.1 (not_before (waits (item j 0)) (waits' (item j 0)) f (λ h. stay j 0 h (λ a. (let b = a.1 in cc)))))));
    in_table = in_table;
  }
