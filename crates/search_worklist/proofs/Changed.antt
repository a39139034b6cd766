-- A change of the table keeps what holds of a state.
use Rattle.std.proofs.Common.{◌≡◌, ℕ, ◌+◌, ◌<◌, ◌≤◌, ◌⊎◌, inl, inr, refl, sym, ◌∙◌, ap, subst, arith, true, List, [], ◌∷◌, ◌++◌, length, Some, None}
use Rattle.std.proofs.lemmas.List.{length-set, length-map, length-append, map-append, map-set}
use Rattle.std.proofs.lemmas.Option.{slice_get_within}
use Rattle.std.specs.Prelude.{◌≢◌, slice_get, slice_set}
use Rattle.std.specs.List.{list_any}
use Rattle.std.specs.BTreeMap.{is_at}
use Rattle.std.specs.BTreeSet.{BTreeSet}
use Rattle.fs_cut.specs.Paths.{Point}
use Rattle.sym_facts.specs.Facts.{Fact}
use Rattle.search_tables.specs.SearchTables.{MachinePair, units}
use Rattle.search_waiting.specs.declared.item.Item.{Item}
use Rattle.search_tables.specs.declared.pairs.PointPair.{PointPair}
use Rattle.search_places.specs.declared.node_state.NodeState.{NodeState}
use Rattle.search_places.specs.NodeRecords.{NodeRecord, node_with_fact, node_records, table_of}
use Rattle.search_places.specs.NodeChanges.{fresh, PutsLast, PutsAgain, PutsNode}
use Rattle.search_waiting.specs.ItemOrder.{item, item_cmp, waits, Adds, AddsAll}
use Rattle.search_tables.proofs.RankLists.{get_snoc, set_same, set_other, same_or_not}
use Rattle.search_worklist.specs.NodeUpdates.{put_by, put_fact, number_by, node_number}
use Rattle.search_worklist.specs.Waiting.{Arrives}
use Rattle.search_worklist.specs.States.{Ready}
use Rattle.search_worklist.proofs.Keeping.{node_added, fact_changed}
use Rattle.search_worklist.proofs.Found.{arrives_back}

node_of_item : (x y : Item) → x ≡ y → x.node ≡ y.node
node_of_item x y e = ap (λ (z : Item). z.node) e

-- ---- a node is made
module _ (ls ls' : List NodeRecord) (P Q : Point) (f : Fact) (k : ℕ) (ys : List Item) (p : PutsLast ls ls' P Q f k ys) where
  pub last_table : table_of ls' ≡ put_fact (table_of ls) P Q f
  last_table = ap table_of p.last ∙ map-append (λ (l : NodeRecord). l.node) ls (fresh P Q f ∷ []) ∙ sym (ap (put_by (table_of ls) P Q f) p.target)

  pub last_number : k ≡ node_number (table_of ls) P Q
  last_number = p.number ∙ sym (length-map ls (λ (l : NodeRecord). l.node)) ∙ sym (ap (number_by (table_of ls)) p.target)

  module _ (m : MachinePair) (w w1 w2 : BTreeSet Item) (n n' : ℕ) (ready : Ready m ls w n) (adds : Adds (waits w) (waits w1) (item k 0))
      (all : AddsAll (waits w1) (waits w2) ys) (sized : n' ≡ units (put_fact (table_of ls) P Q f)) where
    longer : length (ls ++ fresh P Q f ∷ []) ≡ length ls + 1
    longer = length-append ls (fresh P Q f ∷ [])

    -- an item that waits waited before, or is the node
    before : (y : Item) → waits w2 y ≡ true → (waits w y ≡ true) ⊎ (item k 0 ≡ y)
    before y h = elim (all.only y h) [
      | inl a ↦ adds.only y a
      | inr a ↦ absurd (let q : slice_get [] a.0 ≡ Some y = subst (λ (b : List Item). slice_get b a.0 ≡ Some y) p.none a.1 in cc)
    ]

    in_added : (i q : ℕ) → waits w2 (item i q) ≡ true → i < length (ls ++ fresh P Q f ∷ [])
    in_added i q h = elim (before (item i q) h) [
      | inl a ↦ (let b = ready.waiting.in_table i q a in omega (arith, longer))
      | inr e ↦ (let b : k ≡ i = node_of_item (item k 0) (item i q) e in let c = p.number in omega (arith, longer))
    ]

    added_unfound : (i : ℕ) (l : NodeRecord) → slice_get (ls ++ fresh P Q f ∷ []) i ≡ Some l → waits w2 (item i 0) ≡ true → l.moves ≡ None
    added_unfound i l g h = elim (get_snoc ls (fresh P Q f) i l g) [
      | inl a ↦ elim (before (item i 0) h) [
        | inl b ↦ ready.unfound i l a b
        | inr e ↦ absurd (let b : k ≡ i = node_of_item (item k 0) (item i 0) e in let z = slice_get_within ls i l a in let c = p.number in omega arith)
      ]
      | inr a ↦ subst (λ (z : NodeRecord). z.moves ≡ None) a.1 refl
    ]

    added_listed : (j : ℕ) (y : Item) → Arrives (ls ++ fresh P Q f ∷ []) j y → (y.node < length (ls ++ fresh P Q f ∷ [])) × (y.place ≢ 0)
    added_listed j y a = elim (get_snoc ls (fresh P Q f) j a.node_record a.is_in) [
      | inl g ↦
          (let r = ready.listed j y (record { node_record = a.node_record; is_in = g; place = a.place; listed = a.listed }) in
          (omega (arith, longer, r.0), r.1))
      | inr g ↦ absurd (let q : slice_get [] a.place ≡ Some y = subst (λ (b : NodeRecord). slice_get b.arrivals a.place ≡ Some y) (sym g.1) a.listed in cc)
    ]

    pub last_ready : Ready m ls' w2 n'
    last_ready = subst (λ z. Ready m z w2 n') (sym p.last) (record {
      waiting = node_added m ls (waits w) (waits w2) ready.waiting (fresh P Q f) (λ y h. all.stay y (adds.stay y h))
          (subst (λ j. waits w2 (item j 0) ≡ true) p.number (all.stay (item k 0) adds.fresh)) in_added;
      unfound = added_unfound;
      listed = added_listed;
      sized = sized ∙ sym (ap units (sym (ap table_of p.last) ∙ last_table));
    })

-- ---- a node gets another fact
module _ (ls ls' : List NodeRecord) (P Q : Point) (f : Fact) (k : ℕ) (ys : List Item) (p : PutsAgain ls ls' P Q f k ys) where
  pub again_table : table_of ls' ≡ put_fact (table_of ls) P Q f
  again_table = ap table_of p.set ∙ map-set (λ (l : NodeRecord). l.node) ls k (fresh p.old.node.left p.old.node.right f)
      ∙ sym (ap (put_by (table_of ls) P Q f) p.target)

  pub again_number : k ≡ node_number (table_of ls) P Q
  again_number = sym (ap (number_by (table_of ls)) p.target)

  module _ (m : MachinePair) (w w1 w2 : BTreeSet Item) (n n' : ℕ) (ready : Ready m ls w n) (adds : Adds (waits w) (waits w1) (item k 0))
      (all : AddsAll (waits w1) (waits w2) ys) (sized : n' ≡ units (put_fact (table_of ls) P Q f)) where
    woken : (y : Item) → Arrives ls k y → waits w2 y ≡ true
    woken y a =
        let e : a.node_record ≡ p.old = (let b = a.is_in in let c = p.is_in in cc) in
        all.fresh a.place y
        (subst (λ (b : List Item). slice_get b a.place ≡ Some y) (sym p.woken) (subst (λ (b : NodeRecord). slice_get b.arrivals a.place ≡ Some y) e a.listed))

    -- an item that waits waited before, or is the node, or arrived there
    before_again : (y : Item) → waits w2 y ≡ true → (waits w y ≡ true) ⊎ ((item k 0 ≡ y) ⊎ Arrives ls k y)
    before_again y h = elim (all.only y h) [
      | inl a ↦ elim (adds.only y a) [ inl b ↦ inl b | inr b ↦ inr (inl b) ]
      | inr a ↦
          (let listed = subst (λ (b : List Item). slice_get b a.0 ≡ Some y) p.woken a.1 in
          inr (inr (record { node_record = p.old; is_in = p.is_in; place = a.0; listed = listed })))
    ]

    in_ls : (i q : ℕ) → waits w2 (item i q) ≡ true → i < length ls
    in_ls i q h = elim (before_again (item i q) h) [
      | inl a ↦ ready.waiting.in_table i q a
      | inr a ↦ elim a [
        | inl e ↦ (let b : k ≡ i = node_of_item (item k 0) (item i q) e in subst (λ z. z < length ls) b (slice_get_within ls k p.old p.is_in))
        | inr b ↦ (ready.listed k (item i q) b).0
      ]
    ]

    again_unfound : (i : ℕ) (l : NodeRecord) → slice_get (slice_set ls k (fresh p.old.node.left p.old.node.right f)) i ≡ Some l → waits w2 (item i 0) ≡ true
        → l.moves ≡ None
    again_unfound i l g h =
        let new : NodeRecord = fresh p.old.node.left p.old.node.right f in
        elim (same_or_not i k) [
          | inl e ↦ (let a : slice_get (slice_set ls k new) k ≡ Some l = subst (λ z. slice_get (slice_set ls k new) z ≡ Some l) e g in
              let b : slice_get (slice_set ls k new) k ≡ Some new = set_same ls k p.old new p.is_in in
              let s : new ≡ l = cc in
              subst (λ (z : NodeRecord). z.moves ≡ None) s refl)
          | inr d ↦ elim (before_again (item i 0) h) [
            | inl a ↦ ready.unfound i l (sym (set_other ls k i new d) ∙ g) a
            | inr a ↦ elim a [
              | inl e ↦ absurd (d (sym (node_of_item (item k 0) (item i 0) e)))
              | inr b ↦ absurd ((ready.listed k (item i 0) b).1 refl)
            ]
          ]
        ]

    again_listed : (j : ℕ) (y : Item) → Arrives (slice_set ls k (fresh p.old.node.left p.old.node.right f)) j y
        → (y.node < length (slice_set ls k (fresh p.old.node.left p.old.node.right f))) × (y.place ≢ 0)
    again_listed j y a =
        let new : NodeRecord = fresh p.old.node.left p.old.node.right f in
        let r = ready.listed j y (arrives_back ls k p.old new j y p.is_in (λ i z. absurd (cc)) a) in
        (subst (λ z. y.node < z) (sym (length-set ls k new)) r.0, r.1)

    pub again_ready : Ready m ls' w2 n'
    again_ready =
        let new : NodeRecord = fresh p.old.node.left p.old.node.right f in
        subst (λ z. Ready m z w2 n') (sym p.set) (record {
          waiting = fact_changed m ls (waits w) (waits w2) ready.waiting k p.old new p.is_in refl refl (λ y h. all.stay y (adds.stay y h))
              (all.stay (item k 0) adds.fresh) woken
              (λ i q h. subst (λ z. i < z) (sym (length-set ls k new)) (in_ls i q h));
          unfound = again_unfound;
          listed = again_listed;
          sized = sized ∙ sym (ap units (sym (ap table_of p.set) ∙ again_table));
        })

-- ---- either
pub put_table : (ls ls' : List NodeRecord) (P Q : Point) (f : Fact) (k : ℕ) (ys : List Item) → PutsNode ls ls' P Q f k ys
    → table_of ls' ≡ put_fact (table_of ls) P Q f
put_table ls ls' P Q f k ys p = elim p [ inl a ↦ last_table ls ls' P Q f k ys a | inr a ↦ again_table ls ls' P Q f k ys a ]

pub put_number : (ls ls' : List NodeRecord) (P Q : Point) (f : Fact) (k : ℕ) (ys : List Item) → PutsNode ls ls' P Q f k ys → k ≡ node_number (table_of ls) P Q
put_number ls ls' P Q f k ys p = elim p [ inl a ↦ last_number ls ls' P Q f k ys a | inr a ↦ again_number ls ls' P Q f k ys a ]

pub put_ready : (ls ls' : List NodeRecord) (P Q : Point) (f : Fact) (k : ℕ) (ys : List Item) → PutsNode ls ls' P Q f k ys
    → (m : MachinePair) (w w1 w2 : BTreeSet Item) (n n' : ℕ) → Adds (waits w) (waits w1) (item k 0) → AddsAll (waits w1) (waits w2) ys
    → n' ≡ units (put_fact (table_of ls) P Q f) → Ready m ls w n → Ready m ls' w2 n'
put_ready ls ls' P Q f k ys p m w w1 w2 n n' adds all sized ready = elim p [
  | inl a ↦ last_ready ls ls' P Q f k ys a m w w1 w2 n n' ready adds all sized
  | inr a ↦ again_ready ls ls' P Q f k ys a m w w1 w2 n n' ready adds all sized
]

-- the number of the node that changes is small, where the table stays within its budget
pub put_small : (ls ls' : List NodeRecord) (P Q : Point) (f : Fact) (k : ℕ) (ys : List Item) (most : ℕ) → PutsNode ls ls' P Q f k ys
    → length (put_fact (table_of ls) P Q f) ≤ most → k < most
put_small ls ls' P Q f k ys most p h = elim p [
  | inl a ↦ (let n = a.number in
      let e : length (put_fact (table_of ls) P Q f) ≡ length (table_of ls ++ node_with_fact P Q f ∷ []) =
      ap (λ t. length (put_by (table_of ls) P Q f t)) a.target in
      omega (arith, e, length-append (table_of ls) (node_with_fact P Q f ∷ []), length-map ls (λ (l : NodeRecord). l.node)))
  | inr a ↦ (let lt = slice_get_within ls k a.old a.is_in in
      let e : length (put_fact (table_of ls) P Q f) ≡ length (slice_set (table_of ls) k (node_with_fact a.old.node.left a.old.node.right f)) =
      ap (λ t. length (put_by (table_of ls) P Q f t)) a.target in
      omega (arith, e, length-set (table_of ls) k (node_with_fact a.old.node.left a.old.node.right f), length-map ls (λ (l : NodeRecord). l.node)))
]

-- nothing is kept of no node
pub empty_ready : (m : MachinePair) (es : List (PointPair × NodeState)) (w : BTreeSet Item) → es ≡ [] → w.keys ≡ [] → Ready m (node_records es) w 0
empty_ready m es w e h =
    let none : (y : Item) → waits w y ≡ true → ⊥ =
    λ y t. (let a : list_any (is_at (item_cmp y)) [] ≡ true = subst (λ ks. list_any (is_at (item_cmp y)) ks ≡ true) h t in cc) in
    subst (λ z. Ready m (node_records z) w 0) (sym e) (record {
      waiting = record { rests = λ i l g f. absurd (cc g); in_table = λ i p t. absurd (none (item i p) t) };
      unfound = λ i l g t. absurd (none (item i 0) t);
      listed = λ k y a. absurd (let g = a.is_in in cc);
      sized = refl;
    })
