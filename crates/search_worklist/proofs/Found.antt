-- A turn at a node: its mode is found, and its moves wait in its place.
use Rattle.std.proofs.Common.{◌≡◌, ℕ, suc, ◌+◌, ◌<◌, ◌≤◌, inl, inr, refl, sym, ◌∙◌, ap, subst, arith, true, cond, List, length, map, Some, None}
use Rattle.std.proofs.lemmas.List.{length-set, length-map}
use Rattle.std.proofs.lemmas.List.Sums.{sum_by-set}
use Rattle.std.proofs.lemmas.Option.{slice_get_within, get_or_from_slice_get}
use Rattle.std.proofs.Math.Seq.{map-set_same}
use Rattle.std.specs.Prelude.{◌≢◌, is_none, Option, slice_get, slice_set, sum_by}
use Rattle.std.specs.BTreeSet.{BTreeSet, btree_set_len}
use Rattle.cert_bisimulation.specs.declared.mode.Mode.{Mode}
use Rattle.propagate.specs.Modes.{Found}
use Rattle.search_tables.specs.declared.moves.Move.{Move}
use Rattle.search_tables.specs.SearchTables.{MachinePair, units}
use Rattle.search_tables.specs.Next.{mode_at, paths_in, move_by}
use Rattle.search_waiting.specs.declared.item.Item.{Item}
use Rattle.search_places.specs.NodeRecords.{NodeRecord, table_of}
use Rattle.search_places.specs.NodeChanges.{SetsMoves}
use Rattle.search_waiting.specs.ItemOrder.{item, waits, AddsMoves, Drops}
use Rattle.search_tables.proofs.RankLists.{set_same, set_other, same_or_not}
use Rattle.search_worklist.specs.declared.state.State.{State}
use Rattle.search_places.specs.Moves.{most_moves}
use Rattle.search_worklist.specs.Turns.{IsTurned}
use Rattle.search_worklist.specs.Waiting.{Arrives, IsWaiting}
use Rattle.search_worklist.specs.States.{records, Ready, IsReady, record_weight, work_of}
use Rattle.search_worklist.proofs.Keeping.{mode_found}

abbrev found_record : NodeRecord → List Move → NodeRecord
found_record l xs = record { node = l.node; moves = Some xs; arrivals = l.arrivals }

same_nodes : (ls : List NodeRecord) (k : ℕ) (old new : NodeRecord) → slice_get ls k ≡ Some old → new.node ≡ old.node
    → table_of (slice_set ls k new) ≡ table_of ls
same_nodes ls k old new g n = map-set_same (λ (l : NodeRecord). l.node) ls k new old
    (n ∙ sym (ap (λ (l : NodeRecord). l.node) (get_or_from_slice_get ls k old old g)))

pub weight_set : (ls : List NodeRecord) (k : ℕ) (old new : NodeRecord) → slice_get ls k ≡ Some old
    → sum_by record_weight (slice_set ls k new) + record_weight old ≡ sum_by record_weight ls + record_weight new
weight_set ls k old new g = subst (λ l. sum_by record_weight (slice_set ls k new) + record_weight l ≡ sum_by record_weight ls + record_weight new)
    (get_or_from_slice_get ls k old old g) (sum_by-set record_weight ls k new old (slice_get_within ls k old g))

pub apart : (i p j q : ℕ) → ((i ≡ j) × (p ≡ q) → ⊥) → item j q ≢ item i p
apart i p j q d e = d (sym (ap (λ (z : Item). z.node) e), sym (ap (λ (z : Item). z.place) e))

-- what arrives after a change arrived before it
pub arrives_back : (ls : List NodeRecord) (k : ℕ) (old new : NodeRecord) (j : ℕ) (y : Item) → slice_get ls k ≡ Some old
    → ((p : ℕ) → slice_get new.arrivals p ≡ Some y → slice_get old.arrivals p ≡ Some y) → Arrives (slice_set ls k new) j y → Arrives ls j y
arrives_back ls k old new j y g h a = elim (same_or_not j k) [
  | inl e ↦ (let i : slice_get (slice_set ls k new) k ≡ Some a.node_record = subst (λ z. slice_get (slice_set ls k new) z ≡ Some a.node_record) e a.is_in in
      let b : slice_get (slice_set ls k new) k ≡ Some new = set_same ls k old new g in
      let s : a.node_record ≡ new = cc in
      let listed = h a.place (subst (λ (z : NodeRecord). slice_get z.arrivals a.place ≡ Some y) s a.listed) in
      record { node_record = old; is_in = rw e g; place = a.place; listed = listed })
  | inr d ↦ record { node_record = a.node_record; is_in = sym (set_other ls k j new d) ∙ a.is_in; place = a.place; listed = a.listed }
]

module _ (m : MachinePair) (ls ls' : List NodeRecord) (w w1 w2 : BTreeSet Item) (n : ℕ) (ready : Ready m ls w n) (k : ℕ) (l : NodeRecord) (mode : Mode)
    (xs : List Move)
    (is_in : slice_get ls k ≡ Some l) (found : mode_at m l.node ≡ Found mode) (listed : xs ≡ map (move_by k) (paths_in m l.node mode))
    (few : length xs ≤ most_moves)
    (waited : waits w (item k 0) ≡ true) (adds : AddsMoves (waits w) (waits w1) k (length xs)) (more : btree_set_len w1 ≤ btree_set_len w + length xs)
    (drops : Drops (waits w1) (waits w2) (item k 0)) (fewer : btree_set_len w2 < btree_set_len w1) (sets : SetsMoves ls ls' k xs) where
  set_here : ls' ≡ slice_set ls k (found_record l xs)
  set_here = let e : sets.old ≡ l = (let a = sets.is_in in cc) in sets.set ∙ ap (λ z. slice_set ls k (found_record z xs)) e

  found_table : table_of ls' ≡ table_of ls
  found_table = ap table_of set_here ∙ same_nodes ls k l (found_record l xs) is_in refl

  many : length xs ≡ length (paths_in m l.node mode)
  many = ap length listed ∙ length-map (paths_in m l.node mode) (move_by k)

  found_waiting : IsWaiting m (slice_set ls k (found_record l xs)) (waits w2)
  found_waiting = mode_found m ls (waits w) (waits w2) ready.waiting k l (found_record l xs) is_in refl refl mode found (ap Some listed)
      (λ j q h d. drops.stay (item j q) (adds.stay (item j q) h) (apart j q k 0 d))
      (λ p lt. drops.stay (item k (suc p)) (adds.fresh p (subst (λ a. p < a) (sym many) lt)) (apart k (suc p) k 0 (λ a. let b = a.1 in cc)))
      (λ i p h. subst (λ a. i < a) (sym (length-set ls k (found_record l xs))) (elim (adds.only (item i p) (drops.only (item i p) h)) [
        | inl a ↦ ready.waiting.in_table i p a
        | inr a ↦ subst (λ j. j < length ls) (sym a.0) (slice_get_within ls k l is_in)
      ]))

  found_none : (i : ℕ) (z : NodeRecord) → slice_get (slice_set ls k (found_record l xs)) i ≡ Some z → waits w2 (item i 0) ≡ true → z.moves ≡ None
  found_none i z g h = elim (same_or_not i k) [
    | inl e ↦ absurd (let a : waits w2 (item k 0) ≡ true = subst (λ j. waits w2 (item j 0) ≡ true) e h in let b = drops.gone in cc)
    | inr d ↦ ready.unfound i z (sym (set_other ls k i (found_record l xs) d) ∙ g)
        (elim (adds.only (item i 0) (drops.only (item i 0) h)) [ inl a ↦ a | inr a ↦ absurd (d a.0) ])
  ]

  found_ready : Ready m ls' w2 n
  found_ready = record {
    waiting = subst (λ z. IsWaiting m z (waits w2)) (sym set_here) found_waiting;
    unfound = subst (λ a. (i : ℕ) (z : NodeRecord) → slice_get a i ≡ Some z → waits w2 (item i 0) ≡ true → z.moves ≡ None) (sym set_here) found_none;
    listed = λ j y a.
        let b : Arrives (slice_set ls k (found_record l xs)) j y = subst (λ z. Arrives z j y) set_here a in
        let r = ready.listed j y (arrives_back ls k l (found_record l xs) j y is_in (λ p z. z) b) in
        (subst (λ c. y.node < c) (sym (ap length set_here ∙ length-set ls k (found_record l xs))) r.0, r.1);
    sized = ready.sized ∙ ap units (sym found_table);
  }

  found_work : work_of ls' w2 < work_of ls w
  found_work =
      let h : record_weight l ≡ 4097 = ap (λ (o : Option (List Move)). cond (is_none o) 4097 0) (ready.unfound k l is_in waited) in
      let s = weight_set ls k l (found_record l xs) is_in in
      let e : sum_by record_weight ls' ≡ sum_by record_weight (slice_set ls k (found_record l xs)) = ap (sum_by record_weight) set_here in
      omega (arith, h, s, e, more, fewer, few)

pub found_turned : (m : MachinePair) (s t : State) (w : BTreeSet Item) (k : ℕ) (l : NodeRecord) (mode : Mode) (xs : List Move) → IsReady m s → t.units ≡ s.units
    → slice_get (records s) k ≡ Some l → mode_at m l.node ≡ Found mode → xs ≡ map (move_by k) (paths_in m l.node mode) → length xs ≤ most_moves
    → waits s.waiting (item k 0) ≡ true
    → AddsMoves (waits s.waiting) (waits w) k (length xs) → btree_set_len w ≤ btree_set_len s.waiting + length xs → Drops (waits w) (waits t.waiting) (item k 0)
    → btree_set_len t.waiting < btree_set_len w → SetsMoves (records s) (records t) k xs → IsTurned m s t None
found_turned m s t w k l mode xs ready units is_in found listed few waited adds more drops fewer sets = record {
  ready = subst (Ready m (records t) t.waiting) (sym units)
      (found_ready m (records s) (records t) s.waiting w t.waiting s.units ready k l mode xs is_in found listed few waited adds more drops fewer sets);
  same = found_table m (records s) (records t) s.waiting w t.waiting s.units ready k l mode xs is_in found listed few waited adds more drops fewer sets;
  finds = found_work m (records s) (records t) s.waiting w t.waiting s.units ready k l mode xs is_in found listed few waited adds more drops fewer sets;
}
