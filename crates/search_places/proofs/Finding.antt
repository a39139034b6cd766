-- Where a pair of points stands among the nodes, and what an insertion there does.
use Rattle.std.proofs.Common.{◌≡◌, ℕ, suc, ◌+◌, ◌⊎◌, inl, inr, refl, sym, ◌∙◌, ap, subst, arith, Bool, true, false, cond, List, [], ◌∷◌, ◌++◌, length, Vec}
use Rattle.std.proofs.Common.{Global}
use Rattle.std.proofs.lemmas.Bool.Decides.{nat_tests}
use Rattle.std.proofs.lemmas.Option.{slice_get_within}
use Rattle.std.proofs.lemmas.List.{length-map, map-append, map-set}
use Rattle.std.specs.Prelude.{not, nat_lt, Option, Some, None, slice_get, slice_set, position}
use Rattle.std.specs.List.{prefix_len}
use Rattle.std.specs.Map.{keys_of, lookup}
use Rattle.fs_model.proofs.Lists.{slice_get-of_map}
use Rattle.indexmap.specs.IndexMap.{insert_entry}
use Rattle.fs_cut.specs.View.{point_of}
use Rattle.sym_facts.specs.Facts.{Fact}
use Rattle.search_tables.specs.SearchTables.{SearchNode, Unknown, Known, target_from}
use Rattle.search_tables.specs.declared.pairs.PointPair.{PointPair}
use Rattle.search_waiting.specs.declared.item.Item.{Item}
use Rattle.search_places.specs.declared.node_state.NodeState.{NodeState}
use Rattle.search_tables.specs.Pairs.{same_pair}
use Rattle.search_places.specs.NodeRecords.{record_of_node, node_records, table_of}
use Rattle.search_places.specs.NodeChanges.{StandsAt, fresh, PutsNode}

abbrev nodes : List (PointPair × NodeState) → List SearchNode
nodes es = table_of (node_records es)

-- how many keys come before a pair
abbrev before : PointPair → List (PointPair × NodeState) → ℕ
before p es = prefix_len (λ k. not (same_pair p k)) (keys_of es)

-- no node stands at a pair
record Absent (p : PointPair) (i : ℕ) (es : List (PointPair × NodeState)) : Type 0 where
  target : target_from (point_of p.left) (point_of p.right) i (nodes es) ≡ Unknown
  number : before p es ≡ length es
  none : lookup (same_pair p) es ≡ None
  last : (v : NodeState) → insert_entry same_pair es p v ≡ es ++ (p, v) ∷ []

-- the first node that stands at a pair
record Present (p : PointPair) (i : ℕ) (es : List (PointPair × NodeState)) : Type 0 where
  place : ℕ
  entry : PointPair × NodeState
  is_in : slice_get es place ≡ Some entry
  target : target_from (point_of p.left) (point_of p.right) i (nodes es) ≡ Known (i + place) (record_of_node entry).node
  number : before p es ≡ place
  found : lookup (same_pair p) es ≡ Some entry.1
  set : (v : NodeState) → insert_entry same_pair es p v ≡ slice_set es place (entry.0, v)

seek : (p : PointPair) (i : ℕ) (es : List (PointPair × NodeState)) → Absent p i es ⊎ Present p i es
seek p i [] = inl (record { target = refl; number = refl; none = refl; last = λ v. refl })
seek p i (e ∷ es) = by_test (same_pair p e.0) refl (seek p (i + 1) es)
  where
    by_test : (b : Bool) → same_pair p e.0 ≡ b → Absent p (i + 1) es ⊎ Present p (i + 1) es → Absent p i (e ∷ es) ⊎ Present p i (e ∷ es)
    by_test true t s =
        let at : i ≡ i + 0 = omega arith in
        inr (record {
          place = 0;
          entry = e;
          is_in = refl;
          target = ap (λ b. cond b (Known i (record_of_node e).node) (target_from (point_of p.left) (point_of p.right) (i + 1) (nodes es))) t
              ∙ ap (λ j. Known j (record_of_node e).node) at;
          number = ap (λ b. cond (not b) (1 + before p es) 0) t;
          found = ap (λ b. cond b (Some e.1) (lookup (same_pair p) es)) t;
          set = λ v. ap (λ b. cond b ((e.0, v) ∷ es) (e ∷ insert_entry same_pair es p v)) t;
        })
    by_test false t (inl a) =
        let many : 1 + before p es ≡ length (e ∷ es) = omega (arith, a.number) in
        inl (record {
          target = ap (λ b. cond b (Known i (record_of_node e).node) (target_from (point_of p.left) (point_of p.right) (i + 1) (nodes es))) t ∙ a.target;
          number = ap (λ b. cond (not b) (1 + before p es) 0) t ∙ many;
          none = ap (λ b. cond b (Some e.1) (lookup (same_pair p) es)) t ∙ a.none;
          last = λ v. ap (λ b. cond b ((e.0, v) ∷ es) (e ∷ insert_entry same_pair es p v)) t ∙ ap (λ xs. e ∷ xs) (a.last v);
        })
    by_test false t (inr s) =
        let at : (i + 1) + s.place ≡ i + suc s.place = omega arith in
        let many : 1 + before p es ≡ suc s.place = omega (arith, s.number) in
        inr (record {
          place = suc s.place;
          entry = s.entry;
          is_in = s.is_in;
          target = ap (λ b. cond b (Known i (record_of_node e).node) (target_from (point_of p.left) (point_of p.right) (i + 1) (nodes es))) t ∙ s.target
              ∙ ap (λ j. Known j (record_of_node s.entry).node) at;
          number = ap (λ b. cond (not b) (1 + before p es) 0) t ∙ many;
          found = ap (λ b. cond b (Some e.1) (lookup (same_pair p) es)) t ∙ s.found;
          set = λ v. ap (λ b. cond b ((e.0, v) ∷ es) (e ∷ insert_entry same_pair es p v)) t ∙ ap (λ xs. e ∷ xs) (s.set v);
        })

-- a pair that is looked up
pub stands : (p : PointPair) (es : List (PointPair × NodeState)) (o : Option ℕ) → o ≡ position (same_pair p) (keys_of es)
    → StandsAt (node_records es) (point_of p.left) (point_of p.right) o
stands p es o h = by_case (seek p 0 es)
  where
    many : length (keys_of es) ≡ length es
    many = length-map es (λ (e : PointPair × NodeState). e.0)

    by_case : Absent p 0 es ⊎ Present p 0 es → StandsAt (node_records es) (point_of p.left) (point_of p.right) o
    by_case (inl a) =
        let n = a.number in
        let test : nat_lt (before p es) (length (keys_of es)) ≡ false = grind (arith, nat_tests, many) in
        subst (StandsAt (node_records es) (point_of p.left) (point_of p.right)) (sym (h ∙ ap (λ b. cond b (Some (before p es)) None) test)) a.target
    by_case (inr s) =
        let n = s.number in
        let lt = slice_get_within es s.place s.entry s.is_in in
        let test : nat_lt (before p es) (length (keys_of es)) ≡ true = grind (arith, nat_tests, many) in
        let at : 0 + s.place ≡ s.place = omega arith in
        subst (StandsAt (node_records es) (point_of p.left) (point_of p.right)) (sym (h ∙ ap (λ b. cond b (Some (before p es)) None) test ∙ ap Some s.number))
        (record_of_node s.entry, slice_get-of_map record_of_node es s.place s.entry s.is_in, s.target ∙ ap (λ j. Known j (record_of_node s.entry).node) at)

-- a pair that is put where no node stands
pub puts_last : (p : PointPair) (f : Fact) (a : Vec Item Global) (es es' : List (PointPair × NodeState)) (k : ℕ) (ys : List Item)
    → es' ≡ insert_entry same_pair es p (record { fact = f; moves = None; arrivals = a }) → a.items ≡ [] → k ≡ before p es → lookup (same_pair p) es ≡ None
    → ys ≡ [] → PutsNode (node_records es) (node_records es') (point_of p.left) (point_of p.right) f k ys
puts_last p f a es es' k ys e none n o y = by_case (seek p 0 es)
  where
    by_case : Absent p 0 es ⊎ Present p 0 es → PutsNode (node_records es) (node_records es') (point_of p.left) (point_of p.right) f k ys
    by_case (inl s) =
        let v : NodeState = record { fact = f; moves = None; arrivals = a } in
        inl (record {
          target = s.target;
          number = n ∙ s.number ∙ sym (length-map es record_of_node);
          last = ap node_records (e ∙ s.last v) ∙ map-append record_of_node es ((p, v) ∷ [])
              ∙ ap (λ (bs : List Item). node_records es ++ (record { node = (record_of_node (p, v)).node; moves = None; arrivals = bs }) ∷ []) none;
          none = y;
        })
    by_case (inr s) = absurd (let a = s.found in cc)

-- a pair that is put where a node stands
pub puts_again : (p : PointPair) (f : Fact) (a : Vec Item Global) (es es' : List (PointPair × NodeState)) (k : ℕ) (old : NodeState)
    → es' ≡ insert_entry same_pair es p (record { fact = f; moves = None; arrivals = a }) → a.items ≡ [] → k ≡ before p es → lookup (same_pair p) es ≡ Some old
    → PutsNode (node_records es) (node_records es') (point_of p.left) (point_of p.right) f k old.arrivals.items
puts_again p f a es es' k old e none n o = by_case (seek p 0 es)
  where
    by_case : Absent p 0 es ⊎ Present p 0 es → PutsNode (node_records es) (node_records es') (point_of p.left) (point_of p.right) f k old.arrivals.items
    by_case (inl s) = absurd (let a = s.none in cc)
    by_case (inr s) =
        let v : NodeState = record { fact = f; moves = None; arrivals = a } in
        let same : old ≡ s.entry.1 = (let b = s.found in cc) in
        let at : s.place ≡ k = sym (n ∙ s.number) in
        let from : 0 + s.place ≡ k = omega (arith, at) in
        inr (record {
          old = record_of_node s.entry;
          is_in = subst (λ j. slice_get (node_records es) j ≡ Some (record_of_node s.entry)) at (slice_get-of_map record_of_node es s.place s.entry s.is_in);
          target = s.target ∙ ap (λ j. Known j (record_of_node s.entry).node) from;
          set = ap node_records (e ∙ s.set v) ∙ map-set record_of_node es s.place (s.entry.0, v)
              ∙ ap
              (λ (bs : List Item). slice_set (node_records es) s.place (record { node = (record_of_node (s.entry.0, v)).node; moves = None; arrivals = bs }))
              none
              ∙ ap (λ j. slice_set (node_records es) j (fresh (record_of_node s.entry).node.left (record_of_node s.entry).node.right f)) at;
          woken = ap (λ (b : NodeState). b.arrivals.items) same;
        })
