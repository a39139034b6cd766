-- Where outputs may differ: at the node that changed last alone.
use Rattle.std.proofs.Common.{◌≡◌, ℕ, zero, suc, ◌+◌, refl, sym, ◌∙◌, ap, subst, arith, List, [], ◌∷◌, ◌++◌, length, Some, None}
use Rattle.std.specs.Prelude.{Option, slice_get, slice_set}
use Rattle.std.specs.Option.{option_or, option_map}
use Rattle.fs_model.proofs.Options.{option_or_parts}
use Rattle.fs_cut.specs.Paths.{Point}
use Rattle.sym_facts.specs.Facts.{Fact}
use Rattle.search_tables.specs.SearchTables.{MachinePair, SearchNode, Table, start_node, first_table, Target, Unknown, Known, node_target}
use Rattle.search_tables.specs.Legal.{Difference, difference_at, output_at, difference_among, difference_in}
use Rattle.search_tables.proofs.Forming.{known_in}
use Rattle.search_places.specs.NodeRecords.{node_with_fact}
use Rattle.search_tables.proofs.RankLists.{get_last, set_same}
use Rattle.search_worklist.specs.DifferingOutputs.{OutputAt}
use Rattle.search_worklist.specs.NodeUpdates.{put_by, put_fact, number_by, node_number}

-- outputs can differ at node k alone
pub record DiffersAlone (m : MachinePair) (T : Table) (k : ℕ) : Type 0 where
  pub node : SearchNode
  pub is_in : slice_get T k ≡ Some node
  pub only : difference_in m T ≡ difference_at m k node

or_last : (a : Option Difference) → option_or a None ≡ a
or_last None = refl
or_last (Some x) = refl

stuck_last : (m : MachinePair) (i : ℕ) (ns : List SearchNode) (n : SearchNode) → difference_among m i ns ≡ None
    → difference_among m i (ns ++ n ∷ []) ≡ difference_at m (i + length ns) n
stuck_last m i [] n e = let at : i ≡ i + 0 = omega arith in or_last (difference_at m i n) ∙ ap (λ j. difference_at m j n) at
stuck_last m i (a ∷ ns) n e =
    let s = option_or_parts (difference_at m i a) (difference_among m (i + 1) ns) e in
    let at : (i + 1) + length ns ≡ i + suc (length ns) = omega arith in
    ap (λ o. option_or o (difference_among m (i + 1) (ns ++ n ∷ []))) s.0 ∙ stuck_last m (i + 1) ns n s.1 ∙ ap (λ j. difference_at m j n) at

stuck_set : (m : MachinePair) (i : ℕ) (ns : List SearchNode) (k : ℕ) (old n : SearchNode) → slice_get ns k ≡ Some old → difference_among m i ns ≡ None
    → difference_among m i (slice_set ns k n) ≡ difference_at m (i + k) n
stuck_set m i [] k old n g e = absurd (cc g)
stuck_set m i (a ∷ ns) zero old n g e =
    let s = option_or_parts (difference_at m i a) (difference_among m (i + 1) ns) e in
    let at : i ≡ i + 0 = omega arith in
    ap (option_or (difference_at m i n)) s.1 ∙ or_last (difference_at m i n) ∙ ap (λ j. difference_at m j n) at
stuck_set m i (a ∷ ns) (suc k) old n g e =
    let s = option_or_parts (difference_at m i a) (difference_among m (i + 1) ns) e in
    let at : (i + 1) + k ≡ i + suc k = omega arith in
    ap (λ o. option_or o (difference_among m (i + 1) (slice_set ns k n))) s.0 ∙ stuck_set m (i + 1) ns k old n g s.1 ∙ ap (λ j. difference_at m j n) at

-- a change moves the place where outputs can differ
pub put_differs : (m : MachinePair) (T : Table) (P Q : Point) (f : Fact) → difference_in m T ≡ None → DiffersAlone m (put_fact T P Q f) (node_number T P Q)
put_differs m T P Q f e = by_target (node_target T P Q) refl
  where
    by_target : (t : Target) → node_target T P Q ≡ t → DiffersAlone m (put_by T P Q f t) (number_by T t)
    by_target Unknown h =
        let at : 0 + length T ≡ length T = omega arith in
        record {
          node = node_with_fact P Q f;
          is_in = get_last T (node_with_fact P Q f);
          only = stuck_last m 0 T (node_with_fact P Q f) e ∙ ap (λ j. difference_at m j (node_with_fact P Q f)) at;
        }
    by_target (Known k n) h =
        let j = known_in P Q 0 T k n h in
        let at : k ≡ j.0 = omega (arith, j.1) in
        let is_in : slice_get T k ≡ Some n = ap (slice_get T) at ∙ j.2 in
        let x : SearchNode = node_with_fact n.left n.right f in
        let from : 0 + k ≡ k = omega arith in
        record { node = x; is_in = set_same T k n x is_in; only = stuck_set m 0 T k n x is_in e ∙ ap (λ j. difference_at m j x) from }

pub start_differs : (m : MachinePair) (T : Table) → T ≡ first_table m → DiffersAlone m T 0
start_differs m T e = subst (λ U. DiffersAlone m U 0) (sym e) (record { node = start_node m; is_in = refl; only = or_last (difference_at m 0 (start_node m)) })

-- what was looked for at that node is found in the table
found_difference : (m : MachinePair) (T : Table) (k : ℕ) (o : Option ℕ) → DiffersAlone m T k → OutputAt m T k o
    → difference_in m T ≡ option_map (λ x. record { node = k; output = x }) o
found_difference m T k o d a =
    let same : a.node ≡ d.node = (let x = a.is_in in let y = d.is_in in cc) in
    d.only ∙ sym (ap (option_map (λ x. record { node = k; output = x })) (a.differs ∙ ap (output_at m) same))

pub none_differs : (m : MachinePair) (T : Table) (k : ℕ) → DiffersAlone m T k → OutputAt m T k None → difference_in m T ≡ None
none_differs m T k d a = found_difference m T k None d a

pub one_differs : (m : MachinePair) (T : Table) (k x : ℕ) → DiffersAlone m T k → OutputAt m T k (Some x)
    → difference_in m T ≡ Some (record { node = k; output = x })
one_differs m T k x d a = found_difference m T k (Some x) d a
