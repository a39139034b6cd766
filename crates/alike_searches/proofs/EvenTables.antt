-- Legal lists of moves of alike machines make even tables.
use Rattle.std.proofs.Common.{◌≡◌, ap, sym, subst, ◌∙◌, inl, inr, true, false, List, [], ◌∷◌, Some}
use Rattle.std.specs.Prelude.{◌≢◌}
use Rattle.std.specs.List.{AllByRecursion}
use Rattle.fs_model.proofs.Quantifiers.{each_weaker, each_append, each_at}
use Rattle.fs_model.specs.SoundMachines.{IsSound}
use Rattle.fs_model.specs.Machines.{Fsmd}
use Rattle.fs_cut.specs.Paths.{Point, Path}
use Rattle.fs_cut.specs.Paths as cut
use Rattle.fs_model.specs.declared.parts.Sort.{Sort}
use Rattle.cert_bisimulation.specs.declared.mode.Mode.TheVariants.{Both, End}
use Rattle.nf_terms.specs.Computed.{Computed, Done}
use Rattle.fs_model.specs.declared.sides.Pos.{Pos}
use Rattle.nf_rel.specs.Literals.{is_refuted}
use Rattle.sym_paths.specs.Execution.{Post, arrive}
use Rattle.sym_facts.specs.Facts.{vector_of}
use Rattle.sym_facts.proofs.StartSolved.{of_the_pairing}
use Rattle.search_tables.proofs.Paired.{rebase_paired}
use Rattle.search_tables.proofs.JoinPaired.{join_paired}
use Rattle.alike_searches.specs.Risen.{IsRisenVector}
use Rattle.alike_searches.proofs.RisenPaths.{arrival_rises}
use Rattle.cert_bisimulation.specs.Alike.{ArePaired, AlikePaths, AlikePoints, Alike}
use Rattle.alike_searches.specs.Evenness.{IsEven}
use Rattle.alike_searches.proofs.EvenPaths.{arrive_evenly}
use Rattle.alike_searches.specs.Couples.{AreCouples, sorted_positions}
use Rattle.alike_searches.specs.EvenFacts.{places_of, AreEvenValues}
use Rattle.alike_searches.proofs.Coupled.{positions_couple}
use Rattle.alike_searches.proofs.EvenVectors.{even_values}
use Rattle.alike_searches.proofs.EvenStart.{start_even}
use Rattle.alike_searches.proofs.EvenRebases.{rebase_even}
use Rattle.alike_searches.proofs.EvenJoins.{join_even}
use Rattle.alike_searches.proofs.RisenFacts.{start_rises, rebase_rises, join_rises, fact_vector_rises}
use Rattle.search_tables.proofs.RankLists.{same_or_not}
use Rattle.search_tables.specs.declared.moves.Move.{Move}
use Rattle.search_tables.specs.SearchTables.{MachinePair, positions_of, SearchNode, Table, first_table, Changes, PathPair, effect}
use Rattle.search_tables.specs.Next.{paths_in, Change, next_move}
use Rattle.search_tables.specs.Legal.{MovesLead, Makes}
use Rattle.search_tables.proofs.Forming.{known_in}
use Rattle.search_tables.proofs.Changing.{Adds, Weakens, arrives_so}
use Rattle.search_tables.proofs.FactsOfPairing.{all_set}
use Rattle.alike_searches.specs.Even.{IsEvenNode, IsEvenTable}
use Rattle.alike_searches.proofs.Modes.{both_move}
use Rattle.alike_searches.proofs.OtherMoves.{others_refuted}
use Rattle.alike_searches.proofs.EvenNodes.{has_sorts, its_couples, vector_between, done_ends}
use Rattle.alike_searches.proofs.NextMoves.{Gives, AllGive, next_gives, AreOfBoth, both_go}

-- both machines are at their returns
abbrev AtReturns : SearchNode → Type 0
AtReturns n = (n.left ≡ cut.Done) × (n.right ≡ cut.Done)

-- a post whose vector is even and rises
record IsEvenPost (a b : Fsmd) (post : Post) : Type 0 where
  even : IsEven a b post.vector
  risen : IsRisenVector post.vector

module _ (m : MachinePair) (sound_left : IsSound m.left) (sound_right : IsSound m.right) (K : List (Point × Point)) (alike : Alike m.left m.right K) where
  abbrev EvenNode : SearchNode → Type 0
  EvenNode n = IsEvenNode m.left m.right K n

  abbrev Even : Table → Type 0
  Even T = IsEvenTable m.left m.right K T

  -- ---- what arrives evenly keeps a table even

  module _ (T U : Table) (h : Even T) (P Q : Point) (post : Post) (e : IsEvenPost m.left m.right post) where
    values_at : (ps : List (Pos × Sort)) → AreCouples m.left m.right ps → AreEvenValues post.vector ps
    values_at = even_values m.left m.right post.vector e.even

    added_even : ArePaired K P Q → Adds (positions_of m) T U P Q post → Even U
    added_even paired x =
        let ps = positions_of m in
        let couples = positions_couple m.left m.right sound_right alike.declare_the_same in
        let node : EvenNode (record { left = P; right = Q; fact = x.fact }) =
        record {
          paired = paired;
          fact = record {
            is_of = rebase_paired post ps x.fact x.rebased;
            even = rebase_even post ps x.fact (values_at (sorted_positions ps) couples) x.rebased;
            risen = rebase_rises post ps x.fact x.rebased;
          };
        } in
        subst Even x.is (each_append EvenNode T (record { left = P; right = Q; fact = x.fact } ∷ []) h (node, tt))

    weakened_even : Weakens T U P Q post → Even U
    weakened_even x =
        let j = known_in P Q 0 T x.number x.node x.target in
        let old = each_at EvenNode T j.0 x.node h j.2 in
        let f = x.node.fact in
        let couples = its_couples m.left m.right f old.fact sound_right alike.declare_the_same in
        let sorts = has_sorts m.left m.right f old.fact in
        let node : EvenNode (record { left = x.node.left; right = x.node.right; fact = x.fact }) =
        record {
          paired = old.paired;
          fact = record {
            is_of = join_paired (positions_of m) f x.fact post x.missing x.joined old.fact.is_of;
            even = join_even f x.fact post x.missing e.risen (values_at (places_of f.positions) couples) sorts old.fact.even x.compared_to x.joined;
            risen = join_rises f x.fact post x.missing old.fact.risen x.joined;
          };
        } in
        subst Even x.is (all_set EvenNode T x.number (record { left = x.node.left; right = x.node.right; fact = x.fact }) h node)

  -- ---- the moves of a node at a pair

  module _ (T U : Table) (h : Even T) (n : SearchNode) (own : EvenNode n) (w : AlikePoints m.left m.right K n.left n.right) where
    its_vector : IsEven m.left m.right (vector_of n.fact.positions)
    its_vector = vector_between m.left m.right n.fact own.fact sound_left sound_right alike.declare_the_same

    abbrev arrival : Path → Path → Computed Post
    arrival p q = arrive m.left m.right n.fact.literals (vector_of n.fact.positions) (Some p) (Some q)

    -- where paths arrive unrefuted they are of one number
    same_paths : (x : PathPair) (g : AreOfBoth m n x) (post : Post) → arrival g.left g.right ≡ Done post → is_refuted post.conditions ≡ false
        → AlikePaths m.left m.right K g.left g.right
    same_paths x g post arrives unrefuted =
        elim (same_or_not g.left.branch g.right.branch) [
          | inl same ↦ w.paths g.left g.right g.left_is g.right_is g.left_from g.right_from same
          | inr other ↦ absurd (cc (sym (refuted other) ∙ unrefuted))
        ]
      where
        refuted : g.left.branch ≢ g.right.branch → is_refuted post.conditions ≡ true
        refuted other =
            others_refuted m.left m.right sound_left K n.left n.right g.left g.right n.fact.literals (vector_of n.fact.positions) post w its_vector
            g.left_is g.right_is g.left_from g.right_from other arrives

    arrives_evenly : (p q : Path) (post : Post) → AlikePaths m.left m.right K p q → arrival p q ≡ Done post → IsEvenPost m.left m.right post
    arrives_evenly p q post same arrives =
        let ls = n.fact.literals in
        let v = vector_of n.fact.positions in
        record {
          even = arrive_evenly m.left m.right K p q ls v post same its_vector arrives;
          risen = arrival_rises m.left m.right ls v (Some p) (Some q) post (fact_vector_rises n.fact own.fact.risen) arrives;
        }

    both_keep : (x : PathPair) → AreOfBoth m n x → effect m T n x ≡ Changes U → Even U
    both_keep x g e =
        let P = g.left.to in
        let Q = g.right.to in
        let a = arrives_so (positions_of m) T U P Q (arrival g.left g.right) (ap (effect m T n) g.are ∙ e) in
        let same = same_paths x g a.post a.arrives a.is_open in
        let post = arrives_evenly g.left g.right a.post same a.arrives in
        elim a.changes [
          | inl z ↦ added_even T U h P Q a.post post same.ends z
          | inr z ↦ weakened_even T U h P Q a.post post z
        ]

    pair_keeps : (y : Move) → AllGive m T U y (Even U) n
    pair_keeps y mode e =
        let both : mode ≡ Both = both_move m.left m.right sound_left sound_right K n.fact its_vector n.left n.right w mode e in
        subst (λ z. AllByRecursion (Gives m T U y (Even U) n) (paths_in m n z)) (sym both)
        (each_weaker (AreOfBoth m n) (Gives m T U y (Even U) n) (paths_in m n Both) both_keep (both_go m n sound_left sound_right w.left_point w.right_point))

  -- no paths are listed in the mode End
  ends_keep : (T U : Table) (n : SearchNode) → AtReturns n → (y : Move) → AllGive m T U y (Even U) n
  ends_keep T U n at y mode e =
      let end : mode ≡ End = done_ends m.left m.right n.fact n.left n.right at.0 at.1 mode e in
      subst (λ z. AllByRecursion (Gives m T U y (Even U) n) (paths_in m n z)) (sym end) tt

  node_keeps : (T U : Table) → Even T → (n : SearchNode) → EvenNode n → (y : Move) → AllGive m T U y (Even U) n
  node_keeps T U h n own y =
      elim own.paired [
        | inl x ↦ pair_keeps T U h n own (alike.points x.0 n.left n.right x.1) y
        | inr x ↦ ends_keep T U n x y
      ]

  -- ---- tables

  pub first_is_even : Even (first_table m)
  first_is_even = (
    record {
      paired = inl alike.starts;
      fact = record {
        is_of = of_the_pairing m.left m.right;
        even = start_even m.left m.right sound_left sound_right alike.declare_the_same;
        risen = start_rises (positions_of m);
      };
    },
    tt,
  )

  pub next_is_even : (T U : Table) (y : Move) → Even T → next_move m T ≡ Change y U → Even U
  next_is_even T U y h e =
      next_gives m T U y (Even U) (each_weaker EvenNode (AllGive m T U y (Even U)) T (λ n own. node_keeps T U h n own y) h) e

  lead_even : (moves : List Move) (S T : Table) → Even S → MovesLead m S moves T → Even T
  lead_even [] S T h e = subst Even e h
  lead_even (x ∷ xs) S T h e = lead_even xs e.0 T (next_is_even S e.0 x h e.2) e.3

  pub even_tables : (moves : List Move) (T : Table) → Makes m moves T → Even T
  even_tables moves T h = lead_even moves (first_table m) T first_is_even h.lead
