-- The certificate of a closed table meets all its obligations.
use Rattle.std.proofs.Common.{◌≡◌, ℕ, zero, suc, ◌+◌, refl, ap, sym, subst, ◌∙◌, arith, Bool, true, false, cond, List, [], ◌∷◌, map, Option, Some, None}
use Rattle.std.specs.Prelude.{slice_get}
use Rattle.std.specs.Option.{option_map}
use Rattle.std.specs.List.{AllByRecursion}
use Rattle.base_laws.proofs.Options.{option_or_parts}
use Rattle.base_laws.proofs.Quantifiers.{each_at}
use Rattle.fs_model.specs.SoundMachines.{IsSound}
use Rattle.fs_cut.specs.Paths.{Start}
use Rattle.fs_cut.specs.Covers.{paths_of}
use Rattle.fs_pair.specs.Interfaces.{interface_fault}
use Rattle.fs_pair.specs.PairedOutputs.{OutputPair, output_pairs}
use Rattle.cert_bisimulation.specs.declared.mode.Mode.{Mode}
use Rattle.cert_bisimulation.specs.declared.mode.Mode.TheVariants.{Both, Left, Right, End}
use Rattle.cert_bisimulation.specs.Tables.{Node as CertificateNode}
use Rattle.nf_terms.specs.Computed.{Done, after}
use Rattle.propagate.specs.Execution.{Post}
use Rattle.cert_model.specs.Facts.{Fact, vector_of}
use Rattle.cert_model.specs.Entailment.{entails}
use Rattle.cert_model.specs.Starts.{start_fact}
use Rattle.propagate.specs.Modes.{Found}
use Rattle.cert_model.specs.declared.reason.Reason.TheVariants as reason
use Rattle.cert_model.specs.Obligations.{Judged, nodes_at, or_else, first_missing, reaches, judge_start, judge_move, mode_fits, same_forms, judge_output}
use Rattle.cert_model.specs.Obligations.{moves_by, owed_by, obligations, Yes, verdict_by, verdict_from, verdict}
use Rattle.search_tables.specs.Graphs.{above, AreRanks}
use Rattle.search_tables.specs.declared.moves.Move.{Move}
use Rattle.search_tables.specs.SearchTables.{MachinePair, positions_of, SearchNode, Table, is_at, start_node, Keeps, effect}
use Rattle.search_tables.specs.Next.{mode_at, paths_in, Nothing, next_move}
use Rattle.search_tables.specs.Legal.{Difference, first_differing, output_at, difference_at, difference_among, difference_in, Makes}
use Rattle.search_tables.specs.LoneMoves.{lone_targets, lone_in, lone_moves}
use Rattle.search_tables.specs.Certifying.{node_without_mode, Certifies}
use Rattle.search_tables.proofs.Lists.{all_in, all_maps, all_flat, all_flats}
use Rattle.search_tables.proofs.Chains.{lone_at, mapped_at}
use Rattle.search_tables.proofs.Closing.{quiet}
use Rattle.search_tables.proofs.Fitting.{mode_is_fit}
use Rattle.search_tables.proofs.Judging.{moves_hold, rank_at}
use Rattle.search_tables.proofs.StartEntailed.{entails_itself}
use Rattle.search_tables.proofs.Starting.{begins_with_start}

abbrev Held : Judged → Type 0
Held r = r ≡ Done None

yes_where_held : (k : ℕ) (rs : List Judged) → AllByRecursion Held rs → verdict_from k rs ≡ Yes
yes_where_held k [] h = refl
yes_where_held k (r ∷ rs) h = ap (λ z. verdict_by k z (verdict_from (k + 1) rs)) h.0 ∙ yes_where_held (k + 1) rs h.1

-- ---- outputs

abbrev difference : ℕ → ℕ → Difference
difference i x = record { node = i; output = x }

none_stuck : (m : MachinePair) (ns : List SearchNode) (i k : ℕ) (n : SearchNode) → difference_among m i ns ≡ None → slice_get ns k ≡ Some n
    → output_at m n ≡ None
none_stuck m [] i k n e g = absurd (cc g)
none_stuck m (a ∷ ns) i zero n e g = let s : a ≡ n = cc g in ap (output_at m) (sym s)
    ∙ not_mapped (output_at m a) (option_or_parts (difference_at m i a) (difference_among m (i + 1) ns) e).0
  where
    not_mapped : (o : Option ℕ) → option_map (λ x. difference i x) o ≡ None → o ≡ None
    not_mapped None h = refl
    not_mapped (Some x) h = absurd (cc h)
none_stuck m (a ∷ ns) i (suc k) n e g = none_stuck m ns (i + 1) k n (option_or_parts (difference_at m i a) (difference_among m (i + 1) ns) e).1 g

outputs_hold : (c : CertificateNode Fact) (os : List OutputPair) → first_differing (vector_of c.fact.positions) os ≡ None
    → AllByRecursion Held (map (judge_output c) os)
outputs_hold c [] h = tt
outputs_hold c (o ∷ os) h =
    let s = by_test (same_forms (vector_of c.fact.positions) o.sort o.left o.right) h in
    (ap (λ b. Done (cond b None (Some (reason.Output o.left)))) s.0, outputs_hold c os s.1)
  where
    by_test : (b : Bool) → cond b (first_differing (vector_of c.fact.positions) os) (Some o.left) ≡ None
        → (b ≡ true) × (first_differing (vector_of c.fact.positions) os ≡ None)
    by_test true e = (refl, e)
    by_test false e = absurd (cc e)

module _ (m : MachinePair) (cs : List (CertificateNode Fact)) (modes : AllByRecursion (λ c. mode_at m (node_without_mode c) ≡ Found c.mode) cs) where
  abbrev T : Table
  T = map node_without_mode cs

  abbrev ranks : List ℕ
  ranks = map (λ c. c.rank) cs

  -- ---- a node
  by_mode : (c : CertificateNode Fact) (x : Mode) → mode_fits x c.left c.right ≡ true → output_at m (node_without_mode c) ≡ None
      → AllByRecursion (λ y. judge_move m.left m.right cs c y.left y.right ≡ Done None) (paths_in m (node_without_mode c) x)
      → AllByRecursion Held (moves_by x m.left m.right cs c)
  by_mode c Both fits outputs h =
      all_flats (λ y. judge_move m.left m.right cs c y.left y.right ≡ Done None) Held
      (λ p. map (λ q. record { left = Some p; right = Some q }) (paths_of m.right c.right))
      (λ p. map (λ q. judge_move m.left m.right cs c (Some p) (Some q)) (paths_of m.right c.right)) (paths_of m.left c.left)
      (λ p g. all_maps (λ y. judge_move m.left m.right cs c y.left y.right ≡ Done None) Held (λ q. record { left = Some p; right = Some q })
      (λ q. judge_move m.left m.right cs c (Some p) (Some q)) (paths_of m.right c.right) (λ q e. e) g) h
  by_mode c Left fits outputs h = all_maps (λ y. judge_move m.left m.right cs c y.left y.right ≡ Done None) Held (λ p. record { left = Some p; right = None })
      (λ p. judge_move m.left m.right cs c (Some p) None) (paths_of m.left c.left) (λ p e. e) h
  by_mode c Right fits outputs h = all_maps (λ y. judge_move m.left m.right cs c y.left y.right ≡ Done None) Held (λ q. record { left = None; right = Some q })
      (λ q. judge_move m.left m.right cs c None (Some q)) (paths_of m.right c.right) (λ q e. e) h
  by_mode c End fits outputs h =
      outputs_hold c (output_pairs 0 m.left.variables m.right.variables)
      (sym (ap (λ b. cond b (first_differing (vector_of c.fact.positions) (output_pairs 0 m.left.variables m.right.variables)) None) fits) ∙ outputs)

  node_holds : next_move m T ≡ Nothing → difference_in m T ≡ None → AreRanks (lone_moves m T) ranks → (k : ℕ) (c : CertificateNode Fact)
      → slice_get cs k ≡ Some c → AllByRecursion Held (owed_by m.left m.right cs c)
  node_holds closed free are k c e =
      let g = mapped_at cs k c e in
      let mode : mode_at m (node_without_mode c) ≡ Found c.mode = each_at (λ d. mode_at m (node_without_mode d) ≡ Found d.mode) cs k c modes e in
      let fits = mode_is_fit m.left m.right c.fact c.left c.right c.mode mode in
      let q = quiet m T k (node_without_mode c) closed g in
      let found : Found q.mode ≡ Found c.mode = sym q.found ∙ mode in
      let same : q.mode ≡ c.mode = cc found in
      let rank : c.rank ≡ above ranks (lone_targets m T (node_without_mode c) c.mode (paths_in m (node_without_mode c) c.mode)) =
      sym (rank_at cs k c e) ∙ are.each k (lone_in m T (node_without_mode c) (mode_at m (node_without_mode c))) (lone_at m T T k (node_without_mode c) g)
      ∙ ap (λ z. above ranks (lone_in m T (node_without_mode c) z)) mode in (
        ap (λ b. Done (cond b None (Some reason.Mode))) fits,
        by_mode c c.mode fits (none_stuck m T 0 k (node_without_mode c) free g)
            (moves_hold m cs modes c (paths_in m (node_without_mode c) c.mode)
            (subst (λ x. AllByRecursion (λ y. effect m T (node_without_mode c) y ≡ Keeps) (paths_in m (node_without_mode c) x)) same q.keep)
            (omega (arith, rank))),
      )

  -- ---- the start
  start_held : (rest : List SearchNode) → IsSound m.left → interface_fault m.left m.right ≡ None → (ds : List (CertificateNode Fact))
      → map node_without_mode ds ≡ start_node m ∷ rest
      → Held (judge_start ds (record { conditions = []; vector = vector_of (start_fact (positions_of m)).positions }))
  start_held rest sound matched [] e = absurd (cc e)
  start_held rest sound matched (d ∷ ds) e =
      let same : node_without_mode d ≡ start_node m = cc e in
      let post : Post = record { conditions = []; vector = vector_of (start_fact (positions_of m)).positions } in
      let later = nodes_at ds Start Start in
      let first : nodes_at (d ∷ ds) Start Start ≡ d ∷ later = ap (λ (n : SearchNode). cond (is_at Start Start n) (d ∷ later) later) same in
      let entailed : entails post d.fact ≡ Done (record { equations = []; literals = [] }) = ap (λ (n : SearchNode). entails post n.fact) same
      ∙ entails_itself m.left m.right sound matched in
      ap (λ ns. reaches reason.NoStartNode ns (λ t. true) post) first
      ∙ ap (λ z. or_else (after z (λ x. Done (first_missing x.equations x.literals true))) (reaches reason.NoStartNode later (λ t. true) post)) entailed

  all_held : (rest : List SearchNode) → IsSound m.left → interface_fault m.left m.right ≡ None → T ≡ start_node m ∷ rest → next_move m T ≡ Nothing
      → difference_in m T ≡ None → AreRanks (lone_moves m T) ranks → verdict m.left m.right (start_fact (positions_of m)) cs ≡ Yes
  all_held rest sound matched begins closed free are =
      yes_where_held 1 (obligations m.left m.right (start_fact (positions_of m)) cs) (
        start_held rest sound matched cs begins,
        all_flat Held (owed_by m.left m.right cs) cs (all_in (λ c. AllByRecursion Held (owed_by m.left m.right cs c)) cs (node_holds closed free are)),
      )

pub certified : (m : MachinePair) → IsSound m.left → interface_fault m.left m.right ≡ None
    → (moves : List Move) (T : Table) (ranks : List ℕ) (cs : List (CertificateNode Fact)) → Makes m moves T → next_move m T ≡ Nothing → difference_in m T ≡ None
    → AreRanks (lone_moves m T) ranks → Certifies m T ranks cs → verdict m.left m.right (start_fact (positions_of m)) cs ≡ Yes
certified m sound matched moves T ranks cs makes closed free are h =
    let s = begins_with_start m moves T makes in
    let t = sym h.nodes in
    all_held m cs h.modes s.0 sound matched (h.nodes ∙ s.1) (subst (λ U. next_move m U ≡ Nothing) t closed) (subst (λ U. difference_in m U ≡ None) t free)
    (subst (λ rs. AreRanks (lone_moves m (map node_without_mode cs)) rs) (sym h.ranks_are) (subst (λ U. AreRanks (lone_moves m U) ranks) t are))
