-- The moves of a node of a closed table hold as obligations of its certificate.
use Rattle.std.proofs.Common.{◌≡◌, ℕ, zero, suc, ◌<◌, ◌≤◌, inl, inr, refl, ap, subst, ◌∙◌, arith, Bool, true, false, cond, List, [], ◌∷◌, ◌++◌, map, length}
use Rattle.std.proofs.Common.{Some, None}
use Rattle.std.proofs.lemmas.Bool.{eqb-true}
use Rattle.std.proofs.lemmas.Bool.Decides.{nat_tests}
use Rattle.std.proofs.lemmas.Option.{get_or_from_slice_get}
use Rattle.std.specs.Prelude.{not, ◌||◌, ◌==◌, nat_lt, slice_get, slice_index}
use Rattle.std.specs.List.{AllByRecursion}
use Rattle.base_laws.proofs.Booleans.{and_first, and_second}
use Rattle.base_laws.proofs.Quantifiers.{each_at}
use Rattle.fs_cut.specs.Paths.{Point}
use Rattle.cert_bisimulation.specs.declared.mode.Mode.{Mode}
use Rattle.cert_bisimulation.specs.Tables.{Node as CertificateNode}
use Rattle.nf_terms.specs.Computed.{Computed, Done, after}
use Rattle.nf_rel.specs.Literals.{is_refuted}
use Rattle.propagate.specs.Execution.{Post, arrive, end_of}
use Rattle.cert_model.specs.Facts.{Fact, vector_of}
use Rattle.cert_model.specs.Entailment.{Missing, entails, is_nothing}
use Rattle.propagate.specs.Modes.{Found}
use Rattle.cert_model.specs.declared.reason.Reason.TheVariants.{NoTarget}
use Rattle.cert_model.specs.Obligations.{Judged, nodes_at, or_else, first_missing, same_alone, rank_falls, reaches, judge_move}
use Rattle.search_tables.specs.Graphs.{above}
use Rattle.search_tables.specs.SearchTables.{MachinePair, positions_of, SearchNode, Table, Known, node_target, Keeps, PathPair, effect}
use Rattle.search_tables.specs.Next.{mode_at}
use Rattle.search_tables.specs.LoneMoves.{moves_alone, if_alone, lone_target, lone_targets}
use Rattle.search_tables.specs.Certifying.{node_without_mode}
use Rattle.search_tables.proofs.Targets.{standing}
use Rattle.search_tables.proofs.Closing.{Into, Arrival, kept}

-- ---- ranks
above_left : (ranks xs ys : List ℕ) → above ranks xs ≤ above ranks (xs ++ ys)
above_left ranks [] ys = omega arith
above_left ranks (x ∷ xs) ys = let h = above_left ranks xs ys in omega arith

above_right : (ranks xs ys : List ℕ) → above ranks ys ≤ above ranks (xs ++ ys)
above_right ranks [] ys = omega arith
above_right ranks (x ∷ xs) ys = let h = above_right ranks xs ys in omega arith

lower : (m : MachinePair) (T : Table) (ranks : List ℕ) (x : Mode) (P Q : Point) (post : Post) (k r : ℕ) (t : SearchNode) → is_refuted post.conditions ≡ false
    → node_target T P Q ≡ Known k t → moves_alone x (mode_at m t) ≡ true → above ranks (lone_target m T x P Q (Done post)) ≤ r → slice_index ranks k < r
lower m T ranks x P Q post k r t o g h le =
    let a : above ranks (if_alone m x (Known k t)) ≤ r = subst (λ z. above ranks (if_alone m x z) ≤ r) g
    (subst (λ b. above ranks (cond b [] (if_alone m x (node_target T P Q))) ≤ r) o le) in
    let c : above ranks (cond true (k ∷ []) []) ≤ r = subst (λ b. above ranks (cond b (k ∷ []) []) ≤ r) h a in
    omega (arith, c)

pub rank_at : (cs : List (CertificateNode Fact)) (k : ℕ) (c : CertificateNode Fact) → slice_get cs k ≡ Some c → slice_index (map (λ z. z.rank) cs) k ≡ c.rank
rank_at cs k c e = get_or_from_slice_get (map (λ z. z.rank) cs) k c.rank 0 (mapped cs k e)
  where
    mapped : (ds : List (CertificateNode Fact)) (j : ℕ) → slice_get ds j ≡ Some c → slice_get (map (λ z. z.rank) ds) j ≡ Some c.rank
    mapped [] j g = absurd (cc g)
    mapped (d ∷ ds) zero g = let i : d ≡ c = cc g in ap (λ (z : CertificateNode Fact). Some z.rank) i
    mapped (d ∷ ds) (suc j) g = mapped ds j g

falls_by : (b : Bool) (j r : ℕ) → (b ≡ true → j < r) → not b || nat_lt j r ≡ true
falls_by true j r h = let lt = h refl in grind (arith, nat_tests)
falls_by false j r h = refl

-- ---- nothing is missing
none_in : (xs : List ℕ) → (length xs == 0) ≡ true → xs ≡ []
none_in [] h = refl
none_in (x ∷ xs) h = let e : length (x ∷ xs) ≡ 0 = eqb-true (length (x ∷ xs)) 0 h in absurd (omega (arith, e))

none_missing : (x : Missing) (falls : Bool) → is_nothing x ≡ true → falls ≡ true → first_missing x.equations x.literals falls ≡ None
none_missing x falls h f =
    let e = none_in x.equations (and_first (length x.equations == 0) (length x.literals == 0) h) in
    let l = none_in x.literals (and_second (length x.equations == 0) (length x.literals == 0) h) in
    ap (λ ks. first_missing ks x.literals falls) e ∙ ap (λ ks. first_missing [] ks falls) l ∙ ap (λ b. first_missing [] [] b) f

-- ---- moves
module _ (m : MachinePair) (cs : List (CertificateNode Fact)) (modes : AllByRecursion (λ c. mode_at m (node_without_mode c) ≡ Found c.mode) cs) where
  abbrev T : Table
  T = map node_without_mode cs

  abbrev ranks : List ℕ
  ranks = map (λ c. c.rank) cs

  abbrev judged_post : CertificateNode Fact → PathPair → Post → Judged
  judged_post c x post = cond (is_refuted post.conditions) (Done None)
      (reaches NoTarget (nodes_at cs (end_of c.left x.left) (end_of c.right x.right)) (rank_falls c) post)

  target_reached : (c : CertificateNode Fact) (P Q : Point) (post : Post) → above ranks (lone_target m T c.mode P Q (Done post)) ≤ c.rank → Into T P Q post
      → reaches NoTarget (nodes_at cs P Q) (rank_falls c) post ≡ Done None
  target_reached c P Q post le t =
      let s = standing P Q 0 cs t.number t.node t.target in
      let at : t.number ≡ s.place = omega (arith, s.number) in
      let mode : mode_at m t.node ≡ Found s.node.mode = subst (λ n. mode_at m n ≡ Found s.node.mode) s.same
      (each_at (λ d. mode_at m (node_without_mode d) ≡ Found d.mode) cs s.place s.node modes s.is_in) in
      let rank : slice_index ranks t.number ≡ s.node.rank = ap (slice_index ranks) at ∙ rank_at cs s.place s.node s.is_in in
      let falls : rank_falls c s.node ≡ true = falls_by (same_alone c.mode s.node.mode) s.node.rank c.rank (λ h.
      let lt = lower m T ranks c.mode P Q post t.number c.rank t.node t.is_open t.target (ap (moves_alone c.mode) mode ∙ h) le in
      subst (λ r. r < c.rank) rank lt) in
      let entailed : entails post s.node.fact ≡ Done t.missing = ap (λ (n : SearchNode). entails post n.fact) s.same ∙ t.compared_to in
      let others = reaches NoTarget s.others (rank_falls c) post in
      ap (λ ns. reaches NoTarget ns (rank_falls c) post) s.first
      ∙ ap (λ z. or_else (after z (λ e. Done (first_missing e.equations e.literals (rank_falls c s.node)))) others) entailed
      ∙ ap (λ o. or_else (Done o) others) (none_missing t.missing (rank_falls c s.node) t.entailed falls)

  move_holds : (c : CertificateNode Fact) (x : PathPair) (r : Computed Post)
      → above ranks (lone_target m T c.mode (end_of c.left x.left) (end_of c.right x.right) r) ≤ c.rank
      → Arrival T (end_of c.left x.left) (end_of c.right x.right) r → after r (judged_post c x) ≡ Done None
  move_holds c x r le a =
      let le' : above ranks (lone_target m T c.mode (end_of c.left x.left) (end_of c.right x.right) (Done a.post)) ≤ c.rank =
      subst (λ z. above ranks (lone_target m T c.mode (end_of c.left x.left) (end_of c.right x.right) z) ≤ c.rank) a.arrives le in
      ap (λ z. after z (judged_post c x)) a.arrives
      ∙ elim a.holds [
        | inl h ↦ ap (λ b. cond b (Done None) (reaches NoTarget (nodes_at cs (end_of c.left x.left) (end_of c.right x.right)) (rank_falls c) a.post)) h
        | inr t ↦ ap (λ b. cond b (Done None) (reaches NoTarget (nodes_at cs (end_of c.left x.left) (end_of c.right x.right)) (rank_falls c) a.post)) t.is_open
            ∙ target_reached c (end_of c.left x.left) (end_of c.right x.right) a.post le' t
      ]

  pub moves_hold : (c : CertificateNode Fact) (xs : List PathPair) → AllByRecursion (λ x. effect m T (node_without_mode c) x ≡ Keeps) xs
      → above ranks (lone_targets m T (node_without_mode c) c.mode xs) ≤ c.rank
      → AllByRecursion (λ x. judge_move m.left m.right cs c x.left x.right ≡ Done None) xs
  moves_hold c [] keep le = tt
  moves_hold c (x ∷ xs) keep le =
      let r = arrive m.left m.right c.fact.literals (vector_of c.fact.positions) x.left x.right in
      let one = lone_target m T c.mode (end_of c.left x.left) (end_of c.right x.right) r in
      let rest = lone_targets m T (node_without_mode c) c.mode xs in
      let le1 : above ranks one ≤ c.rank = omega (arith, above_left ranks one rest, le) in
      let le2 : above ranks rest ≤ c.rank = omega (arith, above_right ranks one rest, le) in
      (move_holds c x r le1 (kept (positions_of m) T (end_of c.left x.left) (end_of c.right x.right) r keep.0), moves_hold c xs keep.1 le2)
