-- The ranks of a certificate are the lengths of longest chains of lone moves.
use Rattle.std.proofs.Common.{◌≡◌, ℕ, zero, suc, refl, ap, sym, subst, ◌∙◌, Bool, true, false, cond, List, [], ◌∷◌, ◌++◌, map, Some}
use Rattle.std.specs.Prelude.{slice_get, slice_index}
use Rattle.base_laws.proofs.Quantifiers.{each_at}
use Rattle.fs_cut.specs.Paths.{Point}
use Rattle.cert_bisimulation.specs.declared.mode.Mode.{Mode}
use Rattle.cert_bisimulation.specs.declared.mode.Mode.TheVariants.{Both, Left, Right, End}
use Rattle.cert_bisimulation.specs.Tables.{Node as CertificateNode}
use Rattle.nf_terms.specs.Computed.{Computed, Done, Wide, Large}
use Rattle.nf_rel.specs.Literals.{is_refuted}
use Rattle.propagate.specs.Execution.{Post, arrive, end_of}
use Rattle.cert_model.specs.Facts.{Fact, vector_of}
use Rattle.propagate.specs.Modes.{Traced, Found, WideAt, LargeAt}
use Rattle.cert_model.specs.Obligations.{same_alone}
use Rattle.search_tables.specs.Graphs.{LongestChain, AreRanks}
use Rattle.search_tables.proofs.Longest.{longest_chain}
use Rattle.search_tables.specs.SearchTables.{MachinePair, SearchNode, Table, Target, Unknown, Known, node_target, PathPair}
use Rattle.search_tables.specs.Next.{mode_at, paths_in}
use Rattle.search_tables.specs.LoneMoves.{moves_alone, if_alone, lone_target, lone_targets, lone_in, lone_from, lone_moves}
use Rattle.search_tables.specs.Certifying.{node_without_mode, Certifies}
use Rattle.search_tables.proofs.Judging.{rank_at}

-- no machine moves alone in a mode in which both move, or neither
abbrev IsShared : Mode → Type 0
IsShared x = (y : Mode) → same_alone x y ≡ false

both_shared : IsShared Both
both_shared Both = refl
both_shared Left = refl
both_shared Right = refl
both_shared End = refl

module _ (m : MachinePair) (T : Table) (x : Mode) (shared : IsShared x) where
  never_alone : (t : Traced Mode) → moves_alone x t ≡ false
  never_alone (Found y) = shared y
  never_alone (WideAt d k left right) = refl
  never_alone (LargeAt d k units depth) = refl

  none_known : (g : Target) → if_alone m x g ≡ []
  none_known Unknown = refl
  none_known (Known k n) = ap (λ b. cond b (k ∷ []) []) (never_alone (mode_at m n))

  none_arrived : (P Q : Point) (c : Computed Post) → lone_target m T x P Q c ≡ []
  none_arrived P Q (Done post) = by_test (is_refuted post.conditions)
    where
      by_test : (b : Bool) → cond b [] (if_alone m x (node_target T P Q)) ≡ []
      by_test true = refl
      by_test false = none_known (node_target T P Q)
  none_arrived P Q (Wide left right) = refl
  none_arrived P Q (Large units depth) = refl

  none_alone : (n : SearchNode) (ys : List PathPair) → lone_targets m T n x ys ≡ []
  none_alone n [] = refl
  none_alone n (y ∷ ys) =
      ap (λ l. l ++ lone_targets m T n x ys) (none_arrived (end_of n.left y.left) (end_of n.right y.right)
      (arrive m.left m.right n.fact.literals (vector_of n.fact.positions) y.left y.right))
      ∙ none_alone n ys

-- ---- the ranks of a certificate
pub lone_at : (m : MachinePair) (T : Table) (ns : List SearchNode) (i : ℕ) (n : SearchNode) → slice_get ns i ≡ Some n
    → slice_get (lone_from m T ns) i ≡ Some (lone_in m T n (mode_at m n))
lone_at m T [] i n e = absurd (cc e)
lone_at m T (k ∷ ns) zero n e = let q : k ≡ n = cc e in ap (λ z. Some (lone_in m T z (mode_at m z))) q
lone_at m T (k ∷ ns) (suc i) n e = lone_at m T ns i n e

pub mapped_at : (cs : List (CertificateNode Fact)) (i : ℕ) (c : CertificateNode Fact) → slice_get cs i ≡ Some c
    → slice_get (map node_without_mode cs) i ≡ Some (node_without_mode c)
mapped_at [] i c e = absurd (cc e)
mapped_at (d ∷ cs) zero c e = let q : d ≡ c = cc e in ap (λ z. Some (node_without_mode z)) q
mapped_at (d ∷ cs) (suc i) c e = mapped_at cs i c e

module _ (m : MachinePair) (T : Table) (ranks : List ℕ) (cs : List (CertificateNode Fact)) (are : AreRanks (lone_moves m T) ranks)
    (h : Certifies m T ranks cs) where
  rank_is : (i : ℕ) (c : CertificateNode Fact) → slice_get cs i ≡ Some c → slice_index ranks i ≡ c.rank
  rank_is i c e = ap (λ l. slice_index l i) (sym h.ranks_are) ∙ rank_at cs i c e

  pub longest_from : (i : ℕ) (c : CertificateNode Fact) → slice_get cs i ≡ Some c → LongestChain (lone_moves m T) i c.rank
  longest_from i c e = subst (LongestChain (lone_moves m T) i) (rank_is i c e) (longest_chain (lone_moves m T) ranks i are)

  -- the rank of a node from which no machine moves alone
  lone_none : (x : Mode) (i : ℕ) (c : CertificateNode Fact) → slice_get cs i ≡ Some c → c.mode ≡ x
      → lone_targets m T (node_without_mode c) x (paths_in m (node_without_mode c) x) ≡ [] → c.rank ≡ 0
  lone_none x i c e q none =
      let at : mode_at m (node_without_mode c) ≡ Found c.mode =
      each_at (λ (d : CertificateNode Fact). mode_at m (node_without_mode d) ≡ Found d.mode) cs i c h.modes e in
      let found : mode_at m (node_without_mode c) ≡ Found x = at ∙ ap Found q in
      let stands : slice_get T i ≡ Some (node_without_mode c) = ap (λ l. slice_get l i) (sym h.nodes) ∙ mapped_at cs i c e in
      let edges : slice_get (lone_moves m T) i ≡ Some [] =
      lone_at m T T i (node_without_mode c) stands ∙ ap (λ t. Some (lone_in m T (node_without_mode c) t)) found ∙ ap Some none in
      sym (rank_is i c e) ∙ are.each i [] edges

  pub shared_rank : (i : ℕ) (c : CertificateNode Fact) → slice_get cs i ≡ Some c → c.mode ≡ Both → c.rank ≡ 0
  shared_rank i c e q = lone_none Both i c e q (none_alone m T Both both_shared (node_without_mode c) (paths_in m (node_without_mode c) Both))

  pub end_rank : (i : ℕ) (c : CertificateNode Fact) → slice_get cs i ≡ Some c → c.mode ≡ End → c.rank ≡ 0
  end_rank i c e q = lone_none End i c e q refl
