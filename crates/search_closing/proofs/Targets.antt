-- Where a path leads that a side takes alone.
use Rattle.std.proofs.Common.{◌≡◌, ℕ, refl, ap, ◌∙◌, Bool, true, false, cond, List, [], ◌∷◌, ◌++◌}
use Rattle.fs_cut.specs.Paths.{Point}
use Rattle.cert_bisimulation.specs.declared.mode.Mode.{Mode}
use Rattle.cert_bisimulation.specs.declared.mode.Mode.TheVariants.{Both}
use Rattle.search_tables.specs.Modes.{Traced, Found, WideAt, LargeAt}
use Rattle.cert_model.specs.Obligations.{same_alone}
use Rattle.nf_terms.specs.Computed.{Computed, Done, Wide, Large}
use Rattle.nf_rel.specs.Literals.{is_refuted}
use Rattle.sym_paths.specs.Execution.{Post, end_of}
use Rattle.search_tables.specs.SearchTables.{MachinePair, SearchNode, Table, Target, Unknown, Known, node_target, PathPair, arrival}
use Rattle.search_tables.specs.Next.{mode_at}
use Rattle.search_tables.specs.LoneMoves.{moves_alone, if_alone, lone_target as target_by, lone_targets}

-- ---- the number of a node from which the same machine moves alone
pub known_alone : (m : MachinePair) (x y : Mode) (t : Target) (k : ℕ) (n : SearchNode) (b : Bool) → t ≡ Known k n → mode_at m n ≡ Found y → same_alone x y ≡ b
    → if_alone m x t ≡ cond b (k ∷ []) []
known_alone m x y t k n b e f a = ap (if_alone m x) e ∙ ap (λ z. cond (moves_alone x z) (k ∷ []) []) f ∙ ap (λ c. cond c (k ∷ []) []) a

-- ---- where a path leads
none_by : (b : Bool) (xs : List ℕ) → xs ≡ [] → cond b [] xs ≡ []
none_by true xs e = refl
none_by false xs e = e

pub leads_nowhere : (m : MachinePair) (T : Table) (x : Mode) (P Q : Point) (c : Computed Post) → if_alone m x (node_target T P Q) ≡ []
    → target_by m T x P Q c ≡ []
leads_nowhere m T x P Q (Done post) e = none_by (is_refuted post.conditions) (if_alone m x (node_target T P Q)) e
leads_nowhere m T x P Q (Wide l r) e = refl
leads_nowhere m T x P Q (Large u d) e = refl

-- ---- where both machines move, or none does, no machine moves alone
none_alone : (m : MachinePair) (t : Target) → if_alone m Both t ≡ []
none_alone m Unknown = refl
none_alone m (Known k n) = by_mode (mode_at m n)
  where
    by_mode : (r : Traced Mode) → cond (moves_alone Both r) (k ∷ []) [] ≡ []
    by_mode (Found y) = refl
    by_mode (WideAt d b l r) = refl
    by_mode (LargeAt d b u h) = refl

pub none_by_both : (m : MachinePair) (T : Table) (n : SearchNode) (ys : List PathPair) → lone_targets m T n Both ys ≡ []
none_by_both m T n [] = refl
none_by_both m T n (y ∷ ys) =
    let P = end_of n.left y.left in
    let Q = end_of n.right y.right in
    ap (λ l. l ++ lone_targets m T n Both ys) (leads_nowhere m T Both P Q (arrival m n y) (none_alone m (node_target T P Q))) ∙ none_by_both m T n ys
