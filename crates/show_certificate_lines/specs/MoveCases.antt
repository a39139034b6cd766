-- The case to which a move leads.
use Rattle.std.specs.Prelude.{ℕ, ◌+◌, nat_lt, Bool, cond, List, [], ◌∷◌, ◌++◌, length, map}
use Rattle.std.specs.Prelude.{Option, Some, None, is_none, codes, decimal}
use Rattle.fs_cut.specs.Paths.{Path}
use Rattle.nf_terms.specs.Computed.{Computed, Done, Wide, Large, after}
use Rattle.cert_bisimulation.specs.Tables.{Node}
use Rattle.sym_paths.specs.Execution.{Post, arrive, end_of}
use Rattle.sym_facts.specs.Facts.{Fact, vector_of}
use Rattle.sym_facts.specs.Literals.{is_refuted}
use Rattle.cert_model.specs.Obligations.{nodes_at, judge_target, rank_falls}
use Rattle.search_tables.specs.SearchTables.{MachinePair}
use Rattle.show_certificate_lines.specs.Cases.{case_words}

-- a post, which comes from a node, reaches a target, as the checker judges it
abbrev pub reaches_target : (from : Node Fact) → Post → (target : Node Fact) → Computed Bool
reaches_target n post t = after (judge_target post t (rank_falls n t)) (λ found. Done (is_none found))

-- the number of the first that is reached, from a number on
abbrev pub first_reached : (number : ℕ) → List (Computed Bool) → Computed (Option ℕ)
first_reached k [] = Done None
first_reached k (r ∷ rs) = after r (λ reached. cond reached (Done (Some k)) (first_reached (k + 1) rs))

-- what arrives reaches the first of the targets that holds; what is refuted reaches none
abbrev pub reached_by : (from : Node Fact) → (targets : List (Node Fact)) → Post → Computed (Option ℕ)
reached_by n ts post = cond (is_refuted post.conditions) (Done None) (first_reached 1 (map (reaches_target n post) ts))

abbrev pub reached_case : MachinePair → (from : Node Fact) → (left right : Option Path) → (targets : List (Node Fact))
    → Computed (Option ℕ)
reached_case m n l r ts =
    after (arrive m.left m.right n.fact.literals (vector_of n.fact.positions) l r) (λ post. reached_by n ts post)

-- none where an operation has an event
abbrev pub without_event : Computed (Option ℕ) → Option ℕ
without_event (Done found) = found
without_event (Wide left right) = None
without_event (Large units depth) = None

-- ---- text

unfoldable pub any_case_words : (count : ℕ) → List ℕ
any_case_words n = codes " one of " ++ (decimal n ++ codes " cases")

-- the case that is reached; and one of all cases, where none is known
abbrev pub target_words : Option ℕ → (count : ℕ) → List ℕ
target_words (Some k) n = case_words k n
target_words None n = any_case_words n

-- where several targets share their points, the one that is reached
abbrev pub target_text : Option ℕ → (count : ℕ) → List ℕ
target_text found n = cond (nat_lt 1 n) (target_words found n) []

-- the case to which a move from a node leads
abbrev pub move_case : MachinePair → List (Node Fact) → (from : Node Fact) → (left right : Option Path) → List ℕ
move_case m ns n l r =
    target_text (without_event (reached_case m n l r (nodes_at ns (end_of n.left l) (end_of n.right r))))
    (length (nodes_at ns (end_of n.left l) (end_of n.right r)))

-- any of the cases at two points
abbrev pub any_case : (targets : List (Node Fact)) → List ℕ
any_case ts = target_text None (length ts)
