-- The types of src/ as plain data.
use Rattle.std.specs.Prelude.{ℕ, ◌+◌, ◌*◌, ◌≤◌, Bool, true, cond, List, [], map, Option, Some, None}
use Rattle.fs_model.specs.Machines.{Fsmd}
use Rattle.fs_model.specs.declared.sides.Side.{Side}
use Rattle.fs_model.specs.declared.sides.Pos.{Pos}
use Rattle.nf_terms.specs.declared.form.Nf.{Nf}
use Rattle.nf_terms.specs.Computed.{Computed, Done, after}
use Rattle.fs_cut.specs.Paths.{Point, Path}
use Rattle.fs_model.specs.Limits.{most_branches}
use Rattle.cert_bisimulation.specs.declared.mode.Mode.{Mode}
use Rattle.cert_bisimulation.specs.Tables.{Node}
use Rattle.sym_paths.specs.Execution.{Post, execute}
use Rattle.sym_facts.specs.Facts.{Fact, vector_of}
use Rattle.sym_entailment.specs.Outcomes.{refuted_together}
use Rattle.cert_model.specs.Obligations as obligations
use Rattle.cert_model.specs.View.{node_of}
use Rattle.cert_model.specs.declared.reason.Reason.{Reason}
use Rattle.cert_model.specs.declared.reason.Reason.TheVariants as reason
use Rattle.cert_check.specs.Progress as progress
use Rattle.cert_check.specs.declared.verdict.Verdict.{Verdict}
use Rattle.cert_check.specs.declared.verdict.Verdict.TheVariants as code
use Rattle.cert_check.specs.declared.progress.Progress.{Progress}
use Rattle.cert_check.specs.declared.progress.Progress.TheVariants as going
use Rattle.cert_check.specs.declared.node_index.NodeIndex.{NodeIndex}
use Rattle.cert_check.specs.declared.table.Table.{Table}

abbrev pub verdict_in : Verdict → obligations.Verdict
verdict_in code.Yes = obligations.Yes
verdict_in (code.No k r) = obligations.No k r
verdict_in (code.Wide k) = obligations.IsWide k
verdict_in (code.Large k) = obligations.IsLarge k

abbrev pub progress_in : Progress → progress.Progress
progress_in (going.Held k) = progress.Held k
progress_in (going.Stopped v) = progress.Stopped (verdict_in v)

-- where all hold, the next number is at most this
abbrev pub NumberUpTo : ℕ → Progress → Type 0
NumberUpTo n (going.Held k) = k ≤ n
NumberUpTo n (going.Stopped v) = Unit {0}

-- the nodes of an index, in order
abbrev pub index_nodes : NodeIndex → List (Node Fact)
index_nodes i = map node_of i.nodes.now

-- what arrives at two points over a table, from a node
abbrev pub reached_in : Table → Node Fact → Post → (left right : Point) → obligations.Judged
reached_in t n post P Q =
    obligations.reaches reason.NoTarget (obligations.nodes_at (index_nodes t.nodes) P Q) (obligations.rank_falls n) post

-- whether the rank falls from a node, which it need not from the start
abbrev pub falls_from : Option (Node Fact) → Node Fact → Bool
falls_from None t = true
falls_from (Some n) t = obligations.rank_falls n t

-- several, of which the first ones failed; the first of these for this reason
abbrev pub behind : Option Reason → (later : obligations.Judged) → obligations.Judged
behind None later = later
behind (Some r) later = obligations.or_else (Done (Some r)) later

-- a move over a table
abbrev pub move_in : Table → Node Fact → (left right : Option Path) → obligations.Judged
move_in t n left right = obligations.judge_move t.a.now t.b.now (index_nodes t.nodes) n left right

-- a path with what it gives over a vector
abbrev pub way_of : Fsmd → Side → List (Pos × Nf) → Path → Path × Computed Post
way_of m side v p = (p, execute m p side v)

-- a move over a table by two ways over the fact of its node: where they are refuted together, it holds
abbrev pub ways_in : Table → Node Fact → (left right : Path × Computed Post) → obligations.Judged
ways_in t n left right = after (refuted_together n.fact.literals left.1 right.1)
    (λ refuted. cond refuted (Done None) (move_in t n (Some left.0) (Some right.0)))

-- what a node owes over a table
abbrev pub owed_in : Table → Node Fact → List obligations.Judged
owed_in t n = obligations.owed_by t.a.now t.b.now (index_nodes t.nodes) n

-- the moves of a node in a mode over a table, or its outputs
abbrev pub owed_moves : Mode → Table → Node Fact → List obligations.Judged
owed_moves m t n = obligations.moves_by m t.a.now t.b.now (index_nodes t.nodes) n

-- the start fact's vector, without conditions
abbrev pub start_post : Fact → Post
start_post f = record { conditions = []; vector = vector_of f.positions }

-- how many moves or outputs a node has at most, and what it owes
abbrev pub most_node_moves : ℕ
most_node_moves = most_branches * most_branches

abbrev pub most_owed : ℕ
most_owed = 1 + most_node_moves
