-- The obligations of a certificate, as a numbered list.
use Rattle.std.specs.Prelude.{ℕ, ◌+◌, nat_lt, Bool, true, false, not, ◌&&◌, ◌||◌, cond, List, [], ◌∷◌, map, filter}
use Rattle.std.specs.Prelude.{Option, Some, None, option_map}
use Rattle.std.specs.List.{flat_map}
use Rattle.fs_model.specs.declared.parts.Sort.{Sort}
use Rattle.fs_model.specs.declared.parts.Sort.TheVariants as sort
use Rattle.fs_model.specs.Machines.{Fsmd}
use Rattle.fs_cut.specs.Paths.{Point, Start, Path}
use Rattle.fs_cut.specs.Paths as paths
use Rattle.fs_cut.specs.Covers.{paths_of, same_point}
use Rattle.sym_facts.specs.PairedOutputs.{OutputPair, output_pairs}
use Rattle.sym_facts.specs.Positions.{positions}
use Rattle.cert_bisimulation.specs.declared.mode.Mode.{Mode}
use Rattle.cert_bisimulation.specs.declared.mode.Mode.TheVariants.{Both, Left, Right, End}
pub use Rattle.cert_bisimulation.specs.Ranks.{same_alone}
use Rattle.cert_bisimulation.specs.Tables.{Node}
use Rattle.nf_terms.specs.Forms.{same_form}
use Rattle.fs_model.specs.declared.sides.Side.TheVariants as side
use Rattle.fs_model.specs.declared.sides.Pos.{Pos}
use Rattle.nf_terms.specs.declared.form.Nf.{Nf}
use Rattle.nf_terms.specs.declared.form.Nf.TheVariants.{Num, Arr, Seq}
use Rattle.nf_terms.specs.Computed.{Computed, Done, Wide, Large, after}
use Rattle.nf_vectors.specs.Vectors.{number_at, array_form, list_at}
use Rattle.sym_facts.specs.Literals.{is_refuted}
use Rattle.sym_facts.specs.ValuationStores.{at}
use Rattle.sym_facts.specs.Execution.{Post, arrive, end_of}
use Rattle.sym_facts.specs.Facts.{Fact, vector_of}
use Rattle.sym_facts.specs.Entailment.{entails}
use Rattle.sym_facts.specs.Starts.{start_fact}
use Rattle.cert_model.specs.declared.reason.Reason.{Reason}
use Rattle.cert_model.specs.declared.reason.Reason.TheVariants as reason

-- an obligation holds, where there is no reason, or fails for one; or an operation has an event
abbrev pub Judged : Type 0
Judged = Computed (Option Reason)

-- the nodes at two points, in order
abbrev pub nodes_at : List (Node Fact) → Point → Point → List (Node Fact)
nodes_at ns P Q = filter (λ n. same_point n.left P && same_point n.right Q) ns

-- where the first fails, the later one is tried; where that fails, too, the reason is that of the first
abbrev pub or_else : Judged → (later : Judged) → Judged
or_else (Done None) later = Done None
or_else (Done (Some r)) later = after later (λ found. Done (option_map (λ other. r) found))
or_else (Wide left right) later = Wide left right
or_else (Large units depth) later = Large units depth

-- one of them holds, tried in order; there is none for this reason
abbrev pub one_of : (none : Reason) → List Judged → Judged
one_of none [] = Done (Some none)
one_of none (j ∷ js) = or_else j (one_of none js)

-- the first that is missing, and then whether the rank falls
abbrev pub first_missing : (equations literals : List ℕ) → (rank_falls : Bool) → Option Reason
first_missing (k ∷ ks) ls falls = Some (reason.Equation k)
first_missing [] (k ∷ ls) falls = Some (reason.Condition k)
first_missing [] [] true = None
first_missing [] [] false = Some reason.Rank

abbrev pub rank_falls : Node Fact → Node Fact → Bool
rank_falls n t = not (same_alone n.mode t.mode) || nat_lt t.rank n.rank

-- a target is entailed
abbrev pub judge_target : Post → Node Fact → (falls : Bool) → Judged
judge_target post t falls = after (entails post t.fact) (λ e. Done (first_missing e.equations e.literals falls))

-- one of the targets is entailed
abbrev pub reaches : (none : Reason) → List (Node Fact) → (falls : Node Fact → Bool) → Post → Judged
reaches none ts falls post = one_of none (map (λ t. judge_target post t (falls t)) ts)

-- a node at the start is entailed by the start fact's vector, whatever its rank
abbrev pub judge_start : List (Node Fact) → Post → Judged
judge_start ns post = reaches reason.NoStartNode (nodes_at ns Start Start) (λ t. true) post

-- a move: it is refuted, or one of the nodes at its ends is reached
abbrev pub judge_move : (a b : Fsmd) → List (Node Fact) → Node Fact → (left right : Option Path) → Judged
judge_move a b ns n left right =
    after (arrive a b n.fact.literals (vector_of n.fact.positions) left right) (λ post.
    cond (is_refuted post.conditions) (Done None)
    (reaches reason.NoTarget (nodes_at ns (end_of n.left left) (end_of n.right right)) (rank_falls n) post))

abbrev pub is_done : Point → Bool
is_done P = same_point P paths.Done

abbrev pub mode_fits : Mode → (left right : Point) → Bool
mode_fits Both P Q = not (is_done P) && not (is_done Q)
mode_fits Left P Q = not (is_done P)
mode_fits Right P Q = not (is_done Q)
mode_fits End P Q = is_done P && is_done Q

abbrev pub judge_mode : Node Fact → Judged
judge_mode n = Done (cond (mode_fits n.mode n.left n.right) None (Some reason.Mode))

-- whether two variables of a sort have the same form
abbrev pub same_forms : List (Pos × Nf) → Sort → ℕ → Option ℕ → Bool
same_forms v s x None = false
same_forms v sort.Scalar x (Some y) = same_form (Num (number_at v (at side.Left x))) (Num (number_at v (at side.Right y)))
same_forms v sort.Array x (Some y) = same_form (Arr (array_form v (at side.Left x))) (Arr (array_form v (at side.Right y)))
same_forms v sort.Port x (Some y) = same_form (Seq (list_at v (at side.Left x))) (Seq (list_at v (at side.Right y)))

abbrev pub judge_output : Node Fact → OutputPair → Judged
judge_output n o = Done (cond (same_forms (vector_of n.fact.positions) o.sort o.left o.right) None (Some (reason.Output o.left)))

-- the moves of a node, or its outputs, by its mode
abbrev pub moves_by : Mode → (a b : Fsmd) → List (Node Fact) → Node Fact → List Judged
moves_by Both a b ns n = flat_map (λ p. map (λ q. judge_move a b ns n (Some p) (Some q)) (paths_of b n.right)) (paths_of a n.left)
moves_by Left a b ns n = map (λ p. judge_move a b ns n (Some p) None) (paths_of a n.left)
moves_by Right a b ns n = map (λ q. judge_move a b ns n None (Some q)) (paths_of b n.right)
moves_by End a b ns n = map (judge_output n) (output_pairs 0 a.variables b.variables)

-- a node owes its mode, and then its moves or its outputs
abbrev pub owed_by : (a b : Fsmd) → List (Node Fact) → Node Fact → List Judged
owed_by a b ns n = judge_mode n ∷ moves_by n.mode a b ns n

-- the obligations, in order, over the start fact
abbrev pub obligations : (a b : Fsmd) → (start : Fact) → List (Node Fact) → List Judged
obligations a b start ns =
    judge_start ns (record { conditions = []; vector = vector_of start.positions })
    ∷ flat_map (owed_by a b ns) ns

-- what a checker answers
pub data Verdict : Type 0 where
  Yes : Verdict
  No : ℕ → Reason → Verdict
  IsWide : ℕ → Verdict
  IsLarge : ℕ → Verdict

-- obligation number k, and else those after it
abbrev pub verdict_by : ℕ → Judged → (later : Verdict) → Verdict
verdict_by k (Done None) later = later
verdict_by k (Done (Some r)) later = No k r
verdict_by k (Wide left right) later = IsWide k
verdict_by k (Large units depth) later = IsLarge k

abbrev pub verdict_from : ℕ → List Judged → Verdict
verdict_from k [] = Yes
verdict_from k (r ∷ rs) = verdict_by k r (verdict_from (k + 1) rs)

abbrev pub verdict : (a b : Fsmd) → (start : Fact) → List (Node Fact) → Verdict
verdict a b start ns = verdict_from 1 (obligations a b start ns)

-- the verdict on nodes as a certificate of two machines
abbrev pub verdict_on : (a b : Fsmd) → List (Node Fact) → Verdict
verdict_on a b nodes = verdict a b (start_fact (positions a b)) nodes
