-- What the obligations of a certificate ask, as text.
use Rattle.std.specs.Prelude.{ℕ, ◌+◌, cond, List, [], ◌∷◌, ◌++◌, map, Option, Some, None, codes, decimal}
use Rattle.std.specs.List.{flat_map}
use Rattle.fs_model.specs.declared.parts.VarInfo.{VarInfo}
use Rattle.fs_model.specs.Machines.{Fsmd}
use Rattle.fs_model.specs.Runs.{is_output}
use Rattle.fs_cut.specs.Paths.{Start, Path}
use Rattle.fs_cut.specs.Covers.{paths_from, cover_of}
use Rattle.cert_bisimulation.specs.declared.mode.Mode.{Mode}
use Rattle.cert_bisimulation.specs.declared.mode.Mode.TheVariants.{Both, Left, Right, End}
use Rattle.cert_bisimulation.specs.Tables.{Node}
use Rattle.cert_model.specs.Obligations.{nodes_at}
use Rattle.sym_paths.specs.Execution.{end_of}
use Rattle.sym_facts.specs.Facts.{Fact}
use Rattle.fs_cut.specs.PathTexts.{named_path}
use Rattle.cert_writer.specs.WrittenCertificates.{mode_written}
use Rattle.search_tables.specs.SearchTables.{MachinePair}
use Rattle.show_fact_text.specs.PointTexts.{points_text}
use Rattle.show_fact_text.specs.View.{position_name_in}
use Rattle.show_certificate_lines.specs.Cases.{case_at, telling_lines}
use Rattle.show_certificate_lines.specs.MoveCases.{move_case, any_case}

-- ---- one obligation

-- the path of a side, and `-` for one that stays
abbrev pub side_moved : Fsmd → Option Path → List ℕ
side_moved m None = codes "-"
side_moved m (Some p) = named_path m p

-- the start asks for the fact of the start node, or of one of the cases there
unfoldable pub start_demand : MachinePair → List (Node Fact) → List ℕ
start_demand m ns = points_text m Start Start ++ (any_case (nodes_at ns Start Start) ++ codes ": the fact of the start stores\n")

-- the node at a place asks for its mode; where it shares its points, behind which case it is, and before what tells it from the
-- others
unfoldable pub mode_demand : MachinePair → List (Node Fact) → (place : ℕ) → Node Fact → List ℕ
mode_demand m ns k n = points_text m n.left n.right
    ++ (case_at ns k n ++ (codes ": mode " ++ (mode_written n.mode ++ (codes "\n" ++ telling_lines (position_name_in m) ns n))))

-- a move asks for the fact of the node to which its paths lead
unfoldable pub move_demand : MachinePair → List (Node Fact) → Node Fact → (left right : Option Path) → List ℕ
move_demand m ns n l r = side_moved m.left l
    ++ (codes " | " ++ (side_moved m.right r ++ (codes ": the fact at " ++ (points_text m (end_of n.left l) (end_of n.right r)
    ++ (move_case m ns n l r ++ codes "\n")))))

-- the left output of the node at a place asks to be the same on the right
unfoldable pub output_demand : MachinePair → List (Node Fact) → (place : ℕ) → Node Fact → VarInfo → List ℕ
output_demand m ns k n v = points_text m n.left n.right ++ (case_at ns k n ++ (codes ": output " ++ (v.name ++ codes "\n")))

-- ---- all of them, in the order in which they are numbered

abbrev pub right_demands : MachinePair → List (Node Fact) → Node Fact → (left : Option Path) → List Path → List (List ℕ)
right_demands m ns n l qs = map (λ q. move_demand m ns n l (Some q)) qs

abbrev pub left_demands : MachinePair → List (Node Fact) → Node Fact → (lefts : List Path) → List (List ℕ)
left_demands m ns n ps = map (λ p. move_demand m ns n (Some p) None) ps

abbrev pub both_demands : MachinePair → List (Node Fact) → Node Fact → (rights lefts : List Path) → List (List ℕ)
both_demands m ns n qs ps = flat_map (λ p. right_demands m ns n (Some p) qs) ps

abbrev pub output_demands : MachinePair → List (Node Fact) → (place : ℕ) → Node Fact → List VarInfo → List (List ℕ)
output_demands m ns k n [] = []
output_demands m ns k n (v ∷ vs) =
    cond (is_output v.role) (output_demand m ns k n v ∷ output_demands m ns k n vs) (output_demands m ns k n vs)

-- the moves of the node at a place, or its outputs, by its mode
abbrev pub demands_by_mode : Mode → MachinePair → List (Node Fact) → (place : ℕ) → Node Fact → List (List ℕ)
demands_by_mode Both m ns k n = both_demands m ns n (paths_from (cover_of m.right) n.right) (paths_from (cover_of m.left) n.left)
demands_by_mode Left m ns k n = left_demands m ns n (paths_from (cover_of m.left) n.left)
demands_by_mode Right m ns k n = right_demands m ns n None (paths_from (cover_of m.right) n.right)
demands_by_mode End m ns k n = output_demands m ns k n m.left.variables

abbrev pub demands_of : MachinePair → List (Node Fact) → (place : ℕ) → Node Fact → List (List ℕ)
demands_of m ns k n = mode_demand m ns k n ∷ demands_by_mode n.mode m ns k n

-- what nodes of a certificate ask, from a place on
abbrev pub demands_from : MachinePair → (all : List (Node Fact)) → (place : ℕ) → List (Node Fact) → List (List ℕ)
demands_from m all k [] = []
demands_from m all k (n ∷ ns) = demands_of m all k n ++ demands_from m all (k + 1) ns

abbrev pub demands : MachinePair → List (Node Fact) → List (List ℕ)
demands m ns = start_demand m ns ∷ demands_from m ns 0 ns

-- ---- lines

-- a text, which ends its line, behind a number
unfoldable pub numbered_line : ℕ → List ℕ → List ℕ
numbered_line k text = decimal k ++ (codes " " ++ text)

-- texts, each behind its number, from k on
abbrev pub numbered_lines : ℕ → List (List ℕ) → List ℕ
numbered_lines k [] = []
numbered_lines k (text ∷ texts) = numbered_line k text ++ numbered_lines (k + 1) texts

-- the obligations of a certificate, numbered as the checker numbers them
abbrev pub obligation_lines : MachinePair → List (Node Fact) → List ℕ
obligation_lines m ns = numbered_lines 1 (demands m ns)
