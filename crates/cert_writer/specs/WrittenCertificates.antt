-- How a certificate is written.
use Rattle.std.specs.Prelude.{ℕ, Bool, true, false, cond, List, [], ◌∷◌, map, Option, Some, None, codes}
use Rattle.std.specs.List.{list_any}
use Rattle.serde_json.specs.Data.{Data, string, Members, no_members, put}
use Rattle.serde_json.specs.Written.{compact_text}
use Rattle.fs_model.specs.Machines.{Fsmd}
use Rattle.fs_ast.specs.StoredBranches.{state_name_of as state_name}
use Rattle.fs_cut.specs.Paths.{Point, Start, At, Done}
use Rattle.fs_pair.specs.declared.positions.Position.{Position}
use Rattle.fs_pair.specs.Positions.{positions}
use Rattle.fs_pair.specs.Partners.{position_name}
use Rattle.cert_bisimulation.specs.declared.mode.Mode.{Mode}
use Rattle.cert_bisimulation.specs.declared.mode.Mode.TheVariants as mode
use Rattle.cert_bisimulation.specs.Tables.{Node}
use Rattle.fs_model.specs.declared.sides.Pos.{Pos}
use Rattle.fs_model.specs.Runs.{is_port}
use Rattle.nf_terms.specs.declared.form.Nf.{Nf}
use Rattle.nf_terms.specs.declared.form.Nf.TheVariants.{Num, Arr, Seq}
use Rattle.nf_rel.specs.Literals.{NormalLiteral}
use Rattle.sym_facts.specs.Facts.{FactPosition, Fact}
use Rattle.cert_model.specs.Lawful.{points_differ}
use Rattle.term_text.specs.TermTexts.{symbol_text, polynomial_text, array_text, list_text}
use Rattle.term_condition_text.specs.ConditionTexts.{condition_text}
use Rattle.term_writer.specs.WrittenTerms.{polynomial_written, array_written, list_written, literal_written as written_literal}
use Rattle.cert_json.specs.WrittenJson.{NodeText, file_data}
use Rattle.cert_json.specs.JsonTexts.{named_texts_of}

abbrev pub form_written : (Pos → List ℕ) → Nf → List ℕ
form_written name (Num p) = polynomial_text (polynomial_written name p)
form_written name (Arr a) = array_text (array_written name a)
form_written name (Seq l) = list_text (list_written name l)

abbrev pub literal_bytes : (Pos → List ℕ) → NormalLiteral → List ℕ
literal_bytes name l = condition_text (written_literal name l)

-- an equation under the key of its position; a free position has none
abbrev pub with_equation_member : (Pos → List ℕ) → Pos → Option Nf → Members → Members
with_equation_member name p None ms = ms
with_equation_member name p (Some f) ms = put (symbol_text p.side (name p)) (string (form_written name f)) ms

-- equations in byte order of their keys, beside those before
abbrev pub equations_written : (Pos → List ℕ) → Members → List FactPosition → Members
equations_written name ms [] = ms
equations_written name ms (q ∷ qs) = equations_written name (with_equation_member name q.pos q.equation ms) qs

abbrev pub point_written : Fsmd → Point → List ℕ
point_written m Start = codes "start"
point_written m (At q) = state_name m q
point_written m Done = codes "done"

abbrev pub mode_written : Mode → List ℕ
mode_written mode.Both = codes "both"
mode_written mode.Left = codes "left"
mode_written mode.Right = codes "right"
mode_written mode.End = codes "end"

abbrev pub node_written : (a b : Fsmd) → Node Fact → NodeText
node_written a b n = record {
  conds = map (literal_bytes (position_name a b)) n.fact.literals;
  equations = named_texts_of (equations_written (position_name a b) no_members n.fact.positions);
  left = point_written a n.left;
  mode = mode_written n.mode;
  rank = n.rank;
  right = point_written b n.right;
}

-- where no two nodes stand at the same points, format 2 exactly where a machine declares a port; else format 4
abbrev pub needed_format : (points_differ : Bool) → List Position → ℕ
needed_format true ps = cond (list_any (λ p. is_port p.sort) ps) 2 1
needed_format false ps = 4

-- the JSON that a certificate is written as
abbrev pub file_written : (a b : Fsmd) → List Position → List (Node Fact) → Data
file_written a b ps ns = file_data (needed_format (points_differ ns) ps) (map (node_written a b) ns)

-- the bytes of a certificate of two machines
abbrev pub certificate_text : (a b : Fsmd) → List (Node Fact) → List ℕ
certificate_text a b ns = compact_text (file_written a b (positions a b) ns)
