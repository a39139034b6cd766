-- The lines of what a fact lost where a post arrived.
use Rattle.std.specs.Prelude.{ℕ, List, [], ◌++◌, Option, Some, None, slice_get, codes}
use Rattle.std.specs.List.{flat_map}
use Rattle.fs_model.specs.declared.sides.Pos.{Pos}
use Rattle.nf_terms.specs.declared.form.Nf.{Nf}
use Rattle.nf_terms.specs.Computed.{Computed, Done, Wide, Large}
use Rattle.nf_rel.specs.Literals.{NormalLiteral}
use Rattle.sym_paths.specs.Execution.{Post}
use Rattle.sym_facts.specs.Facts.{Fact, FactPosition}
use Rattle.sym_facts.specs.Entailment.{Missing, form_like, form_substituted}
use Rattle.cert_writer.specs.WrittenCertificates.{form_written}
use Rattle.show_fact_text.specs.FactLines.{position_line, condition_line}

-- a form that is computed, and nothing where an operation is past a limit
abbrev pub computed_text : (Pos → List ℕ) → Computed Nf → List ℕ
computed_text name (Done f) = form_written name f
computed_text name (Wide left right) = []
computed_text name (Large units depth) = []

-- a form that arrived, and what an equation asked for
abbrev pub came_for : (Pos → List ℕ) → (came : Nf) → (asked : Computed Nf) → List ℕ
came_for name came asked = codes "    came " ++ (form_written name came ++ (codes " for " ++ (computed_text name asked ++ codes "\n")))

-- what arrived for a position, and what its equation asked for
abbrev pub came_line : (Pos → List ℕ) → List (Pos × Nf) → Pos → Option Nf → List ℕ
came_line name v p None = []
came_line name v p (Some f) = came_for name (form_like v p f) (form_substituted v f)

-- the equation at a place that was lost, and what arrived there
abbrev pub lost_equation : (Pos → List ℕ) → List (Pos × Nf) → Option FactPosition → List ℕ
lost_equation name v None = []
lost_equation name v (Some q) = position_line (codes "  lost ") name q ++ came_line name v q.pos q.equation

-- the equation that stands in its place, if one does
abbrev pub instead_line : (Pos → List ℕ) → Option FactPosition → List ℕ
instead_line name None = []
instead_line name (Some q) = position_line (codes "  instead ") name q

abbrev pub lost_line : (Pos → List ℕ) → Post → (old new : Fact) → (place : ℕ) → List ℕ
lost_line name post old new k = lost_equation name post.vector (slice_get old.positions k)
    ++ instead_line name (slice_get new.positions k)

-- the literal at an index that was lost
abbrev pub lost_literal : (Pos → List ℕ) → Option NormalLiteral → List ℕ
lost_literal name None = []
lost_literal name (Some l) = condition_line (codes "  lost ") name l

abbrev pub lost_condition : (Pos → List ℕ) → (old : Fact) → (index : ℕ) → List ℕ
lost_condition name old k = lost_literal name (slice_get old.literals k)

-- what was missing of a post, of the old fact
abbrev pub lost_lines : (Pos → List ℕ) → Post → (old new : Fact) → Missing → List ℕ
lost_lines name post old new x = flat_map (lost_line name post old new) x.equations
    ++ flat_map (lost_condition name old) x.literals
