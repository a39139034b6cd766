-- The lines of facts.
use Rattle.std.specs.Prelude.{ℕ, List, [], ◌++◌, Option, Some, None, codes}
use Rattle.std.specs.List.{flat_map}
use Rattle.fs_model.specs.declared.sides.Pos.{Pos}
use Rattle.nf_terms.specs.declared.form.Nf.{Nf}
use Rattle.nf_rel.specs.Literals.{NormalLiteral, True, False, Is}
use Rattle.sym_facts.specs.Facts.{FactPosition, Fact}
use Rattle.term_text.specs.TermTexts.{symbol_text}
use Rattle.cert_writer.specs.WrittenCertificates.{form_written, literal_bytes}

-- the equation of a position on a line behind a text; a free position has none
abbrev pub equation_line : (before : List ℕ) → (Pos → List ℕ) → Pos → Option Nf → List ℕ
equation_line before name p None = []
equation_line before name p (Some f) = before
    ++ (symbol_text p.side (name p) ++ (codes " = " ++ (form_written name f ++ codes "\n")))

abbrev pub position_line : (before : List ℕ) → (Pos → List ℕ) → FactPosition → List ℕ
position_line before name q = equation_line before name q.pos q.equation

-- a literal as certificates have it, and one that is true, which they have not
abbrev pub literal_text : (Pos → List ℕ) → NormalLiteral → List ℕ
literal_text name True = codes "true"
literal_text name False = literal_bytes name False
literal_text name (Is d k b) = literal_bytes name (Is d k b)

abbrev pub condition_line : (before : List ℕ) → (Pos → List ℕ) → NormalLiteral → List ℕ
condition_line before name l = before ++ (literal_text name l ++ codes "\n")

-- the equations of a fact in order, and then its literals, each on a line behind a text
abbrev pub fact_lines : (before : List ℕ) → (Pos → List ℕ) → Fact → List ℕ
fact_lines before name f = flat_map (position_line before name) f.positions ++ flat_map (condition_line before name) f.literals
