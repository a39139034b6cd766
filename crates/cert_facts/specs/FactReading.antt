-- The fact that a node spells, or the first of its rules that is broken.
use Rattle.std.specs.Prelude.{ℕ, List, [], ◌∷◌, ◌++◌, map, set, cond, Option, Some, None, Result, Ok, Err}
use Rattle.fs_model.specs.declared.parts.Sort.{Sort}
use Rattle.fs_pair.specs.declared.positions.Position.{Position}
use Rattle.fs_model.specs.declared.sides.Side.{Side}
use Rattle.nf_terms.specs.declared.tree.SeqBase.TheVariants as base
use Rattle.nf_terms.specs.declared.form.Nf.{Nf}
use Rattle.nf_terms.specs.declared.form.Nf.TheVariants.{Seq}
use Rattle.nf_terms.specs.Lists.{bare_list}
use Rattle.nf_rel.specs.Literals.{NormalLiteral}
use Rattle.sym_facts.specs.Facts.{Fact}
use Rattle.sym_facts.specs.FactParts.{fact_of, first_unsolved}
use Rattle.term_values.specs.declared.faults.TermError.{TermError}
use Rattle.term_values.specs.declared.faults.TermError.TheVariants as term
use Rattle.cert_json.specs.WrittenJson.{NodeText}
use Rattle.cert_facts.specs.declared.faults.CertError.{CertError}
use Rattle.cert_facts.specs.declared.faults.CertError.TheVariants as errors
use Rattle.cert_terms.specs.CertificateNames.{is_in_format, name_place, place_by_key, sort_at}
use Rattle.cert_terms.specs.TextMeanings.{TextMeanings}
use Rattle.cert_facts.specs.PartAnswers.{then_part}

-- what equations and conditions are read against: the places of names, the positions, the format, and what texts stand for
pub record TermContext : Type 0 where
  pub place : Side → List ℕ → Option ℕ
  pub positions : List Position
  pub format : ℕ
  pub texts : TextMeanings

-- why node i is refused where one of its texts is
abbrev pub error_at : ℕ → TermError → CertError
error_at i term.BadTerm = errors.BadTerm i
error_at i term.NumberTooBig = errors.NumberTooBig i
error_at i term.UnknownName = errors.UnknownName i
error_at i term.SortOf = errors.SortOf i
error_at i term.NotNormal = errors.NotNormal i
error_at i term.NoMemory = errors.NoMemory

-- what a text of node i stands for
abbrev pub text_read : {X : Type 0} → ℕ → Result X TermError → Result X CertError
text_read i (Ok x) = Ok x
text_read i (Err e) = Err (error_at i e)

abbrev pub known_place : ℕ → Option ℕ → Result ℕ CertError
known_place i None = Err (errors.UnknownName i)
known_place i (Some k) = Ok k

-- an equation: the place of its key, and its term
abbrev pub equation_read : TermContext → ℕ → List ℕ × List ℕ → Result (ℕ × Nf) CertError
equation_read c i e =
    then_part (known_place i (place_by_key (name_place c.place c.positions c.format) e.0)) (λ k.
    then_part (text_read i (c.texts.term (sort_at c.positions k) e.1)) (λ f. Ok (k, f)))

-- an equation, put at its place among those before
abbrev pub equation_put : TermContext → ℕ → List (Option Nf) → List ℕ × List ℕ → Result (List (Option Nf)) CertError
equation_put c i fs e = then_part (equation_read c i e) (λ x. Ok (set fs x.0 (Some x.1)))

abbrev pub equations_read : TermContext → ℕ → List (Option Nf) → List (List ℕ × List ℕ) → Result (List (Option Nf)) CertError
equations_read c i fs [] = Ok fs
equations_read c i fs (e ∷ es) = then_part (equation_put c i fs e) (λ gs. equations_read c i gs es)

-- the equation of a position without key: none, and of a port in format 1 the empty list
abbrev pub unwritten_of : ℕ → Sort → Option Nf
unwritten_of format s = cond (is_in_format format s) None (Some (Seq (bare_list base.Empty)))

abbrev pub unwritten_equation : ℕ → Position → Option Nf
unwritten_equation format p = unwritten_of format p.sort

-- conditions in order, behind those before
abbrev pub conditions_read : TermContext → ℕ → List NormalLiteral → List (List ℕ) → Result (List NormalLiteral) CertError
conditions_read c i ls [] = Ok ls
conditions_read c i ls (t ∷ ts) = then_part (text_read i (c.texts.condition t)) (λ l. conditions_read c i (ls ++ l ∷ []) ts)

-- a fact, where it is solved
abbrev pub solved_fact : ℕ → Fact → Option ℕ → Result Fact CertError
solved_fact i f None = Ok f
solved_fact i f (Some k) = Err (errors.NotSolved i k)

abbrev pub fact_read : TermContext → ℕ → List (Option Nf) → List NormalLiteral → Result Fact CertError
fact_read c i fs ls = solved_fact i (fact_of c.positions fs ls) (first_unsolved (fact_of c.positions fs ls))

-- the fact of node i: its equations, then its conditions, and then whether it is solved
unfoldable pub node_fact : TermContext → ℕ → NodeText → Result Fact CertError
node_fact c i n =
    then_part (equations_read c i (map (unwritten_equation c.format) c.positions) n.equations) (λ fs.
    then_part (conditions_read c i [] n.conds) (λ ls. fact_read c i fs ls))
