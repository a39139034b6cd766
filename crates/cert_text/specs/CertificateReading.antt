-- The nodes that a certificate spells, or the first of its rules that is broken.
use Rattle.std.specs.Prelude.{ℕ, ◌+◌, List, [], ◌∷◌, ◌++◌, cond, Result, Ok, codes}
use Rattle.std.specs.Str.{bytes_eq}
use Rattle.cert_bisimulation.specs.declared.mode.Mode.{Mode}
use Rattle.cert_bisimulation.specs.declared.mode.Mode.TheVariants as mode
use Rattle.cert_bisimulation.specs.Tables.{Node}
use Rattle.sym_facts.specs.Facts.{Fact}
use Rattle.cert_json.specs.WrittenJson.{NodeText}
use Rattle.cert_facts.specs.declared.faults.CertError.{CertError}
use Rattle.cert_facts.specs.PartAnswers.{then_part}
use Rattle.cert_text.specs.NodePointNames.{StateTables, points_read}
pub use Rattle.cert_terms.specs.CertificateNames.{sort_or_scalar, sort_at}
pub use Rattle.cert_facts.specs.FactReading.{TermContext, text_read, known_place, equation_read, equation_put, equations_read}
pub use Rattle.cert_facts.specs.FactReading.{unwritten_of, unwritten_equation, conditions_read, solved_fact, fact_read}
unfoldable pub use Rattle.cert_facts.specs.FactReading.{node_fact}

-- what a file is read against
pub record Context : Type 0 where
  pub states : StateTables
  pub terms : TermContext

-- the mode of a text
abbrev pub mode_named : List ℕ → Mode
mode_named s = cond (bytes_eq s (codes "both")) mode.Both
    (cond (bytes_eq s (codes "left")) mode.Left (cond (bytes_eq s (codes "right")) mode.Right mode.End))

-- node i behind others: first its points, then its fact
unfoldable pub node_read : Context → ℕ → List (Node Fact) → NodeText → Result (Node Fact) CertError
node_read c i earlier n =
    then_part (points_read i c.terms.format c.states earlier n.left n.right) (λ P.
    then_part (node_fact c.terms i n)
    (λ f. Ok (record { left = P.0; right = P.1; mode = mode_named n.mode; rank = n.rank; fact = f })))

-- others with node i behind them
abbrev pub node_added : Context → ℕ → List (Node Fact) → NodeText → Result (List (Node Fact)) CertError
node_added c i earlier n = then_part (node_read c i earlier n) (λ m. Ok (earlier ++ m ∷ []))

-- nodes in order, numbered from i, behind those before
abbrev pub nodes_read : Context → ℕ → List (Node Fact) → List NodeText → Result (List (Node Fact)) CertError
nodes_read c i earlier [] = Ok earlier
nodes_read c i earlier (n ∷ ns) = then_part (node_added c i earlier n) (λ ms. nodes_read c (i + 1) ms ns)
