-- What the nodes of certificates keep.
use Rattle.std.specs.Prelude.{List, Option, Some, None}
use Rattle.std.specs.List.{AllByRecursion}
use Rattle.cert_bisimulation.specs.Tables.{Node}
use Rattle.sym_facts.specs.Facts.{Fact, IsFact}
use Rattle.nf_terms.specs.declared.form.Nf.{Nf}
use Rattle.nf_terms.specs.Forms.{IsNormalForm}

abbrev pub IsNormalEquation : Option Nf → Type 0
IsNormalEquation None = Unit {0}
IsNormalEquation (Some f) = IsNormalForm f

-- the fact of a node is one, and its equations are in normal form
pub record HasNormalFact (n : Node Fact) : Type 0 where
  pub fact : IsFact n.fact
  pub normal : AllByRecursion (λ q. IsNormalEquation q.equation) n.fact.positions

-- each node has a fact whose equations are in normal form, and whose literals are in normal form and not True
abbrev pub AreNormal : List (Node Fact) → Type 0
AreNormal ns = AllByRecursion HasNormalFact ns
