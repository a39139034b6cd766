-- What is of some positions: each symbol is a position that names stand for.
use Rattle.std.specs.Prelude.{◌≡◌, ℕ, Bool, true, IsTrue, List, Some}
use Rattle.fs_model.specs.declared.sides.Side.{Side}
use Rattle.fs_model.specs.declared.sides.Pos.{Pos}
use Rattle.nf_terms.specs.declared.symbols.Sort.{Sort as TermSort}
use Rattle.nf_terms.specs.declared.form.Nf.{Nf}
use Rattle.nf_rel.specs.Literals.{NormalLiteral}
use Rattle.sym_facts.specs.Pairings.{form_within, literal_within}
use Rattle.term_values.specs.NameMeanings.{Find}

-- all that names stand for passes a test
abbrev pub AllFoundPass : Find → (Pos × TermSort → Bool) → Type 0
AllFoundPass find test = (s : Side) (x : List ℕ) (p : Pos × TermSort) → find s x ≡ Some p → test p ≡ true

-- each symbol of a form, or of a literal, passes each test that all that names stand for pass
pub record FormWithin (find : Find) (f : Nf) : Type 0 where
  pub within : (test : Pos × TermSort → Bool) → AllFoundPass find test → IsTrue (form_within test f)

pub record LiteralWithin (find : Find) (l : NormalLiteral) : Type 0 where
  pub within : (test : Pos × TermSort → Bool) → AllFoundPass find test → IsTrue (literal_within test l)
