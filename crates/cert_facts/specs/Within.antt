-- Equations that are of two machines.
use Rattle.std.specs.Prelude.{◌≡◌, IsTrue, List, length, Option}
use Rattle.std.specs.List.{list_all}
use Rattle.fs_pair.specs.declared.positions.Position.{Position}
use Rattle.nf_terms.specs.declared.form.Nf.{Nf}
use Rattle.sym_facts.specs.Facts.{has_its_sort}
use Rattle.sym_facts.specs.FactParts.{with_equations, equation_within}
use Rattle.sym_facts.specs.Pairings.{is_position}

-- equations that make a fact of positions: as many, each of its position's sort and of the positions
pub record AreEquationsOf (ps : List Position) (fs : List (Option Nf)) : Type 0 where
  pub count : length fs ≡ length ps
  pub sorts : IsTrue (list_all (λ q. has_its_sort q.sort q.equation) (with_equations ps fs))
  pub within : IsTrue (list_all (equation_within (is_position ps)) fs)
