-- Valuations and vectors by a test of symbols, each with the sort in which it is used.
use Rattle.std.specs.Prelude.{◌≡◌, Bool, true, not, List}
use Rattle.std.specs.List.{list_all}
use Rattle.nf_terms.specs.TermMeaning.{Valuation}
use Rattle.nf_trees.specs.Mentions.{same_pos}
use Rattle.nf_terms.specs.Symbols.{symbols_of, symbols_of_array, symbols_of_list}
use Rattle.nf_terms.specs.declared.symbols.Sort.{Sort}
use Rattle.nf_terms.specs.declared.symbols.Sort.TheVariants as sort
use Rattle.fs_model.specs.declared.sides.Pos.{Pos}
use Rattle.nf_terms.specs.declared.form.Nf.{Nf}
use Rattle.nf_substitution.specs.Vectors.{number_at, array_form, list_at}

-- two valuations agree on the symbols that pass
pub record AgreeAt (test : Pos × Sort → Bool) (v w : Valuation) : Type 0 where
  pub scalars : (q : Pos) → test (q, sort.Scalar) ≡ true → v.scalar q ≡ w.scalar q
  pub arrays : (q : Pos) → test (q, sort.Array) ≡ true → v.array q ≡ w.array q
  pub lists : (q : Pos) → test (q, sort.List) ≡ true → v.list q ≡ w.list q

-- at each symbol that passes the first test, a vector has a form all of whose symbols pass the second one
pub record LeadsTo (from to : Pos × Sort → Bool) (v : List (Pos × Nf)) : Type 0 where
  pub scalars : (q : Pos) → from (q, sort.Scalar) ≡ true → list_all to (symbols_of (number_at v q)) ≡ true
  pub arrays : (q : Pos) → from (q, sort.Array) ≡ true → list_all to (symbols_of_array (array_form v q)) ≡ true
  pub lists : (q : Pos) → from (q, sort.List) ≡ true → list_all to (symbols_of_list (list_at v q)) ≡ true

-- whether a symbol is at another position
abbrev pub is_other : Pos → Pos × Sort → Bool
is_other p x = not (same_pos p x.0)
