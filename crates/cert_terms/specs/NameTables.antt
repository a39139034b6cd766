-- Tables of names.
use Rattle.std.specs.Prelude.{◌≡◌, ℕ, List, [], ◌∷◌, Option, None}
use Rattle.std.specs.Map.{lookup}
use Rattle.std.specs.Str.{bytes_eq}
use Rattle.fs_ast.specs.Places.{first_place}
use Rattle.cert_terms.specs.declared.table.NameTable.{NameTable}

-- the number of a name in a table; the empty name has none
abbrev pub name_number : NameTable → List ℕ → Option ℕ
name_number t [] = None
name_number t (c ∷ cs) = lookup (λ k. bytes_eq (c ∷ cs) k.bytes.now) t.numbers.entries

-- a table has the first place of each name of a list that is not empty
pub record HasFirst (t : NameTable) (names : List (List ℕ)) : Type 0 where
  pub first : (c : ℕ) (cs : List ℕ) → name_number t (c ∷ cs) ≡ first_place names (c ∷ cs)
