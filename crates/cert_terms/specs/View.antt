-- What tables of names say, as functions.
use Rattle.std.specs.Prelude.{ℕ, List, Option}
use Rattle.fs_model.specs.declared.sides.Side.{Side}
use Rattle.fs_model.specs.declared.sides.Side.TheVariants.{Left, Right}
use Rattle.term_values.specs.NameMeanings.{Find}
use Rattle.cert_terms.specs.declared.names.Places.{Places}
use Rattle.cert_terms.specs.CertificateNames.{find_in}
use Rattle.cert_terms.specs.NameTables.{name_number}

-- the places of names by two tables
abbrev pub place_in_tables : Places → Side → List ℕ → Option ℕ
place_in_tables t Left x = name_number t.left x
place_in_tables t Right x = name_number t.right x

-- what names stand for by two tables
abbrev pub find_of : Places → Find
find_of t = find_in (place_in_tables t) t.positions.now t.format
