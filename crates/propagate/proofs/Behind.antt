-- Literals behind others.
use Rattle.std.proofs.Common.{◌≡◌, List, ◌++◌, map}
use Rattle.std.proofs.lemmas.List.{map-append}
use Rattle.nf_rel.specs.declared.literals.NLit.{NLit}
use Rattle.nf_rel.specs.View.{literal_in}

pub literals_behind : (xs ys : List NLit) → map literal_in (xs ++ ys) ≡ map literal_in xs ++ map literal_in ys
literals_behind xs ys = map-append literal_in xs ys
