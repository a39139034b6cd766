-- How long a certificate is at most.
use Rattle.std.specs.Prelude.{ℕ, ◌+◌, ◌*◌, is_some, List, [], ◌∷◌, length}
use Rattle.std.specs.List.{filter}
use Rattle.cert_bisimulation.specs.Tables.{Node}
use Rattle.sym_facts.specs.Facts.{Fact}
use Rattle.cert_model.specs.Sizes.{units_of}

-- how many equations nodes have
abbrev pub equation_count : List (Node Fact) → ℕ
equation_count [] = 0
equation_count (n ∷ ns) = length (filter (λ q. is_some q.equation) n.fact.positions) + equation_count ns

-- the most bytes of a certificate
abbrev pub most_bytes : List (Node Fact) → ℕ
most_bytes ns = 64 + 200 * length ns + 44 * equation_count ns + 47 * units_of ns

-- the most bytes of a file of a certificate
abbrev pub most_certificate_bytes : ℕ
most_certificate_bytes = 268435456
