-- Which locals of a binding have one register.
use Rattle.std.specs.Prelude.{ℕ, ◌==◌, Bool, false, not, ◌&&◌, cond, List, [], ◌∷◌}
use Rattle.std.specs.Str.{bytes_eq}
use Rattle.fs_variable_sets.specs.Sets.{also}

-- whether another local has the same register
abbrev pub shares : (one other : ℕ × List ℕ) → Bool
shares one other = not (other.0 == one.0) && bytes_eq other.1 one.1

-- these and the other locals of entries that have the register of one
abbrev pub others_from : ℕ × List ℕ → List (ℕ × List ℕ) → (ℕ → Bool) → ℕ → Bool
others_from one [] members = members
others_from one (e ∷ es) members = others_from one es (cond (shares one e) (also e.0 members) members)

-- the other locals of a binding that have the register of one, those that are numbered below 128
abbrev pub others_in : List (ℕ × List ℕ) → ℕ × List ℕ → ℕ → Bool
others_in b one = others_from one b (λ x. false)
