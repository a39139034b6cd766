-- What is kept of a chain of machines.
use Rattle.std.specs.Prelude.{refl}
use Rattle.std.specs.Coded.{Coded, code_by, coded×}
use Rattle.fs_model.specs.Machines.{Fsmd}
use Rattle.fs_model.specs.Codes.{coded_fsmd}

-- the first machine of a chain and the last one
pub record ChainEnds : Type 0 where
  pub first : Fsmd
  pub last : Fsmd

-- both machines, as the code of a pair
abbrev pub coded_ends : Coded ChainEnds
coded_ends =
    code_by (Fsmd × Fsmd) (coded× coded_fsmd coded_fsmd) (λ e. (e.first, e.last))
    (λ p. record { first = p.0; last = p.1 }) (λ _. refl)
