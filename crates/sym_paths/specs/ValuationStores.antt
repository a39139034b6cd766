-- The two stores of a valuation.
use Rattle.std.specs.Prelude.{ℕ}
use Rattle.fs_model.specs.Stores.{Store}
use Rattle.nf_terms.specs.TermMeaning.{Valuation}
use Rattle.fs_model.specs.declared.sides.Side.{Side}
use Rattle.fs_model.specs.declared.sides.Side.TheVariants.{Left, Right}
use Rattle.fs_model.specs.declared.sides.Pos.{Pos}

-- the position of a variable of a side
abbrev pub at : Side → ℕ → Pos
at side x = record { side = side; var = x }

-- the store of a side
abbrev pub store_on : Side → Valuation → Store
store_on side w = record { scalar = λ x. w.scalar (at side x); array = λ x. w.array (at side x); port = λ x. w.list (at side x) }

-- one of two, by the side
abbrev pub choose_side : {T : Type 0} → Side → (left right : T) → T
choose_side Left s u = s
choose_side Right s u = u

-- a store of each machine
abbrev pub pair : (left right : Store) → Valuation
pair s u = record {
  scalar = λ p. (choose_side p.side s u).scalar p.var;
  array = λ p. (choose_side p.side s u).array p.var;
  list = λ p. (choose_side p.side s u).port p.var;
}

abbrev pub other : Side → Side
other Left = Right
other Right = Left
