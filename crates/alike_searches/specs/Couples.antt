-- Positions in couples: a left variable, and then the right one of its name.
use Rattle.std.specs.Prelude.{◌≡◌, ℕ, List, [], ◌∷◌, map}
use Rattle.fs_model.specs.declared.parts.Sort.{Sort}
use Rattle.fs_model.specs.Machines.{Fsmd}
use Rattle.fs_pair.specs.declared.positions.Position.{Position}
use Rattle.fs_model.specs.declared.sides.Side.TheVariants.{Left, Right}
use Rattle.fs_model.specs.declared.sides.Pos.{Pos}
use Rattle.sym_paths.specs.ValuationStores.{at}
use Rattle.cert_bisimulation.specs.ExpressionSameness.{AreTwins}

-- a left position and a right one, of twins
pub record IsCouple (a b : Fsmd) (p q : Pos × Sort) : Type 0 where
  pub left : ℕ
  pub right : ℕ
  pub left_at : p.0 ≡ at Left left
  pub right_at : q.0 ≡ at Right right
  pub sorts : p.1 ≡ q.1
  pub twins : AreTwins a b p.1 left right

abbrev pub AreCouples : (a b : Fsmd) → List (Pos × Sort) → Type 0
AreCouples a b [] = Unit {0}
AreCouples a b (p ∷ []) = ⊥
AreCouples a b (p ∷ q ∷ ps) = IsCouple a b p q × AreCouples a b ps

-- positions with their sorts
abbrev pub sorted_positions : List Position → List (Pos × Sort)
sorted_positions ps = map (λ p. (p.pos, p.sort)) ps
