-- The modes of the nodes of a closed table.
use Rattle.std.specs.Prelude.{◌≡◌, ℕ, List, [], ◌∷◌, map, slice_get, Option, Some}
use Rattle.cert_bisimulation.specs.declared.mode.Mode.{Mode}
use Rattle.cert_bisimulation.specs.declared.mode.Mode.TheVariants.{Right}
use Rattle.fs_model.specs.declared.sides.Side.{Side}
use Rattle.fs_model.specs.declared.sides.Side.TheVariants as side
use Rattle.search_tables.specs.Modes.{Traced, Found, WideAt, LargeAt}
use Rattle.search_tables.specs.SearchTables.{MachinePair, Table}
use Rattle.search_tables.specs.Next.{mode_at}

-- no event stands in the way
abbrev pub IsWithoutEvent : Traced Mode → Type 0
IsWithoutEvent (Found x) = Unit {0}
IsWithoutEvent (WideAt d k left right) = ⊥
IsWithoutEvent (LargeAt d k units depth) = ⊥

-- these modes are found at the nodes of a table, in order
abbrev pub AreModes : MachinePair → Table → List Mode → Type 0
AreModes m T xs = map (λ x. Found x) xs ≡ map (mode_at m) T

-- the side that moves alone in a mode
abbrev pub side_of_mode : Option Mode → Side
side_of_mode (Some Right) = side.Right
side_of_mode _ = side.Left

-- the side that moves alone at the first node of a cycle
abbrev pub cycle_side : List Mode → List ℕ → Side
cycle_side xs [] = side.Left
cycle_side xs (k ∷ ks) = side_of_mode (slice_get xs k)
