-- Legal lists of moves.
use Rattle.std.specs.Prelude.{◌≡◌, ℕ, ◌+◌, cond, List, [], ◌∷◌, ◌++◌, Option, Some, None}
use Rattle.std.specs.Option.{option_map, option_or}
use Rattle.fs_cut.specs.Paths.{Done}
use Rattle.fs_pair.specs.PairedOutputs.{OutputPair, output_pairs}
use Rattle.fs_model.specs.declared.sides.Pos.{Pos}
use Rattle.nf_terms.specs.declared.form.Nf.{Nf}
use Rattle.cert_model.specs.Facts.{vector_of}
use Rattle.cert_model.specs.Obligations.{same_forms}
use Rattle.search_tables.specs.declared.moves.Move.{Move}
use Rattle.search_tables.specs.SearchTables.{MachinePair, SearchNode, Table, is_at, first_table}
use Rattle.search_tables.specs.Next.{Change, next_move}

-- a node at the end, and a left output whose two terms differ there
pub record Difference : Type 0 where
  pub node : ℕ
  pub output : ℕ

-- the first left output whose two terms in a vector differ
abbrev pub first_differing : List (Pos × Nf) → List OutputPair → Option ℕ
first_differing v [] = None
first_differing v (o ∷ os) = cond (same_forms v o.sort o.left o.right) (first_differing v os) (Some o.left)

abbrev pub output_at : MachinePair → SearchNode → Option ℕ
output_at m n = cond (is_at Done Done n)
    (first_differing (vector_of n.fact.positions) (output_pairs 0 m.left.variables m.right.variables)) None

abbrev pub difference_at : MachinePair → ℕ → SearchNode → Option Difference
difference_at m i n = option_map (λ x. record { node = i; output = x }) (output_at m n)

abbrev pub difference_among : MachinePair → ℕ → List SearchNode → Option Difference
difference_among m i [] = None
difference_among m i (n ∷ ns) = option_or (difference_at m i n) (difference_among m (i + 1) ns)

-- the first node at the end with a left output whose two terms differ, and the first such output
abbrev pub difference_in : MachinePair → Table → Option Difference
difference_in m T = difference_among m 0 T

-- the moves lead from a table to another: each is next and changes its table, in which no outputs differ
abbrev pub MovesLead : MachinePair → Table → List Move → Table → Type 0
MovesLead m T [] U = T ≡ U
MovesLead m T (x ∷ xs) U = (V : Table) × (difference_in m T ≡ None) × (next_move m T ≡ Change x V) × MovesLead m V xs U

-- a legal list of moves, with the table that it makes
pub record Makes (m : MachinePair) (moves : List Move) (T : Table) : Type 0 where
  pub lead : MovesLead m (first_table m) moves T

-- of two lists one is a prefix of the other
abbrev pub IsPrefixOf : List Move → List Move → Type 0
IsPrefixOf xs ys = (rest : List Move) × (xs ++ rest ≡ ys)
