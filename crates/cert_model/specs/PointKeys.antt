-- Pairs of points as pairs of numbers.
use Rattle.std.specs.Prelude.{ℕ, ◌+◌, ◌==◌, Bool, ◌&&◌}
use Rattle.fs_cut.specs.Paths.{Point, Start, At, Done}

abbrev pub point_number : Point → ℕ
point_number Start = 0
point_number Done = 1
point_number (At q) = q + 2

abbrev pub key_of : (left right : Point) → ℕ × ℕ
key_of P Q = (point_number P, point_number Q)

abbrev pub same_key : ℕ × ℕ → ℕ × ℕ → Bool
same_key a b = (a.0 == b.0) && (a.1 == b.1)
