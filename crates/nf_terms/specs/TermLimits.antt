-- The limits of normal forms.
use Rattle.std.specs.Prelude.{ℕ, ◌-◌, ◌^◌}

-- the most that a polynomial may weigh
abbrev pub weight_limit : ℕ
weight_limit = 2 ^ 127 - 1

-- the most that the size of a term may be
abbrev pub size_limit : ℕ
size_limit = 4096

-- the most that the depth of a term may be
abbrev pub depth_limit : ℕ
depth_limit = 64
