-- The tidied form of an array.
use Rattle.std.specs.Prelude.{Bool, ◌&&◌, cond, int_lt}
use Rattle.nf_trees.specs.NormalTerms.{Polynomial, ArrayTerm, Writes, Over, NoWrites, Write}
use Rattle.nf_terms.specs.Normal.{differ_by_constant, constant_sum, is_written}

-- the writes whose index no later write has
abbrev pub last_writes : Writes → Writes
last_writes NoWrites = NoWrites
last_writes (Write i v ws) = cond (is_written i ws) (last_writes ws) (Write i v (last_writes ws))

-- whether i and j differ by a constant, and j is the lower one
abbrev pub goes_after : Polynomial → Polynomial → Bool
goes_after i j = differ_by_constant i j && int_lt (constant_sum j) (constant_sum i)

-- a write in its place in the stretch at the beginning
abbrev pub with_write : Polynomial → Polynomial → Writes → Writes
with_write i v NoWrites = Write i v NoWrites
with_write i v (Write j w ws) = cond (goes_after i j) (Write j w (with_write i v ws)) (Write i v (Write j w ws))

-- each longest stretch of neighbours whose indices differ by constants in rising order
abbrev pub rising_stretches : Writes → Writes
rising_stretches NoWrites = NoWrites
rising_stretches (Write i v ws) = with_write i v (rising_stretches ws)

-- the writes that count, each stretch in rising order
abbrev pub tidy_array : ArrayTerm → ArrayTerm
tidy_array (Over b ws) = Over b (rising_stretches (last_writes ws))
