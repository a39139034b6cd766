-- What a format allows: ports only in format 2.
use Rattle.std.proofs.Common.{◌≡◌, Bool, true, false, ◌||◌, cond, refl}
use Rattle.std.proofs.lemmas.Bool.{or_right}
use Rattle.fs_grammar.specs.declared.format.Format.{Format}
use Rattle.fs_grammar.specs.declared.format.Format.TheVariants.{One, Two}

-- where parts have ports, the format is 2
abbrev pub Allows : Format → Bool → Type 0
Allows f b = b ≡ true → f ≡ Two

pub allows_left : (f : Format) (a b : Bool) → Allows f (a || b) → Allows f a
allows_left f a b h e = h (rw e refl)

pub allows_right : (f : Format) (a b : Bool) → Allows f (a || b) → Allows f b
allows_right f a b h e = h (or_right a b e)

pub allowed : (b : Bool) → Allows (cond b Two One) b
allowed true e = refl
allowed false e = absurd cc
