-- What a test of an ordering says.
use Rattle.std.proofs.Common.{◌≡◌, true, false, refl, Ordering, Less, Equal, Greater, is_eq, is_lt, is_le}

pub is_eq-true : (r : Ordering) → is_eq r ≡ true → r ≡ Equal
is_eq-true Less e = absurd (cc e)
is_eq-true Equal e = refl
is_eq-true Greater e = absurd (cc e)

pub is_lt-true : (r : Ordering) → is_lt r ≡ true → r ≡ Less
is_lt-true Less e = refl
is_lt-true Equal e = absurd (cc e)
is_lt-true Greater e = absurd (cc e)

pub is_le-false : (r : Ordering) → is_le r ≡ false → r ≡ Greater
is_le-false Less e = absurd (cc e)
is_le-false Equal e = absurd (cc e)
is_le-false Greater e = refl
