-- Options: which of two is there, what a map of one says, and a choice by a test.
use Rattle.std.proofs.Common.{◌≡◌, ◌≢◌, Bool, true, false, cond, refl, Option, Some, None, is_some, is_none, option_map}
use Rattle.std.specs.Option.{option_or}

pub some_is_not_none : {X : Type 0} (x : X) → Some x ≢ None
some_is_not_none x e = cc e

pub option_or_first : {X : Type 0} (a b : Option X) → option_or a b ≡ None → a ≡ None
option_or_first None b e = refl
option_or_first (Some x) b e = absurd (cc e)

pub option_or_second : {X : Type 0} (a b : Option X) → option_or a b ≡ None → b ≡ None
option_or_second None b e = e
option_or_second (Some x) b e = absurd (cc e)

pub option_or_parts : {X : Type 0} (a b : Option X) → option_or a b ≡ None → (a ≡ None) × (b ≡ None)
option_or_parts None b e = (refl, e)
option_or_parts (Some x) b e = absurd (cc e)

pub is_none-map : {A B : Type 0} (f : A → B) (o : Option A) → is_none (option_map f o) ≡ is_none o
is_none-map f None = refl
is_none-map f (Some x) = refl

pub is_some-map : {A B : Type 0} (f : A → B) (o : Option A) → is_some (option_map f o) ≡ is_some o
is_some-map f None = refl
is_some-map f (Some x) = refl

pub none_from_map : {A B : Type 0} (f : A → B) (o : Option A) → option_map f o ≡ None → o ≡ None
none_from_map f None e = refl
none_from_map f (Some x) e = absurd (cc e)

pub cond_none : {X : Type 0} (b : Bool) (x : X) (o : Option X) → cond b (Some x) o ≡ None → (b ≡ false) × (o ≡ None)
cond_none true x o e = absurd (cc e)
cond_none false x o e = (refl, e)
