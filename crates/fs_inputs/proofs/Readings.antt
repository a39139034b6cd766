-- What is read, against what is spelled.
use Rattle.std.proofs.Common.{◌≡◌, ℤ, Bool, true, false, cond, Option, Some, None, refl}
use Rattle.std.specs.Option.{is_some}
use Rattle.fs_inputs.specs.declared.numbers.Reading.TheVariants.{TooBig, Number}
use Rattle.fs_inputs.specs.Numbers.{number_reading, fits}
use Rattle.fs_inputs.specs.InputMembers.{fits_if_any}
use Rattle.fs_inputs.specs.Steps.{is_any, is_reading_within, reads_number}

any_by : (b : Bool) (z : ℤ) → is_any (cond b (Number z) TooBig) ≡ true
any_by true z = refl
any_by false z = refl

pub reads_any : (o : Option ℤ) → is_any (number_reading o) ≡ is_some o
reads_any None = refl
reads_any (Some z) = any_by (fits z) z

within_by : (b : Bool) (z : ℤ) → is_reading_within (cond b (Number z) TooBig) ≡ b
within_by true z = refl
within_by false z = refl

pub reads_within : (o : Option ℤ) → is_reading_within (number_reading o) ≡ fits_if_any o
reads_within None = refl
reads_within (Some z) = within_by (fits z) z

read_by : (b : Bool) (z n : ℤ) → cond b (Number z) TooBig ≡ Number n → Some z ≡ Some n
read_by true z n e = cc
read_by false z n e = cc

-- the number that is read is the one that is spelled
pub read_back : (o : Option ℤ) (n : ℤ) → number_reading o ≡ Number n → o ≡ Some n
read_back None n e = cc
read_back (Some z) n e = read_by (fits z) z n e

number_by : (b : Bool) (z : ℤ) → b ≡ true → reads_number (cond b (Number z) TooBig) ≡ true
number_by true z e = refl
number_by false z e = e

-- a number that is spelled and has 128 bits is read
pub is_read : (o : Option ℤ) → is_some o ≡ true → fits_if_any o ≡ true → reads_number (number_reading o) ≡ true
is_read None some fit = some
is_read (Some z) some fit = number_by (fits z) z fit
