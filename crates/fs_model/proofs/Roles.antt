-- What a test of a role says.
use Rattle.std.proofs.Common.{◌≡◌, true, refl}
use Rattle.fs_model.specs.declared.parts.Role.{Role}
use Rattle.fs_model.specs.declared.parts.Role.TheVariants.{Input, Output, Local}
use Rattle.fs_model.specs.Runs.{is_output}

pub is_output-true : (r : Role) → is_output r ≡ true → r ≡ Output
is_output-true Input e = absurd (cc e)
is_output-true Output e = refl
is_output-true Local e = absurd (cc e)
