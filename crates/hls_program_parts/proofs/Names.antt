-- The name of a state whose number has 32 bits.
use Rattle.std.proofs.Common.{◌≡◌, ℕ, ◌<◌, ◌^◌, arith, true}
use Rattle.fs_model.specs.Words.{is_name}
use Rattle.hls_program_parts.specs.Compiled.{state_name}
use Rattle.hls_program_parts.proofs.StateNames.{is_state_name}

pub is_number_name : (n : ℕ) → n < 2 ^ 32 → is_name (state_name n) ≡ true
is_number_name n h = is_state_name n (omega (arith, h))
