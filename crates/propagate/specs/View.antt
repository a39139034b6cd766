-- The answers of src/ as plain data.
use Rattle.std.specs.Prelude.{◌≡◌, ℕ, Result, Ok, Err}
use Rattle.nf_terms.specs.declared.stop.NfStop.{NfStop}
use Rattle.nf_terms.specs.declared.stop.NfStop.TheVariants as stop
use Rattle.fs_model.specs.declared.sides.Side.{Side}
use Rattle.propagate.specs.declared.modes.ModeStop.{ModeStop}
use Rattle.propagate.specs.Modes.{Traced, Found, WideAt, LargeAt}

-- a stop is the event at its path, or memory was refused
abbrev pub IsStopAt : {T : Type 0} → NfStop → Side → ℕ → Traced T → Type 0
IsStopAt (stop.Wide left right) d k t = t ≡ WideAt d k left right
IsStopAt (stop.Large units depth) d k t = t ≡ LargeAt d k units depth
IsStopAt stop.NoMemory d k t = Unit {0}

-- an answer is what is found, or the event at its path, or memory was refused
abbrev pub Traces : {T : Type 0} → Result T ModeStop → Traced T → Type 0
Traces (Ok x) t = t ≡ Found x
Traces (Err s) t = IsStopAt s.stop s.side s.branch t
