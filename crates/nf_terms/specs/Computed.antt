-- What an operation gives: a term, or the event that it is past a limit.
use Rattle.std.specs.Prelude.{◌≡◌, ℕ, nat_le, cond, Result, Ok, Err}
use Rattle.nf_terms.specs.TermLimits.{weight_limit, size_limit, depth_limit}
use Rattle.nf_terms.specs.declared.stop.NfStop.{NfStop}
use Rattle.nf_terms.specs.declared.stop.NfStop.TheVariants as stop

-- a term; the weights of the two sides of an operation that is not narrow; or, of one that is narrow and not small, the raw size
-- and the depth
pub data Computed (T : Type 0) : Type 0 where
  Done : T → Computed T
  Wide : (left right : ℕ) → Computed T
  Large : (units depth : ℕ) → Computed T

-- the next operation goes on with the term; the first event is that of the whole
abbrev pub after : {S T : Type 0} → Computed S → (S → Computed T) → Computed T
after (Done s) next = next s
after (Wide left right) next = Wide left right
after (Large units depth) next = Large units depth

-- what holds of the term, where there is no event
abbrev pub IfDone : {T : Type 0} → Computed T → (T → Type 0) → Type 0
IfDone (Done t) Holds = Holds t
IfDone (Wide left right) Holds = Unit {0}
IfDone (Large units depth) Holds = Unit {0}

-- an answer is what is computed, or memory was refused
abbrev pub Answers : {T : Type 0} → Result T NfStop → Computed T → Type 0
Answers (Ok t) c = c ≡ Done t
Answers (Err (stop.Wide left right)) c = c ≡ Wide left right
Answers (Err (stop.Large units depth)) c = c ≡ Large units depth
Answers (Err stop.NoMemory) c = Unit {0}

-- a term of this raw size and depth where it is small: the size is looked at before the depth, which counts as 0 where the size
-- is past its limit
abbrev pub if_small : {T : Type 0} → (units depth : ℕ) → T → Computed T
if_small units depth t = cond (nat_le units size_limit) (cond (nat_le depth depth_limit) (Done t) (Large units depth))
    (Large units 0)

-- an operation of this weight on sides of these weights, where it is narrow
abbrev pub if_narrow : {T : Type 0} → (left right weight : ℕ) → Computed T → Computed T
if_narrow left right weight c = cond (nat_le weight weight_limit) c (Wide left right)
