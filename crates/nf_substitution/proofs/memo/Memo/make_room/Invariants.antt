use Rattle.std.proofs.Common.{◌≡◌, ℕ, ◌+◌, ◌-◌, vec_len}
use Rattle.nf_substitution.specs.Keeping.{known_value}
use Rattle.nf_substitution.proofs.memo.Memo.make_room.Given as goal

abbrev pub invariant-loop-id : goal.invariant-loop-id
invariant-loop-id l = record { same : (k : ℕ) → known_value l.self-inside.by_number.items k ≡ known_value l.initial.self-inside.by_number.items k }

abbrev pub decreases-loop-id : goal.decreases-loop-id
decreases-loop-id l = l.id.0 + 1 - vec_len l.self-inside.by_number
