use Rattle.std.proofs.Common.{◌≡◌, ℕ, ◌+◌, ◌*◌, ◌≤◌, length}
use Rattle.json.specs.Json.{items, members, value, parse_map}
use Rattle.serde_json.specs.Data.{Items, Members}
use Rattle.serde_json.specs.Events.{members_len}
use Rattle.serde_json.specs.Read.{of_items, of_members, converted}
use Rattle.cert_values.specs.Shape.{are_texts}
use Rattle.cert_json.specs.Lists.{join_items}
use Rattle.cert_json.proofs.skip.+skip.Given as goal

abbrev pub decreases-skip_from : goal.decreases-skip_from
decreases-skip_from l = 2 * l.depth

abbrev pub decreases-skip_items : goal.decreases-skip_items
decreases-skip_items l = 2 * l.depth + 1

abbrev pub decreases-skip_members : goal.decreases-skip_members
decreases-skip_members l = 2 * l.depth + 1

abbrev pub invariant-skip_items-items : goal.invariant-skip_items-items
invariant-skip_items-items l =
    (ds : Items)
    × ((n : ℕ) → length l.initial.reader ≤ n
    → (m : ℕ) × (length l.reader ≤ m)
    × (converted of_items (items (value l.depth) n l.initial.reader) ≡ parse_map (join_items ds) (converted of_items (items (value l.depth) m l.reader))))
    × (l.texts ≡ are_texts ds)
    × (length l.reader ≤ length l.initial.reader)

abbrev pub decreases-skip_items-items : goal.decreases-skip_items-items
decreases-skip_items-items l = length l.reader

abbrev pub invariant-skip_members-members : goal.invariant-skip_members-members
invariant-skip_members-members l =
    ((old : Members) (n : ℕ) → length l.initial.reader ≤ n
    → (m : ℕ) × (length l.reader ≤ m) × (ms : Members)
    × (converted (λ es. of_members es old) (members (value l.depth) n l.initial.reader)
    ≡ converted (λ es. of_members es ms) (members (value l.depth) m l.reader))
    × (members_len old ≤ members_len ms))
    × (length l.reader ≤ length l.initial.reader)

abbrev pub decreases-skip_members-members : goal.decreases-skip_members-members
decreases-skip_members-members l = length l.reader
