use Rattle.std.proofs.Common.{◌≡◌, ℕ, ◌+◌, ◌*◌, ◌≤◌, true, false, length}
use Rattle.json.specs.Json.{items, members, value, parse_map}
use Rattle.serde_json.specs.Data.{Items, Members, no_members}
use Rattle.serde_json.specs.Read.{of_items, of_members, converted}
use Rattle.cert_json.specs.Trim.{trim_items, trim_members, below, exceeds}
use Rattle.cert_json.specs.Lists.{join_items, IsShort}
use Rattle.cert_json.specs.Objects.{IsShortObject}
use Rattle.cert_json.proofs.trim.+read.Given as goal

abbrev pub decreases-read : goal.decreases-read
decreases-read l = 2 * l.depth

abbrev pub decreases-read_items : goal.decreases-read_items
decreases-read_items l = 2 * l.depth + 1

abbrev pub decreases-read_members : goal.decreases-read_members
decreases-read_members l = 2 * l.depth + 1

abbrev pub invariant-read_items-items : goal.invariant-read_items-items
invariant-read_items-items l =
    (n : ℕ) × (length l.reader ≤ n) × (ds : Items)
    × (converted of_items (items (value l.depth) (length l.initial.reader) l.initial.reader)
    ≡ parse_map (join_items ds) (converted of_items (items (value l.depth) n l.reader)))
    × IsShort (trim_items l.level ds) l.found
    × (length l.reader ≤ length l.initial.reader)

abbrev pub decreases-read_items-items : goal.decreases-read_items-items
decreases-read_items-items l = length l.reader

abbrev pub invariant-read_members-members : goal.invariant-read_members-members
invariant-read_members-members l =
    (n : ℕ) × (length l.reader ≤ n) × (ms : Members)
    × (converted (λ es. of_members es no_members) (members (value l.depth) (length l.initial.reader) l.initial.reader)
    ≡ converted (λ es. of_members es ms) (members (value l.depth) n l.reader))
    × IsShortObject l.level (trim_members (below l.level) ms) l.found
    × (exceeds l.level (length l.found.members.entries) ≡ false)
    × (length l.reader ≤ length l.initial.reader)
    × (l.whole ≡ true → l.found.is_partial ≡ false)

abbrev pub decreases-read_members-members : goal.decreases-read_members-members
decreases-read_members-members l = length l.reader
