use Rattle.std.proofs.Common.{◌≡◌}
use Rattle.std.specs.Cmp.Lexicographic.{pointwise}
use Rattle.fs_stores.specs.Values.{entry_number}
use Rattle.fs_run_text.proofs.Arrays.{same_pair, same_arrays}
use Rattle.fs_run_text.proofs.replay.same_entries.Goals as goal

pub returns : goal.returns
returns c =
    let es = c.in_ok-lefts.lefts.items in
    let fs = c.in_ok-rights.rights.items in
    let there : c.eq.result ≡ pointwise same_pair es fs = rw (← c.as_slice.ensures.value, ← c.as_slice-2.ensures.value) c.eq.ensures in
    same_arrays (entry_number c.args.left.now) (entry_number c.args.right.now) es fs c.eq.result c.in_ok-lefts.ensures.listing
    c.in_ok-rights.ensures.listing there
