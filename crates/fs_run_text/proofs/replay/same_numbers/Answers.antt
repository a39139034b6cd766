use Rattle.std.proofs.Common.{◌≡◌}
use Rattle.std.specs.Ordering.{int_eq}
use Rattle.std.specs.Cmp.Lexicographic.{pointwise}
use Rattle.std.proofs.lemmas.Slice.Eq.{slice_eq-Decides}
use Rattle.std.proofs.lemmas.Bool.Decides.{Decides-int_eq}
use Rattle.fs_stores.specs.Values.{numbers_of}
use Rattle.fs_run_text.proofs.replay.same_numbers.Goals as goal

pub returns : goal.returns
returns c =
    let zs = numbers_of c.args.left.now in
    let ws = numbers_of c.args.right.now in
    let there : c.eq.result ≡ pointwise int_eq zs ws = rw (← c.get.ensures, ← c.get-2.ensures) c.eq.ensures in
    slice_eq-Decides Decides-int_eq zs ws c.eq.result there
