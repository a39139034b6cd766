use Rattle.std.proofs.Common.{refl}
use Rattle.std.specs.List.{flat_map}
use Rattle.fs_model.proofs.Lists.{same_there}
use Rattle.sym_paths.specs.View.{post_in}
use Rattle.show_fact_text.specs.LostLines.{lost_line}
use Rattle.show_fact_text.specs.View.{side_names_in}
use Rattle.show_fact_text.proofs.Loops.{next_more}
use Rattle.show_fact_text.proofs.losses.write_lost_equations.Goals as goal

pub loop-place-preserved : goal.loop-place-preserved
loop-place-preserved c =
    let one = lost_line (side_names_in c.args.names.now) (post_in c.args.post.now) c.args.old.now c.args.new.now in
    let xs = c.args.places.now in
    let i = c.loop-place.place-index in
    next_more (flat_map one) one (λ b bs. refl) xs i _ c.loop-place-test.true (same_there xs i _ _ c.loop-place-test.true) _ _ _
    c.in_ok-write_lost.ensures c.loop-place.invariant
