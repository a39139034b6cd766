use Rattle.std.proofs.Common.{◌∙◌, ◌++◌, refl, ap, get_or}
use Rattle.std.specs.Prelude.{slice_get}
use Rattle.std.specs.List.{flat_map}
use Rattle.fs_model.proofs.Lists.{same_there}
use Rattle.show_fact_text.specs.LostLines.{lost_literal, lost_condition}
use Rattle.show_fact_text.specs.View.{side_names_in}
use Rattle.show_fact_text.proofs.Loops.{next_more}
use Rattle.show_fact_text.proofs.losses.write_lost_conditions.Goals as goal

pub loop-index-preserved : goal.loop-index-preserved
loop-index-preserved c =
    let name = side_names_in c.args.names.now in
    let one = lost_condition name c.args.old.now in
    let xs = c.args.indices.now in
    let i = c.loop-index.index-index in
    let x = get_or xs i 0 in
    next_more (flat_map one) one (λ b bs. refl) xs i x c.loop-index-test.true (same_there xs i 0 x c.loop-index-test.true) _ _ _
    (c.in_ok-write_lost_literal.ensures ∙ ap (λ ls. c.loop-index.out.items ++ lost_literal name (slice_get ls x)) c.conds.ensures.same)
    c.loop-index.invariant
