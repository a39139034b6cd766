use Rattle.std.proofs.Common.{◌∙◌, ap, ap₂, length}
use Rattle.std.specs.Prelude.{map}
use Rattle.fs_rules.specs.FirstFault.{earliest}
use Rattle.fs_branches.specs.NumberedParts.{state_with_line}
use Rattle.fs_rules.specs.TargetWalks.{is_cut}
use Rattle.fs_ast.specs.Shapes.{forked_faults, endless_faults}
use Rattle.fs_ast.proofs.Shapes.{graph_of, shapes_of}
use Rattle.fs_ast.proofs.shape_rules.check_shapes.Goals as goal

pub find_endless-requires : goal.find_endless-requires
find_endless-requires c =
    graph_of c.args.states.now c.as_slice.result.now c.as_slice-2.result.now (c.as_slice.ensures.value ∙ c.in_ok-next.ensures)
    (ap length c.as_slice-2.ensures.value ∙ c.in_ok-cut.ensures.count) c.requires.leads

pub returns : goal.returns
returns c =
    let states = c.args.states.now in
    let cut = c.as_slice-2.result.now in
    shapes_of states c.args.reset c.as_slice.result.now cut c.in_ok-endless.endless.items c.note_endless.new.faults.first
    (c.as_slice.ensures.value ∙ c.in_ok-next.ensures) (ap length c.as_slice-2.ensures.value ∙ c.in_ok-cut.ensures.count)
    (λ q h. ap (λ l. is_cut l q) c.as_slice-2.ensures.value ∙ c.in_ok-cut.ensures.cuts q h)
    c.requires.leads c.in_ok-endless.ensures.inside c.in_ok-endless.ensures.rounds c.in_ok-endless.ensures.all c.in_ok-endless.ensures.reach
    (c.note_endless.ensures
    ∙ ap₂ (λ k l. earliest k (endless_faults (map state_with_line states) l))
    (c.note_forked.ensures ∙ ap (λ k. earliest k (forked_faults (map state_with_line states))) c.new-faults.ensures) c.as_slice-3.ensures.value)
