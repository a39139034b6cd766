use Rattle.std.proofs.Common.{◌≡◌, ◌++◌, ◌∷◌, [], ◌∙◌, sym, ap, map, true, false}
use Rattle.std.specs.Prelude.{filter}
use Rattle.fs_ast.specs.MachineOfParts.{names_of}
use Rattle.hls_bind.specs.Bindings.{stays}
use Rattle.hls_bind.specs.BindingEntries.{binding_entry}
use Rattle.fs_model.proofs.Lists.{of_whole}
use Rattle.hls_bind.proofs.Filled.{put, one_stays, one_goes}
use Rattle.hls_bind.proofs.declarations.names_left.Goals as goal
use Rattle.hls_bind.proofs.declarations.names_left.Goals.{then-stays+in_ok-push_made, else-stays}

pub loop-name-preserved : goal.loop-name-preserved
loop-name-preserved c =
    let s = stays (map binding_entry c.args.registers.now.entries.now) (names_of c.args.registers.now.vars.now) in
    let name = c.name-item.result in
    let old = c.loop-name.out.items in
    let new = c.if-stays.out.items in
    elim c.if-stays.branch [
      | then-stays+in_ok-push_made w ↦ (
          let more : new ≡ old ++ name ∷ [] = ap (λ v. v.items) w.out-is ∙ put w.try_clone.result old _ name w.in_ok-push_made.ensures w.try_clone.ensures in
          let here : s name ≡ true = sym c.stays.ensures ∙ w.if-stays.true in
          one_stays s c.args.names.now c.loop-name.name-index name old new c.loop-name-test.true c.name-item.is here more c.loop-name.invariant)
      | else-stays w ↦ (
          let same : new ≡ old = ap (λ v. v.items) w.out-is in
          let gone : s name ≡ false = sym c.stays.ensures ∙ w.if-stays.false in
          one_goes s c.args.names.now c.loop-name.name-index name old new c.loop-name-test.true c.name-item.is gone same c.loop-name.invariant)
    ]

pub returns : goal.returns
returns c =
    let s = stays (map binding_entry c.args.registers.now.entries.now) (names_of c.args.registers.now.vars.now) in
    of_whole (filter s) c.args.names.now c.loop-name.name-index _ c.loop-name-test.false c.loop-name.invariant
