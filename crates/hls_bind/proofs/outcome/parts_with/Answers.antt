use Rattle.std.proofs.Common.{◌∙◌, ap, map}
use Rattle.fs_model.specs.View.{source_of, source_state_of}
use Rattle.hls_bind.specs.Bindings.{state_renamed}
use Rattle.hls_bind.specs.BindingEntries.{binding_entry, name_for}
use Rattle.hls_bind.proofs.Loops.{parts_are}
use Rattle.hls_bind.proofs.outcome.parts_with.Goals as goal

pub returns : goal.returns
returns c =
    let registers = c.args.registers.now in
    let states = c.in_ok-states.ensures ∙ ap (λ ss. map (state_renamed (name_for registers)) (map source_state_of ss)) c.deref.ensures.value in
    parts_are (map binding_entry registers.entries.now) c.args.names.items
    (source_of c.args.parts.now) registers.vars.now _ c.in_ok-try_clone.field-0 _ c.requires c.in_ok-decls.ensures c.in_ok-try_clone.ensures states
