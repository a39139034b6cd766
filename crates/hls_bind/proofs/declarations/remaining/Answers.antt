use Rattle.std.proofs.Common.{map}
use Rattle.fs_ast.specs.MachineOfParts.{names_of}
use Rattle.fs_model.specs.View.{declaration_of}
use Rattle.hls_bind.specs.Bindings.{remaining_declarations}
use Rattle.hls_bind.specs.BindingEntries.{binding_entry}
use Rattle.fs_model.proofs.Lists.{of_whole}
use Rattle.hls_bind.proofs.Filled.{more_remain}
use Rattle.hls_bind.proofs.declarations.remaining.Goals as goal

pub loop-decl-preserved : goal.loop-decl-preserved
loop-decl-preserved c =
    let b = map binding_entry c.args.registers.now.entries.now in
    let vs = names_of c.args.registers.now.vars.now in
    more_remain b vs c.args.decls.now c.loop-decl.decl-index c.decl-item.result (declaration_of c.in_ok-without.field-0) _ _ c.loop-decl-test.true
    c.decl-item.is c.in_ok-without.ensures c.in_ok-declare.ensures c.loop-decl.invariant

pub returns : goal.returns
returns c =
    let b = map binding_entry c.args.registers.now.entries.now in
    let vs = names_of c.args.registers.now.vars.now in
    of_whole (λ ds. remaining_declarations b vs (map declaration_of ds)) c.args.decls.now c.loop-decl.decl-index _ c.loop-decl-test.false c.loop-decl.invariant
