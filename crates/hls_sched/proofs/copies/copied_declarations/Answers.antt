use Rattle.std.proofs.Common.{[], map}
use Rattle.fs_model.specs.View.{declaration_of}
use Rattle.fs_model.proofs.Lists.{of_whole}
use Rattle.fs_model.proofs.Adding.{map_push_made}
use Rattle.hls_sched.proofs.Copied.{map_behind_start_grows}
use Rattle.hls_sched.proofs.copies.copied_declarations.Goals as goal

pub loop-decl-preserved : goal.loop-decl-preserved
loop-decl-preserved c =
    map_behind_start_grows declaration_of [] c.args.decls.now c.loop-decl.decl-index c.decl-item.result _ _ c.loop-decl-test.true c.decl-item.is
    (map_push_made declaration_of c.try_clone.result _ _ (declaration_of c.decl-item.result) c.in_ok-push_made.ensures c.try_clone.ensures)
    c.loop-decl.invariant

pub returns : goal.returns
returns c = of_whole (map declaration_of) c.args.decls.now c.loop-decl.decl-index _ c.loop-decl-test.false c.loop-decl.invariant
