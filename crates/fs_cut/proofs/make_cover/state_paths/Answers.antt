use Rattle.std.proofs.Common.{◌∙◌, ap, sym, arith, map}
use Rattle.fs_cut.specs.View.{path_of}
use Rattle.fs_cut.proofs.Listed.{past_missing}
use Rattle.fs_cut.proofs.make_cover.state_paths.Goals as goal

pub returns-else-state-state_count : goal.returns-else-state-state_count
returns-else-state-state_count c =
    ap (map path_of) c.new.ensures.items
    ∙ sym (past_missing c.args.m.now c.args.state.0 (omega (arith, c.if-state-state_count.false, c.state_count.ensures.count)))
