use Rattle.std.proofs.Common.{◌<◌, sym, subst}
use Rattle.hls_sched.proofs.Rows.{target_among}
use Rattle.hls_sched.proofs.moves.row_in_state.Goals as goal

pub returns-clause-among : goal.returns-clause-among
returns-clause-among c = λ count all out. record {
  items = c.in_ok-items.ensures.among count all;
  target = subst (λ z. z < count) (sym c.after_row.ensures)
      (target_among count c.args.block.now.exit.0 c.args.block.now.states.items c.args.plan.now.count c.args.row c.requires.plan.no_more all out);
}
