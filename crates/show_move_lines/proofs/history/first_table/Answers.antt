use Rattle.std.proofs.Common.{◌≡◌, rules, sym, subst}
use Rattle.fs_pair.specs.Positions.{positions}
use Rattle.search_tables.specs.SearchTables.{first_table}
use Rattle.search_tables.specs.View.{table_in}
use Rattle.show_move_lines.specs.MoveReplays.{AreOf}
use Rattle.show_move_lines.specs.View.{side_machines}
use Rattle.show_move_lines.proofs.history.first_table.Goals as goal

pub returns-clause-facts : goal.returns-clause-facts
returns-clause-facts c =
    let m = c.args.m.now in
    let ps = positions m.left.now m.right.now in
    let p : m.pairing.now ≡ ps = search rules in
    let t : table_in c.push.new.self.items ≡ first_table (side_machines m) = search rules in
    subst (λ qs. AreOf qs (table_in c.push.new.self.items)) (sym p)
    (subst (AreOf ps) (sym t) (c.the_start_fact_is_solved.ensures.pairing m.left.now m.right.now, tt))
