use Rattle.std.proofs.Common.{◌≡◌, ◌<◌, ◌≤◌, rules, sym, subst, Err}
use Rattle.fs_cut.specs.View.{point_of}
use Rattle.sym_paths.specs.View.{post_in}
use Rattle.nf_terms.specs.Computed.{Done, Answers}
use Rattle.propagate.specs.Rebases.{rebase}
use Rattle.cert_model.specs.Lawful.{most_nodes}
use Rattle.search_tables.specs.SearchTables.{positions_of}
use Rattle.search_worklist.specs.States.{table}
use Rattle.search_worklist.specs.Trials.{GivesChange, TellsChange}
use Rattle.search_worklist.specs.View.{machines_in}
use Rattle.search_worklist.proofs.Finished.{as_many}
use Rattle.search_worklist.proofs.Judged.{effect_there, full, put_last_units, rebase_stops, rebase_gives}
use Rattle.search_worklist.proofs.trials.try_new.Goals as goal

pub returns-then-len-ge-NODE_LIMIT : goal.returns-then-len-ge-NODE_LIMIT
returns-then-len-ge-NODE_LIMIT c =
    let T = table c.args.state.now in
    let many = as_many c.args.state.now c.len.result c.len.ensures.len in
    full (positions_of (machines_in c.args.m.now)) T (point_of c.args.left) (point_of c.args.right) (post_in c.args.post.now) c.requires.absent
    (subst (λ n. most_nodes ≤ n) many c.if-len-ge-NODE_LIMIT.true)

pub returns-in_err-fact : goal.returns-in_err-fact
returns-in_err-fact c =
    let ps = positions_of (machines_in c.args.m.now) in
    let T = table c.args.state.now in
    let P = point_of c.args.left in
    let Q = point_of c.args.right in
    let post = post_in c.args.post.now in
    let s = c.in_err-fact.field-0.0 in
    let many = as_many c.args.state.now c.len.result c.len.ensures.len in
    let stopped : c.from_residual.result ≡ Err s = search rules in
    subst (λ r. TellsChange T (effect_there ps T P Q post) r) (sym stopped)
    (rebase_stops ps T P Q post c.requires.absent (subst (λ n. n < most_nodes) many c.if-len-ge-NODE_LIMIT.false) s
    (subst (λ qs. Answers (Err s) (rebase post qs)) c.args.m.now.paired c.in_err-fact.ensures))

pub returns : goal.returns
returns c =
    let ps = positions_of (machines_in c.args.m.now) in
    let T = table c.args.state.now in
    let P = point_of c.args.left in
    let Q = point_of c.args.right in
    let post = post_in c.args.post.now in
    let f = c.in_ok-fact.fact in
    let many = as_many c.args.state.now c.len.result c.len.ensures.len in
    subst (λ e. GivesChange T e c.give_fact.result)
    (rebase_gives ps T P Q post c.requires.absent (subst (λ n. n < most_nodes) many c.if-len-ge-NODE_LIMIT.false) f
    (subst (λ qs. rebase post qs ≡ Done f) c.args.m.now.paired c.in_ok-fact.ensures))
    (c.give_fact.ensures T (put_last_units ps T P Q post c.requires.absent f c.args.state.now.units c.requires.sized))
