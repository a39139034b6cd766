use Rattle.std.proofs.Common.{ap, map, sym, ◌∙◌}
use Rattle.fs_cut.specs.View.{point_of}
use Rattle.nf_rel.specs.Literals.{is_refuted}
use Rattle.nf_rel.specs.View.{literal_in}
use Rattle.sym_paths.specs.View.{post_in}
use Rattle.search_tables.specs.SearchTables.{positions_of}
use Rattle.search_worklist.specs.States.{table}
use Rattle.search_worklist.specs.View.{machines_in}
use Rattle.search_worklist.proofs.Judged.{effect_there, open_tries, tells_change}
use Rattle.search_worklist.proofs.trials.try_arrival.Goals as goal

pub returns-then-branch : goal.returns-then-branch
returns-then-branch c = sym (ap (λ ls. is_refuted (map literal_in ls)) c.as_slice.ensures.value) ∙ sym c.in_ok-is_refuted.ensures ∙ c.if-branch.true

pub try_known-requires-clause-is_open : goal.try_known-requires-clause-is_open
try_known-requires-clause-is_open c =
    sym (ap (λ ls. is_refuted (map literal_in ls)) c.as_slice.ensures.value) ∙ sym c.in_ok-is_refuted.ensures ∙ c.if-branch.false

pub returns-in-Some : goal.returns-in-Some
returns-in-Some c =
    open_tries (positions_of (machines_in c.args.m.now)) (table c.args.state.now) (point_of c.args.left) (point_of c.args.right) (post_in c.args.post.now)
    c.try_known.result
    (sym (ap (λ ls. is_refuted (map literal_in ls)) c.as_slice.ensures.value) ∙ sym c.in_ok-is_refuted.ensures ∙ c.if-branch.false)
    c.try_known.ensures

pub returns-in-None : goal.returns-in-None
returns-in-None c =
    let ps = positions_of (machines_in c.args.m.now) in
    let T = table c.args.state.now in
    let P = point_of c.args.left in
    let Q = point_of c.args.right in
    let post = post_in c.args.post.now in
    open_tries ps T P Q post c.try_new.result
    (sym (ap (λ ls. is_refuted (map literal_in ls)) c.as_slice.ensures.value) ∙ sym c.in_ok-is_refuted.ensures ∙ c.if-branch.false)
    (tells_change T P Q post (effect_there ps T P Q post) c.try_new.result c.try_new.ensures)
