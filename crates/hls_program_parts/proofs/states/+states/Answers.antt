use Rattle.std.proofs.Common.{rules, ◌≡◌, ◌+◌, ◌∷◌, ◌++◌, [], ℕ, List, map, ◌∙◌, ap}
use Rattle.std.specs.Prelude.{min}
use Rattle.std.proofs.lemmas.Result.{on_ok_weaker}
use Rattle.fs_model.specs.View.{named_assignment, named_guard, source_state_of}
use Rattle.hls_program_parts.specs.Compiled.{count, first, numbered_states, state_name, states_of}
use Rattle.hls_program_parts.specs.View.{block_of_statement, block_of}
use Rattle.hls_program_parts.specs.Programs.{Block}
use Rattle.hls_program_parts.specs.View.{stmt_step}
use Rattle.hls_program_parts.specs.declared.program.Stmt.TheOpen as open_tree
use Rattle.hls_program_parts.specs.declared.program.Stmt.TheFolds.{fold-roll-Stmt}
use Rattle.hls_program_parts.proofs.Joined.{few_first, few_yes, turned, step_turned, while_turned, if_turned}
use Rattle.hls_program_parts.proofs.states.+states.Goals as goal

pub add_block-each-preserved : goal.add_block-each-preserved
add_block-each-preserved t c =
    let e : c.each.rest.now ≡ c.in-Some.one.now ∷ c.in-Some.behind.now = search rules in
    let size : c.size.result ≡ count (block_of_statement c.in-Some.one.now) =
    few_first c.each.rest.now c.in-Some.behind.now c.in-Some.one.now
    (count (block_of c.args.statements.now)) c.args.number c.size.result e c.each.invariant.0 c.requires.fits c.size.ensures in
    turned (map source_state_of c.each.out.items) [] (map source_state_of c.add_statement.new.out.items) _ c.each.rest.now c.in-Some.behind.now
    c.in-Some.one.now (count (block_of c.args.statements.now)) c.each.number c.args.number c.size.result c.first-next.result c.args.follow e c.each.invariant
    c.in_ok-add_statement.ensures c.first-next.ensures size

pub add_statement-returns-in-Do : goal.add_statement-returns-in-Do
unfolding Rattle.hls_program_parts.specs.declared.program.Stmt.TheViews.roll-Stmt denote.Hole.Carrier.roll
add_statement-returns-in-Do t c =
    on_ok_weaker c.add_made.result
    (λ put. step_turned (map source_state_of c.args.out.now.items) (map source_state_of c.add_made.new.out.items) (block_of_statement c.args.statement.now)
    c.in-Do.line (named_assignment c.in-Do.assign) c.args.number c.args.next
    (ap block_of_statement c.in-Do.is ∙ fold-roll-Stmt (Block (List ℕ)) stmt_step (open_tree.Do c.in-Do.line c.in-Do.assign)) put)
    (c.add_made.ensures _ c.assignment_state.ensures)

pub add_statement-returns-in_ok-add_made-in-While : goal.add_statement-returns-in_ok-add_made-in-While
unfolding Rattle.hls_program_parts.specs.declared.program.Stmt.TheViews.roll-Stmt denote.Hole.Carrier.roll
add_statement-returns-in_ok-add_made-in-While t c =
    let n = c.args.number in
    let done = map source_state_of c.add_made-in-While.new.out.items in
    on_ok_weaker c.add_block-in-While.result
    (λ put. while_turned (map source_state_of c.args.out.now.items) done (map source_state_of c.add_block-in-While.new.out.items)
    (block_of_statement c.args.statement.now) c.in-While.line (named_guard c.in-While.guard)
    (block_of c.in-While.body.items) n c.args.next c.first-to-in-While.result
    (ap block_of_statement c.in-While.is ∙ fold-roll-Stmt (Block (List ℕ)) stmt_step (open_tree.While c.in-While.line c.in-While.guard c.in-While.body))
    (c.in_ok-add_made-in-While.ensures _ c.choice-in-While.ensures)
    (c.first-to-in-While.ensures ∙ ap (λ ss. first (block_of ss) (n + 1) n) c.deref-in-While.ensures.value)
    (put ∙ ap (λ ss. done ++ numbered_states (n + 1) (states_of state_name (block_of ss) (n + 1) n)) c.deref-in-While-2.ensures.value))
    c.add_block-in-While.ensures

pub add_statement-returns-in_ok-add_block-in-If : goal.add_statement-returns-in_ok-add_block-in-If
unfolding Rattle.hls_program_parts.specs.declared.program.Stmt.TheViews.roll-Stmt denote.Hole.Carrier.roll
add_statement-returns-in_ok-add_block-in-If t c =
    let n = c.args.number in
    let k = c.args.next in
    let other = n + 1 + c.count.result in
    let done = map source_state_of c.add_made-in-If.new.out.items in
    let middle = map source_state_of c.add_block.new.out.items in
    let is = ap block_of_statement c.in-If.is ∙ fold-roll-Stmt (Block (List ℕ)) stmt_step (open_tree.If c.in-If.line c.in-If.guard c.in-If.yes c.in-If.no) in
    let few : c.count.result ≡ count (block_of c.in-If.yes.items) =
    few_yes (block_of_statement c.args.statement.now) c.in-If.line (named_guard c.in-If.guard) (block_of c.in-If.yes.items)
    (block_of c.in-If.no.items) c.args.number c.count.result is c.requires.fits
    (c.count.ensures ∙ ap (λ ss. min (count (block_of ss)) 4294967295) c.deref.ensures.value) in
    on_ok_weaker c.add_block-in-If.result
    (λ put. if_turned (map source_state_of c.args.out.now.items) done middle (map source_state_of c.add_block-in-If.new.out.items)
    (block_of_statement c.args.statement.now) c.in-If.line (named_guard c.in-If.guard) (block_of c.in-If.yes.items) (block_of c.in-If.no.items)
    n k other c.first-to.result c.first-otherwise.result is
    (c.in_ok-add_made-in-If.ensures _ c.choice.ensures)
    (ap (λ j. n + 1 + j) few)
    (c.first-to.ensures ∙ ap (λ ss. first (block_of ss) (n + 1) k) c.deref-in-If.ensures.value)
    (c.first-otherwise.ensures ∙ ap (λ ss. first (block_of ss) other k) c.deref-in-If-2.ensures.value)
    (c.in_ok-add_block-in-If.ensures
    ∙ ap (λ ss. done ++ numbered_states (n + 1) (states_of state_name (block_of ss) (n + 1) k)) c.deref-in-If-3.ensures.value)
    (put ∙ ap (λ ss. middle ++ numbered_states other (states_of state_name (block_of ss) other k)) c.deref-in-If-4.ensures.value))
    c.add_block-in-If.ensures
