use Rattle.std.proofs.Common.{◌≡◌, ◌+◌, ◌<◌, ◌∷◌, ◌++◌, [], arith, ap, sym, subst, ◌∙◌, length, drop, rules, max, vec_len, Vec, Global, ℕ}
use Rattle.std.proofs.lemmas.List.{length-map}
use Rattle.std.proofs.lemmas.Option.{slice_get-get_or, slice_get_within}
use Rattle.std.specs.Prelude.{Some, slice_get, slice_set}
use Rattle.std.specs.List.{slice_index_or}
use Rattle.search_tables.specs.declared.marks.Mark.TheVariants.{New, Open, Ranked}
use Rattle.search_tables.specs.Graphs.{IsCycle}
use Rattle.search_tables.specs.Walks.{lists_in, frame_nodes, walk_work, Walked}
use Rattle.search_tables.proofs.Stacks.{frame}
use Rattle.search_tables.proofs.Steps.{node_in, rank_low, mark_at, step_ranked, step_new, step_done, step_open}
use Rattle.search_tables.proofs.walk.turn.Goals as goal

pub target-requires : goal.target-requires
target-requires c = omega (
  arith,
  node_in (lists_in c.args.edges.now) c.args.marks.now.items c.args.stack.now.items c.args.top c.requires.stack,
  length-map c.args.edges.now (λ (v : Vec ℕ Global). v.items),
)

pub index_mut-requires : goal.index_mut-requires
index_mut-requires c =
    let e : length c.args.marks.now.items ≡ vec_len c.args.marks.now = search rules in
    omega (arith, e, c.requires.right.count, node_in (lists_in c.args.edges.now) c.args.marks.now.items c.args.stack.now.items c.args.top c.requires.stack)

pub overflow_add-rank : goal.overflow_add-rank
overflow_add-rank c =
    let E = lists_in c.args.edges.now in
    let M = c.args.marks.now.items in
    let B = c.args.stack.now.items in
    let t = c.args.top in
    let x = c.in-Some.ensures.some in
    let within = c.requires.range.targets t.node t.next c.in-Some.next x.0 x.1 x.2 in
    let low : c.in-Some.next < length M = omega (arith, within, c.requires.right.count) in
    let z = rank_low E M c.in-Some.next c.in-Ranked.rank c.requires.range c.requires.right
    (mark_at M c.in-Some.next c.index.result.now (Ranked c.in-Ranked.rank) low c.index.ensures c.in-Ranked.is) in
    omega (arith, z)

pub overflow_add-top : goal.overflow_add-top
overflow_add-top c =
    let x = c.in-Some.ensures.some in
    let w = slice_get_within x.0 c.args.top.next c.in-Some.next x.2 in
    let z : c.args.top.next < 4096 = omega (arith, w, c.requires.range.short c.args.top.node x.0 x.1) in
    omega (arith, z)

pub returns-in-None : goal.returns-in-None
returns-in-None c =
    let E = lists_in c.args.edges.now in
    let M = c.args.marks.now.items in
    let B = c.args.stack.now.items in
    let t = c.args.top in
    let js = slice_index_or E t.node [] in
    let from : slice_get E t.node ≡ Some js = slice_get-get_or E t.node [] (node_in E M B t c.requires.stack) in
    step_done E M B t js c.requires.right c.requires.stack from (c.in-None.ensures.none js from)

pub returns-in_ok-push-in-Ranked : goal.returns-in_ok-push-in-Ranked
returns-in_ok-push-in-Ranked c =
    let E = lists_in c.args.edges.now in
    let M = c.args.marks.now.items in
    let B = c.args.stack.now.items in
    let t = c.args.top in
    let x = c.in-Some.ensures.some in
    let within = c.requires.range.targets t.node t.next c.in-Some.next x.0 x.1 x.2 in
    let low : c.in-Some.next < length M = omega (arith, within, c.requires.right.count) in
    let h = mark_at M c.in-Some.next c.index.result.now (Ranked c.in-Ranked.rank) low c.index.ensures c.in-Ranked.is in
    let w = step_ranked E M B t x.0 c.requires.right c.requires.stack x.1 c.in-Some.next c.in-Ranked.rank x.2 h in
    let m : c.max-best.result ≡ max t.best (c.in-Ranked.rank + 1) = search rules in
    let e : c.push.new.stack.items ≡ B ++ frame t.node (t.next + 1) (max t.best (c.in-Ranked.rank + 1)) ∷ [] = c.in_ok-push-in-Ranked.ensures
    ∙ ap (λ b. B ++ frame t.node (t.next + 1) b ∷ []) m in
    subst (λ S. Walked E M M S (walk_work E M (B ++ t ∷ []))) (sym e) w

pub returns-in_ok-push-in-Open : goal.returns-in_ok-push-in-Open
returns-in_ok-push-in-Open c =
    let E = lists_in c.args.edges.now in
    let M = c.args.marks.now.items in
    let B = c.args.stack.now.items in
    let t = c.args.top in
    let x = c.in-Some.ensures.some in
    let within = c.requires.range.targets t.node t.next c.in-Some.next x.0 x.1 x.2 in
    let low : c.in-Some.next < length M = omega (arith, within, c.requires.right.count) in
    let h = mark_at M c.in-Some.next c.index.result.now (Open c.in-Open.depth) low c.index.ensures c.in-Open.is in
    subst (λ S. IsCycle E (frame_nodes (drop c.in-Open.depth S))) (sym c.in_ok-push-in-Open.ensures)
    (step_open E M B t x.0 c.requires.right c.requires.stack x.1 c.in-Some.next c.in-Open.depth x.2 h)

pub returns-in_ok-push-in-New-2 : goal.returns-in_ok-push-in-New-2
returns-in_ok-push-in-New-2 c =
    let E = lists_in c.args.edges.now in
    let M = c.args.marks.now.items in
    let B = c.args.stack.now.items in
    let t = c.args.top in
    let x = c.in-Some.ensures.some in
    let within = c.requires.range.targets t.node t.next c.in-Some.next x.0 x.1 x.2 in
    let low : c.in-Some.next < length M = omega (arith, within, c.requires.right.count) in
    let h = mark_at M c.in-Some.next c.index.result.now New low c.index.ensures c.in-New.is in
    let w = step_new E M B t x.0 c.requires.right c.requires.stack x.1 c.in-Some.next c.requires.range x.2 h in
    let one : c.push-in-New.new.stack.items ≡ B ++ t ∷ [] = c.in_ok-push-in-New.ensures in
    let n : c.len.result ≡ length c.push-in-New.new.stack.items = search rules in
    let stack : c.push-in-New-2.new.stack.items ≡ (B ++ t ∷ []) ++ frame c.in-Some.next 0 0 ∷ [] = c.in_ok-push-in-New-2.ensures
    ∙ ap (λ S. S ++ frame c.in-Some.next 0 0 ∷ []) one in
    let mark = ap (λ k. slice_set M c.in-Some.next (Open k)) (n ∙ ap length one) in
    subst (λ N. Walked E M N c.push-in-New-2.new.stack.items (walk_work E M (B ++ t ∷ []))) (sym mark)
    (subst (λ S. Walked E M (slice_set M c.in-Some.next (Open (length (B ++ t ∷ [])))) S (walk_work E M (B ++ t ∷ []))) (sym stack) w)
