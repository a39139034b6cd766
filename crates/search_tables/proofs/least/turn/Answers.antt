use Rattle.std.proofs.Common.{◌≡◌, ◌<◌, [], arith, sym, subst, Vec, Global, ℕ}
use Rattle.std.proofs.lemmas.List.{length-map}
use Rattle.std.proofs.lemmas.Option.{slice_get-get_or, slice_get_within}
use Rattle.std.specs.List.{slice_index_or}
use Rattle.std.specs.Prelude.{◌≢◌, Some, slice_get}
use Rattle.search_tables.specs.Walks.{lists_in}
use Rattle.search_tables.specs.Ways.{IsWayBack, steps_in}
use Rattle.search_tables.proofs.WayBack.{step_in, goes_on_done, comes_back, goes_on}
use Rattle.search_tables.proofs.least.turn.Goals as goal

pub target-requires : goal.target-requires
target-requires c = omega (
  arith,
  step_in (lists_in c.args.edges.now) c.args.seen.now.items c.args.path.now.items c.args.last c.args.root c.requires.search,
  length-map c.args.edges.now (λ (v : Vec ℕ Global). v.items),
)

pub overflow_add-last : goal.overflow_add-last
overflow_add-last c =
    let x = c.in-Some.ensures.some in
    let w = slice_get_within x.0 c.args.last.next c.in-Some.next x.2 in
    let z : c.args.last.next < 4096 = omega (arith, w, c.requires.range.short c.args.last.node x.0 x.1) in
    omega (arith, z)

pub returns-in-None : goal.returns-in-None
returns-in-None c =
    let E = lists_in c.args.edges.now in
    let B = c.args.path.now.items in
    let t = c.args.last in
    let js = slice_index_or E t.node [] in
    let from : slice_get E t.node ≡ Some js = slice_get-get_or E t.node [] (step_in E c.args.seen.now.items B t c.args.root c.requires.search) in
    goes_on_done E c.args.seen.now.items B t c.args.root js c.requires.search from (c.in-None.ensures.none js from)

pub returns-then-next-root : goal.returns-then-next-root
returns-then-next-root c =
    let E = lists_in c.args.edges.now in
    let x = c.in-Some.ensures.some in
    let e : c.in-Some.next ≡ c.args.root = omega (arith, c.if-next-root.true) in
    let g : slice_get x.0 c.args.last.next ≡ Some c.args.root = subst (λ k. slice_get x.0 c.args.last.next ≡ Some k) e x.2 in
    let w = comes_back E c.args.seen.now.items c.args.path.now.items c.args.last c.args.root x.0 c.requires.search x.1 g in
    subst (λ S. IsWayBack E c.args.root (steps_in S)) (sym c.in_ok-push-in-Some.ensures) w

pub returns-in_ok-enter-in-Some : goal.returns-in_ok-enter-in-Some
returns-in_ok-enter-in-Some c =
    let E = lists_in c.args.edges.now in
    let x = c.in-Some.ensures.some in
    let d : c.in-Some.next ≢ c.args.root = λ e. absurd (omega (arith, e, c.if-next-root.false)) in
    goes_on E c.args.seen.now.items c.enter.new.seen.items c.args.path.now.items c.push.new.path.items c.enter.new.path.items c.args.last c.args.root x.0
    c.in-Some.next c.requires.range c.requires.search x.1 x.2 d c.in_ok-push-in-Some.ensures c.in_ok-enter-in-Some.ensures
