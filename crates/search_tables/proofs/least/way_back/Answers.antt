use Rattle.std.proofs.Common.{◌≡◌, ◌∷◌, ◌++◌, [], arith, rules, ap, sym, subst, ◌∙◌, false, true, length, Vec, Global, ℕ}
use Rattle.std.proofs.lemmas.List.{length-map}
use Rattle.std.specs.Prelude.{Some, slice_get}
use Rattle.search_tables.specs.Walks.{lists_in}
use Rattle.search_tables.specs.Ways.{step_at}
use Rattle.search_tables.proofs.WayBack.{search_begins, never_seen, no_way_back}
use Rattle.search_tables.proofs.least.way_back.Goals as goal

pub search-init : goal.search-init
search-init c =
    let edges = c.args.edges.now in
    let E = lists_in edges in
    let count : length E ≡ length edges = length-map edges (λ (v : Vec ℕ Global). v.items) in
    let n : length c.in_ok-seen.seen.items ≡ length E = ap length c.in_ok-seen.ensures ∙ length-map edges (λ _. false) ∙ sym count in
    let e : c.push.new.path.items ≡ step_at c.args.root 0 ∷ [] = c.in_ok-push.ensures ∙ ap (λ S. S ++ step_at c.args.root 0 ∷ []) c.new-path.ensures.items in
    search_begins E c.in_ok-seen.seen.items c.push.new.path.items c.args.root n
    (λ i g. never_seen edges i (subst (λ N. slice_get N i ≡ Some true) c.in_ok-seen.ensures g)) (omega (arith, c.requires.root, count)) e

pub returns-in-None : goal.returns-in-None
returns-in-None c =
    let e : c.search.path.items ≡ [] = search rules in
    no_way_back (lists_in c.args.edges.now) c.search.seen.items c.search.path.items c.args.root c.search.invariant e
