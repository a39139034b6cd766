use Rattle.std.proofs.Common.{◌≤◌, arith, ap, sym, subst, ◌∙◌, length, Vec, Global, ℕ}
use Rattle.std.proofs.lemmas.List.{length-map}
use Rattle.search_tables.specs.Walks.{lists_in, ranks_in, Visits, Visited}
use Rattle.search_tables.proofs.Roots.{new_right, new_closed, none_ranked, one_ranked, all_ranked}
use Rattle.search_tables.proofs.walk.rank_all.Goals as goal

pub roots-init : goal.roots-init
roots-init c = record {
  right = new_right (lists_in c.args.edges.now) c.args.edges.now c.in_ok-marks.marks.items c.in_ok-marks.ensures
      (sym (length-map c.args.edges.now (λ (v : Vec ℕ Global). v.items)));
  closed = new_closed c.args.edges.now c.in_ok-marks.marks.items c.in_ok-marks.ensures;
  ranked = none_ranked c.in_ok-marks.marks.items;
}

pub roots-preserved : goal.roots-preserved
roots-preserved c =
    let E = lists_in c.args.edges.now in
    let v : Visited E c.roots.marks.items c.rank_root.new.marks.items c.roots.root =
    subst (Visits E c.roots.marks.items c.rank_root.new.marks.items c.roots.root) c.in-None.is c.in_ok-cycle.ensures in
    record {
      right = v.right;
      closed = v.closed;
      ranked = one_ranked E c.roots.marks.items c.rank_root.new.marks.items c.roots.root c.roots.invariant.ranked v;
    }

pub returns : goal.returns
returns c =
    let E = lists_in c.args.edges.now in
    let le : length E ≤ c.roots.root = omega (arith, c.roots-test.false, length-map c.args.edges.now (λ (v : Vec ℕ Global). v.items)) in
    all_ranked E c.roots.marks.items c.roots.root c.in_ok-ranks_in.field-0.items c.requires c.roots.invariant.right c.roots.invariant.ranked le
    (c.in_ok-ranks_in.ensures ∙ ap ranks_in c.as_slice.ensures.value)
