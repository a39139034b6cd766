use Rattle.std.proofs.Common.{◌∙◌, sym, ap}
use Rattle.std.specs.Prelude.{not}
use Rattle.std.specs.Ordering.{nat_cmp}
use Rattle.std.specs.BTreeMap.{is_at}
use Rattle.std.specs.List.{list_any}
use Rattle.fs_model.proofs.Lists.{map_map}
use Rattle.fs_model.specs.View.{named_assignment}
use Rattle.fs_model.specs.Renamed.{assignment_over}
use Rattle.fs_rules.specs.MachineOfParts.{place_or_end, names_of}
use Rattle.fs_model.specs.SoundMachines.{assigned_in, all_differ}
use Rattle.fs_rules.proofs.Uses.{seen_start, seen_more, seen_again, seen_all}
use Rattle.fs_rules.proofs.scope.Scope.assigns_twice.Goals as goal

pub loop-assign-init : goal.loop-assign-init
loop-assign-init c = seen_start _ _ _ (λ q. ap (λ ks. list_any (is_at (nat_cmp q)) ks) c.new-seen.ensures.empty)

pub loop-assign-preserved : goal.loop-assign-preserved
loop-assign-preserved c =
    let f = place_or_end (names_of c.args.self.now.vars.items) in
    let made = c.in_ok-assigns_again.ensures in
    seen_more (λ a. assignment_over f (named_assignment a)) c.args.assigns.now c.loop-assign.assign-index c.assign-item.result c.loop-assign-test.true
    c.assign-item.is _ _ c.loop-assign.invariant (sym c.if-branch.false ∙ made.again) made.seen

pub returns-then-branch : goal.returns-then-branch
returns-then-branch c =
    let f = place_or_end (names_of c.args.self.now.vars.items) in
    let xs = c.args.assigns.now in
    sym
    (ap (λ l. not (all_differ (assigned_in l))) (map_map (assignment_over f) named_assignment xs)
    ∙ ap not
    (seen_again (λ a. assignment_over f (named_assignment a)) xs c.loop-assign.assign-index c.assign-item.result c.loop-assign-test.true c.assign-item.is _
    c.loop-assign.invariant (sym c.if-branch.true ∙ c.in_ok-assigns_again.ensures.again)))

pub returns : goal.returns
returns c =
    let f = place_or_end (names_of c.args.self.now.vars.items) in
    let xs = c.args.assigns.now in
    sym
    (ap (λ l. not (all_differ (assigned_in l))) (map_map (assignment_over f) named_assignment xs)
    ∙ ap not (seen_all (λ a. assignment_over f (named_assignment a)) xs c.loop-assign.assign-index _ c.loop-assign-test.false c.loop-assign.invariant))
