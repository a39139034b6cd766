use Rattle.std.proofs.Common.{sym, ap, ◌∙◌, string_bytes}
use Rattle.serde_json.specs.View.{view, members_view}
use Rattle.fs_stores.specs.Values.{entry_number}
use Rattle.fs_inputs.specs.Steps.{entry_over}
use Rattle.fs_inputs.proofs.Steps.{first_read, entry_step}
use Rattle.fs_inputs.proofs.values.entries_of.Goals as goal

pub put-requires-clause-number : goal.put-requires-clause-number
put-requires-clause-number c =
    let s = c.in-Some.ensures.steps in
    (first_read (string_bytes c.in-Some.name.now) (view c.in-Some.value.now) (members_view c.next.new.self) (rw s at c.loop-name.invariant.numbers)
    (rw s at c.loop-name.invariant.size)).1

pub loop-name-preserved : goal.loop-name-preserved
loop-name-preserved c =
    let l = c.loop-name in
    let s = c.in-Some.ensures.steps in
    let r = first_read (string_bytes c.in-Some.name.now) (view c.in-Some.value.now) (members_view c.next.new.self) (rw s at l.invariant.numbers)
    (rw s at l.invariant.size) in
    record {
      numbers = r.2;
      size = r.3;
      entries = λ i. entry_step (string_bytes c.in-Some.name.now) (view c.in-Some.value.now)
          (members_view c.next.new.self) l.entries c.put.new.entries i c.in_ok-put.ensures
          ∙ (ap (λ it. entry_over (entry_number l.entries i) (members_view it) i) (sym s) ∙ l.invariant.entries i);
    }
