use Rattle.std.proofs.Common.{rules, ◌≡◌, [], sym, ◌∙◌, subst, append-nil}
use Rattle.fs_stores.specs.EntryLists.{IsListing}
use Rattle.fs_stores.specs.Values.{entry_number}
use Rattle.fs_stores.proofs.Listings.{kept, kept_more, kept_is_listing}
use Rattle.fs_stores.proofs.values.Entries.list.Goals as goal

pub loop-index-preserved-in-Continue-1 : goal.loop-index-preserved-in-Continue-1
loop-index-preserved-in-Continue-1 c =
    kept_more (c.in-Some.index.now, c.in-Some.number.now) c.next.new.self c.loop-index.index-iterator c.loop-index.list.items c.push_entry.new.list.items
    (sym c.is_listed.ensures ∙ c.if-is_listed.true) c.in-Some.ensures.steps (search rules)
    ∙ c.loop-index.invariant

pub returns : goal.returns
returns c =
    let none : c.loop-index.index-iterator ≡ [] = c.in-None.ensures.steps.0 in
    let whole : c.loop-index.list.items ≡ kept c.args.self.now.map.entries = sym (append-nil c.loop-index.list.items) ∙ (rw none at c.loop-index.invariant) in
    record {
      listing = subst (λ es. IsListing (entry_number c.args.self.now) es) (sym whole) (kept_is_listing c.args.self.now c.iter-index-items.ensures.ordered);
    }
