use Rattle.std.proofs.Common.{◌≡◌, drop}
use Rattle.nf_substitution.specs.Substitution.{items_substituted}
use Rattle.nf_substitution.specs.Keeping.{with_items, IsFront, AreValues}
use Rattle.nf_substitution.proofs.kept_terms.keep_items.Given as goal

abbrev pub invariant-loop-item : goal.invariant-loop-item
invariant-loop-item l = record {
  answers : items_substituted l.vector (drop l.item-index l.items) l.so_far ≡ items_substituted l.vector l.items l.initial.so_far;
  known : AreValues l.vector l.bank l.memo;
  kept : with_items (drop l.item-index l.items) l.bank ≡ with_items l.items l.initial.bank;
  front : IsFront l.initial.bank l.bank;
}
