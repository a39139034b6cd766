use Rattle.std.proofs.Common.{◌≡◌, true, [], map, drop, length}
use Rattle.std.specs.List.{list_all, AllByRecursion}
use Rattle.cert_values.specs.View.{items_view}
use Rattle.nf_rel.specs.View.{literal_in}
use Rattle.sym_facts.specs.Facts.{may_be_kept}
use Rattle.cert_facts.specs.JsonParts.{texts_of}
use Rattle.cert_facts.specs.FactReading.{conditions_read}
use Rattle.cert_terms.specs.View.{find_of}
use Rattle.cert_terms.specs.Within.{LiteralWithin}
use Rattle.cert_facts.specs.View.{terms_in}
use Rattle.cert_facts.proofs.equations.read_conditions.Given as goal

abbrev pub invariant-loop-item : goal.invariant-loop-item
invariant-loop-item l = record {
  rest : conditions_read (terms_in l.places) l.node (map literal_in l.out.items) (texts_of (items_view (drop l.item-index l.items)))
      ≡ conditions_read (terms_in l.places) l.node [] (texts_of (items_view l.items));
  count : length l.out.items ≡ l.item-index;
  kept : list_all may_be_kept (map literal_in l.out.items) ≡ true;
  within : AllByRecursion (LiteralWithin (find_of l.places)) (map literal_in l.out.items);
}
