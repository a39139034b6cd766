use Rattle.std.proofs.Common.{◌≡◌}
use Rattle.cert_values.specs.JsonTexts.{named_texts_of}
use Rattle.cert_values.specs.View.{members_view}
use Rattle.cert_facts.specs.FactReading.{equations_read}
use Rattle.cert_facts.specs.View.{terms_in}
use Rattle.cert_terms.specs.Repeats.{AreLast}
use Rattle.cert_facts.specs.Within.{AreEquationsOf}
use Rattle.cert_facts.proofs.equations.put_equations.Given as goal

abbrev pub invariant-loop-key : goal.invariant-loop-key
invariant-loop-key l = record {
  rest : equations_read (terms_in l.places) l.node l.forms.items (named_texts_of (members_view l.key-iterator))
      ≡ equations_read (terms_in l.places) l.node l.initial.forms.items (named_texts_of (members_view l.members.entries));
  kept : AreEquationsOf l.places.positions.now l.forms.items;
  last : AreLast l.places l.last.items;
}
