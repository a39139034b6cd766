-- What a file is read against, as plain data.
use Rattle.cert_facts.specs.declared.context.Context.{Context as CodeContext}
use Rattle.cert_facts.specs.View.{terms_in}
use Rattle.cert_terms.specs.NameTables.{name_number}
use Rattle.cert_text.specs.NodePointNames.{StateTables}
use Rattle.cert_text.specs.CertificateReading.{Context}

abbrev pub states_in : CodeContext → StateTables
states_in c = record { a = c.a.now; b = c.b.now; left = name_number c.left_states.now; right = name_number c.right_states.now }

abbrev pub context_in : CodeContext → Context
context_in c = record { states = states_in c; terms = terms_in c.places.now }
