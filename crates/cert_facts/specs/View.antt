-- What equations and conditions are read against, as plain data.
use Rattle.cert_terms.specs.declared.names.Places.{Places}
use Rattle.cert_terms.specs.TextFunctions.{meanings_by}
use Rattle.cert_facts.specs.FactReading.{TermContext}
use Rattle.cert_terms.specs.View.{place_in_tables, find_of}

abbrev pub terms_in : Places → TermContext
terms_in t = record { place = place_in_tables t; positions = t.positions.now; format = t.format; texts = meanings_by (find_of t) }
