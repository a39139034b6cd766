-- What the bytes of a certificate spell, and why they are refused.
use Rattle.std.specs.Prelude.{◌≡◌, ℕ, List, [], map, Result, Ok, Err}
use Rattle.serde_json.specs.Data.{Data}
use Rattle.fs_model.specs.Machines.{Fsmd}
use Rattle.fs_pair.specs.Positions.{positions}
use Rattle.cert_bisimulation.specs.Tables.{Node}
use Rattle.sym_facts.specs.Facts.{Fact}
use Rattle.base_json_files.specs.Json.{IsNotJson}
use Rattle.cert_json.specs.Refusals.{IsFileOf, HasOtherShape, HasTooMany}
use Rattle.cert_facts.specs.declared.faults.CertError.{CertError}
use Rattle.cert_facts.specs.declared.faults.CertError.TheVariants.{NotJson, Shape, TooMany, NoMemory}
use Rattle.cert_facts.specs.declared.faults.Stop.{Stop}
use Rattle.cert_facts.specs.declared.faults.Stop.TheVariants as stop
use Rattle.cert_model.specs.declared.cert.Cert.{Cert}
use Rattle.cert_model.specs.View.{node_of}
use Rattle.cert_facts.specs.JsonParts.{file_nodes, file_format}
use Rattle.cert_terms.specs.CertificateNames.{state_named, place_named, find_in}
use Rattle.cert_terms.specs.TextMeanings.{TextMeanings, AreRead}
use Rattle.cert_text.specs.CertificateReading.{Context, nodes_read}

-- a file of two machines is read against their states, their positions by name, its format and what texts stand for
abbrev pub context_of : (a b : Fsmd) → (format : ℕ) → TextMeanings → Context
context_of a b format r = record {
  states = record { a = a; b = b; left = state_named a; right = state_named b };
  terms = record { place = place_named a b (positions a b); positions = positions a b; format = format; texts = r };
}

-- what comes of the nodes of a file
abbrev pub file_read : (a b : Fsmd) → Data → TextMeanings → Result (List (Node Fact)) CertError
file_read a b d r = nodes_read (context_of a b (file_format d) r) 0 [] (file_nodes d)

-- the nodes of a file come to this, whatever functions say what its texts stand for
abbrev pub ComesTo : (a b : Fsmd) → Data → Result (List (Node Fact)) CertError → Type 0
ComesTo a b d y = (r : TextMeanings) → AreRead (find_in (place_named a b (positions a b)) (positions a b) (file_format d)) r
    → file_read a b d r ≡ y

-- an answer is what the nodes of a file come to, or memory was refused
abbrev pub TellsNodes : (a b : Fsmd) → Data → Result Cert Stop → Type 0
TellsNodes a b d (Ok c) = ComesTo a b d (Ok (map node_of c.nodes.items))
TellsNodes a b d (Err (stop.Refused e)) = ComesTo a b d (Err e)
TellsNodes a b d (Err stop.NoMemory) = Unit {0}

-- the bytes spell these nodes
pub record SpellsNodes (a b : Fsmd) (bytes : List ℕ) (ns : List (Node Fact)) : Type 0 where
  pub value : Data
  pub file : IsFileOf bytes value
  pub nodes : ComesTo a b value (Ok ns)

-- the bytes are a file in which this is the first rule of nodes that is broken
pub record BreaksFirst (a b : Fsmd) (bytes : List ℕ) (e : CertError) : Type 0 where
  pub value : Data
  pub file : IsFileOf bytes value
  pub first : ComesTo a b value (Err e)

-- why bytes are refused; out of memory may come at any time
abbrev pub IsRefusedAsCertificate : (a b : Fsmd) → List ℕ → CertError → Type 0
IsRefusedAsCertificate a b bytes NotJson = IsNotJson bytes
IsRefusedAsCertificate a b bytes Shape = HasOtherShape bytes
IsRefusedAsCertificate a b bytes TooMany = HasTooMany bytes
IsRefusedAsCertificate a b bytes NoMemory = Unit {0}
IsRefusedAsCertificate a b bytes e = BreaksFirst a b bytes e
