-- What a file is read against, by the tables of names.
use Rattle.std.proofs.Common.{◌≡◌, ℕ, ◌≤◌, List, [], length, map, Vec, Global, Result, Ok, Err, refl, ap, sym, subst, ◌∙◌, arith}
use Rattle.std.specs.Prelude.{IfOk}
use Rattle.std.proofs.lemmas.List.{length-map}
use Rattle.serde_json.specs.Data.{Data}
use Rattle.fs_model.specs.Machines.{Fsmd}
use Rattle.fs_pair.specs.declared.positions.Position.{Position}
use Rattle.fs_pair.specs.Positions.{positions}
use Rattle.fs_model.specs.declared.sides.Side.{Side}
use Rattle.term_values.specs.NameMeanings.{Find}
use Rattle.cert_model.specs.Lawful.{IsLawful, most_nodes}
use Rattle.cert_model.specs.declared.cert.Cert.{Cert}
use Rattle.cert_model.specs.declared.cert.Node.{Node as CodeNode}
use Rattle.cert_model.specs.View.{node_of}
use Rattle.fs_model.specs.declared.sides.Side.TheVariants.{Left, Right}
use Rattle.cert_bisimulation.specs.Tables.{Node}
use Rattle.sym_facts.specs.Facts.{Fact}
use Rattle.cert_json.specs.WrittenJson.{NodeText}
use Rattle.cert_facts.specs.declared.faults.CertError.{CertError}
use Rattle.cert_terms.specs.declared.names.Places.{Places}
use Rattle.cert_terms.specs.declared.table.NameTable.{NameTable}
use Rattle.cert_facts.specs.JsonParts.{file_nodes, file_format}
use Rattle.cert_terms.specs.CertificateNames.{state_named, place_named, find_in}
use Rattle.cert_terms.specs.NameTables.{name_number}
use Rattle.cert_terms.specs.TextMeanings.{TextMeanings}
use Rattle.cert_text.specs.CertificateReading.{Context, nodes_read}
use Rattle.cert_terms.specs.TextFunctions.{meanings_by}
use Rattle.cert_text.specs.Within.{AreNodesOf}
use Rattle.cert_facts.specs.PartAnswers.{Tells}
use Rattle.cert_facts.specs.declared.faults.Stop.{Stop}
use Rattle.cert_facts.specs.declared.faults.Stop.TheVariants as stop
use Rattle.cert_text.specs.Refusals.{context_of, file_read, ComesTo, TellsNodes}
use Rattle.cert_terms.specs.View.{place_in_tables}
use Rattle.cert_facts.specs.View.{terms_in}
use Rattle.cert_terms.proofs.Readings.{only_texts}
use Rattle.cert_text.proofs.LawfulNodes.{lawful}

-- what a file is read against, by the tables of names
abbrev pub by_tables : (a b : Fsmd) (left right : NameTable) → Places → Context
by_tables a b left right t = record {
  states = record { a = a; b = b; left = name_number left; right = name_number right };
  terms = terms_in t;
}

-- tables that find the same make the same context
pub same_context : (left right : NameTable) (t : Places) (a b : Fsmd) (ps : List Position) (format : ℕ) → ps ≡ positions a b
    → ((x : List ℕ) → name_number left x ≡ state_named a x) → ((x : List ℕ) → name_number right x ≡ state_named b x)
    → t.positions.now ≡ ps → t.format ≡ format → ((x : List ℕ) → name_number t.left x ≡ place_named a b ps Left x)
    → ((x : List ℕ) → name_number t.right x ≡ place_named a b ps Right x)
    → by_tables a b left right t ≡ context_of a b format (meanings_by (find_in (place_named a b (positions a b)) (positions a b) format))
same_context left right t a b ps format same lefts rights ep ef first second =
    λ k. record {
      states = record { a = a; b = b; left = λ x. lefts x k; right = λ x. rights x k };
      terms = record { place = λ s x. by_side s x k; positions = all k; format = ef k; texts = meanings_by (find_in (λ s x. by_side s x k) (all k) (ef k)) };
    }
  where
    all : t.positions.now ≡ positions a b
    all = ep ∙ same

    by_side : (s : Side) (x : List ℕ) → place_in_tables t s x ≡ place_named a b (positions a b) s x
    by_side Left x = first x ∙ ap (λ qs. place_named a b qs Left x) same
    by_side Right x = second x ∙ ap (λ qs. place_named a b qs Right x) same

-- what comes of the nodes read by the tables is what they come to
come_to : (a b : Fsmd) (d : Data) (c : Context) (format : ℕ) (ns : List NodeText) (y : Result (List (Node Fact)) CertError)
    → c ≡ context_of a b format (meanings_by (find_in (place_named a b (positions a b)) (positions a b) format)) → format ≡ file_format d
    → ns ≡ file_nodes d → nodes_read c 0 [] ns ≡ y → ComesTo a b d y
come_to a b d c format ns y same ef all told r h =
    let find : ℕ → Find = find_in (place_named a b (positions a b)) (positions a b) in
    let here : c ≡ context_of a b (file_format d) (meanings_by (find (file_format d))) =
    subst (λ f. c ≡ context_of a b f (meanings_by (find f))) ef same in
    subst (λ q. file_read a b d q ≡ y) (sym (only_texts (find (file_format d)) r h))
    (subst (λ ms. nodes_read (context_of a b (file_format d) (meanings_by (find (file_format d)))) 0 [] ms ≡ y) all
    (subst (λ k. nodes_read k 0 [] ns ≡ y) here told))

stopped_to : (view : Cert → List (Node Fact)) (a b : Fsmd) (d : Data) (c : Context) (format : ℕ) (e : Stop)
    → c ≡ context_of a b format (meanings_by (find_in (place_named a b (positions a b)) (positions a b) format)) → format ≡ file_format d
    → Tells view (Err e) (nodes_read c 0 [] (file_nodes d)) → TellsNodes a b d (Err e)
stopped_to view a b d c format (stop.Refused e) same ef told = come_to a b d c format (file_nodes d) (Err e) same ef refl told
stopped_to view a b d c format stop.NoMemory same ef told = tt

-- an answer on the nodes by the tables is one on the nodes of the file
pub told_of : (a b : Fsmd) (d : Data) (c : Context) (format : ℕ) (result : Result Cert Stop)
    → c ≡ context_of a b format (meanings_by (find_in (place_named a b (positions a b)) (positions a b) format)) → format ≡ file_format d
    → Tells (λ x. map node_of x.nodes.items) result (nodes_read c 0 [] (file_nodes d)) → TellsNodes a b d result
told_of a b d c format (Ok x) same ef told = come_to a b d c format (file_nodes d) (Ok (map node_of x.nodes.items)) same ef refl told
told_of a b d c format (Err e) same ef told = stopped_to (λ x. map node_of x.nodes.items) a b d c format e same ef told

-- the same of nodes that are taken out of the file
pub taken_stop : (c : Context) (ns ms : List NodeText) (e : Stop) → ns ≡ ms
    → Tells {X = Vec CodeNode Global} (λ xs. map node_of xs.items) (Err e) (nodes_read c 0 [] ns)
    → Tells {X = Cert} (λ x. map node_of x.nodes.items) (Err e) (nodes_read c 0 [] ms)
taken_stop c ns ms (stop.Refused e) s h = ap (nodes_read c 0 []) (sym s) ∙ h
taken_stop c ns ms stop.NoMemory s h = tt

-- nodes that are lawful by the tables are lawful
lawful_here : (a b : Fsmd) (c : Context) (format : ℕ) (r : TextMeanings) (ns : List (Node Fact)) → c ≡ context_of a b format r
    → AreNodesOf c.states.a c.states.b c.terms.positions ns → length ns ≤ most_nodes → IsLawful a b ns
lawful_here a b c format r ns same h few = lawful a b ns (subst (λ k. AreNodesOf k.states.a k.states.b k.terms.positions ns) same h) few

pub lawful_of : (a b : Fsmd) (c : Context) (format : ℕ) (r : TextMeanings) (result : Result Cert Stop) → c ≡ context_of a b format r
    → IfOk result (λ x. AreNodesOf c.states.a c.states.b c.terms.positions (map node_of x.nodes.items))
    → IfOk result (λ x. length x.nodes.items ≤ most_nodes) → IfOk result (λ x. IsLawful a b (map node_of x.nodes.items))
lawful_of a b c format r (Ok x) same h few = let n : length (map node_of x.nodes.items) ≡ length x.nodes.items = length-map x.nodes.items node_of in
    lawful_here a b c format r (map node_of x.nodes.items) same h (omega (arith, n, few))
lawful_of a b c format r (Err e) same h few = tt
