-- Bytes are read in one way.
use Rattle.std.proofs.Common.{◌≡◌, ℕ, true, false, List, Result, Ok, Err, refl, sym, ap, ◌∙◌}
use Rattle.serde_json.specs.Data.{Data}
use Rattle.fs_model.specs.Machines.{Fsmd}
use Rattle.fs_pair.specs.Positions.{positions}
use Rattle.cert_bisimulation.specs.Tables.{Node}
use Rattle.sym_facts.specs.Facts.{Fact}
use Rattle.term_values.specs.NameMeanings.{Find}
use Rattle.base_json_files.proofs.Once.{one_value}
use Rattle.cert_values.specs.Shape.{is_file, has_too_many}
use Rattle.cert_facts.specs.declared.faults.CertError.{CertError}
use Rattle.cert_facts.specs.declared.faults.CertError.TheVariants.{NotJson, Shape, UnknownState, NotCutpoint, UnknownName, SortOf, NotSolved, TwiceNode}
use Rattle.cert_facts.specs.declared.faults.CertError.TheVariants.{NumberTooBig, TooMany, NoMemory, BadTerm, NotNormal}
use Rattle.cert_facts.specs.JsonParts.{file_format}
use Rattle.cert_terms.specs.CertificateNames.{place_named, find_in}
use Rattle.cert_terms.specs.TextFunctions.{meanings_by}
use Rattle.cert_text.specs.Refusals.{file_read, ComesTo, SpellsNodes, BreaksFirst, IsRefusedAsCertificate}
use Rattle.cert_terms.proofs.Readings.{texts_are_read}

-- the nodes of a file come to one thing
one_outcome : (a b : Fsmd) (d e : Data) (x y : Result (List (Node Fact)) CertError) → d ≡ e → ComesTo a b d x → ComesTo a b e y → x ≡ y
one_outcome a b d e x y s h g =
    let find : Data → Find = λ v. find_in (place_named a b (positions a b)) (positions a b) (file_format v) in
    sym (h (meanings_by (find d)) (texts_are_read (find d)))
    ∙ (ap (λ v. file_read a b v (meanings_by (find v))) s ∙ g (meanings_by (find e)) (texts_are_read (find e)))

pub one_list : (a b : Fsmd) (bytes : List ℕ) (ns ms : List (Node Fact)) → SpellsNodes a b bytes ns → SpellsNodes a b bytes ms → ns ≡ ms
one_list a b bytes ns ms h g = let e : Ok ns ≡ Ok ms = one_outcome a b h.value g.value (Ok ns) (Ok ms)
    (one_value bytes h.value g.value h.file.json g.file.json) h.nodes g.nodes in cc e

breaks_none : (a b : Fsmd) (bytes : List ℕ) (ns : List (Node Fact)) (e : CertError) → SpellsNodes a b bytes ns → BreaksFirst a b bytes e → ⊥
breaks_none a b bytes ns e h g = let f : Ok ns ≡ Err e = one_outcome a b h.value g.value (Ok ns) (Err e)
    (one_value bytes h.value g.value h.file.json g.file.json) h.nodes g.first in absurd (cc f)

pub not_refused : (a b : Fsmd) (bytes : List ℕ) (ns : List (Node Fact)) (e : CertError) → SpellsNodes a b bytes ns
    → IsRefusedAsCertificate a b bytes e → e ≡ NoMemory
not_refused a b bytes ns NotJson h g = absurd (g h.value h.file.json)
not_refused a b bytes ns Shape h g =
    let v : h.value ≡ g.value = one_value bytes h.value g.value h.file.json g.json in
    let f : is_file g.value ≡ true = sym (ap is_file v) ∙ h.file.shape in
    absurd (cc (f, g.shape))
not_refused a b bytes ns TooMany h g =
    let v : h.value ≡ g.value = one_value bytes h.value g.value h.file.json g.json in
    let f : has_too_many g.value ≡ false = sym (ap has_too_many v) ∙ h.file.few in
    absurd (cc (f, g.many))
not_refused a b bytes ns NoMemory h g = refl
not_refused a b bytes ns (UnknownState i) h g = absurd (breaks_none a b bytes ns (UnknownState i) h g)
not_refused a b bytes ns (NotCutpoint i) h g = absurd (breaks_none a b bytes ns (NotCutpoint i) h g)
not_refused a b bytes ns (UnknownName i) h g = absurd (breaks_none a b bytes ns (UnknownName i) h g)
not_refused a b bytes ns (SortOf i) h g = absurd (breaks_none a b bytes ns (SortOf i) h g)
not_refused a b bytes ns (NotSolved i k) h g = absurd (breaks_none a b bytes ns (NotSolved i k) h g)
not_refused a b bytes ns (TwiceNode i) h g = absurd (breaks_none a b bytes ns (TwiceNode i) h g)
not_refused a b bytes ns (NumberTooBig i) h g = absurd (breaks_none a b bytes ns (NumberTooBig i) h g)
not_refused a b bytes ns (BadTerm i) h g = absurd (breaks_none a b bytes ns (BadTerm i) h g)
not_refused a b bytes ns (NotNormal i) h g = absurd (breaks_none a b bytes ns (NotNormal i) h g)
