-- The file of a certificate is refused in one way, and not where it spells one.
use Rattle.std.proofs.Common.{◌≡◌, ℕ, true, false, List, Result, refl, sym, ◌∙◌, ap}
use Rattle.std.specs.Prelude.{◌≢◌, Err}
use Rattle.serde_json.specs.Data.{Data}
use Rattle.fs_model.specs.Machines.{Fsmd}
use Rattle.fs_pair.specs.Positions.{positions}
use Rattle.cert_bisimulation.specs.Tables.{Node}
use Rattle.sym_facts.specs.Facts.{Fact}
use Rattle.term_values.specs.NameMeanings.{Find}
use Rattle.base_json_files.specs.Json.{IsJson, IsNotJson}
use Rattle.base_json_files.proofs.Once.{one_value}
use Rattle.cert_json.specs.Refusals.{HasOtherShape, HasTooMany}
use Rattle.cert_json.specs.Shape.{is_file, has_too_many}
use Rattle.cert_writer.specs.CertificateLimits.{most_certificate_bytes}
use Rattle.cert_facts.specs.declared.faults.CertError.{CertError}
use Rattle.cert_facts.specs.declared.faults.CertError.TheVariants.{NotJson, Shape, UnknownState, NotCutpoint, UnknownName, SortOf, NotSolved, TwiceNode}
use Rattle.cert_facts.specs.declared.faults.CertError.TheVariants.{NumberTooBig, TooMany, NoMemory, BadTerm, NotNormal}
use Rattle.cert_facts.specs.JsonParts.{file_format}
use Rattle.cert_text.specs.CertificateNames.{place_named, find_in}
use Rattle.cert_text.specs.TextMeanings.{AreRead}
use Rattle.cert_text.specs.TextFunctions.{meanings_by}
use Rattle.cert_text.specs.Refusals.{file_read, SpellsNodes, BreaksFirst, IsRefusedAsCertificate}
use Rattle.fsmd_replies.specs.declared.answer.Operand.{Operand}
use Rattle.fsmd_replies.specs.declared.answer.Answer.{Answer}
use Rattle.fsmd_replies.specs.declared.answer.Answer.TheVariants.{CertRefused}
use Rattle.fsmd_tool.specs.Readings.{FileContent, OfBytes}
use Rattle.fsmd_tool.specs.Unread.{IsUnread}
use Rattle.fsmd_tool.specs.Refusals.{SpellsCertificate, HasCertFault, RefusesCertificate, UnreadCertificate, ByCertificate}
use Rattle.fsmd_tool_laws.proofs.Contents.{of_both, OpensInOneWay}
use Rattle.fsmd_tool_laws.proofs.Texts.{few_not_many}
use Rattle.fsmd_tool_laws.proofs.Files.{unread_once, unread_or}

-- the laws of reading: bytes spell one list of nodes and are then taken, and there are functions that say what texts stand for
pub record ReadInOneWay : Type 0 where
  pub same : (a b : Fsmd) → (bytes : List ℕ) → (ns ms : List (Node Fact)) → SpellsNodes a b bytes ns → SpellsNodes a b bytes ms → ns ≡ ms
  pub taken : (a b : Fsmd) → (bytes : List ℕ) → (ns : List (Node Fact)) → (e : CertError) → SpellsNodes a b bytes ns
      → IsRefusedAsCertificate a b bytes e → e ≡ NoMemory
  pub texts : (find : Find) → AreRead find (meanings_by find)

pub in_one_way : ((a b : Fsmd) → (bytes : List ℕ) → (ns ms : List (Node Fact)) → SpellsNodes a b bytes ns → SpellsNodes a b bytes ms → ns ≡ ms)
    → ((a b : Fsmd) → (bytes : List ℕ) → (ns : List (Node Fact)) → (e : CertError) → SpellsNodes a b bytes ns → IsRefusedAsCertificate a b bytes e
    → e ≡ NoMemory)
    → ((find : Find) → AreRead find (meanings_by find)) → ReadInOneWay
in_one_way same taken texts = record { same = same; taken = taken; texts = texts }

-- ---- why bytes are refused is one

-- on which ground bytes are refused
data Ground (a b : Fsmd) (bytes : List ℕ) (e : CertError) : Type 0 where
  OfText : IsNotJson bytes → e ≡ NotJson → Ground a b bytes e
  OfShape : HasOtherShape bytes → e ≡ Shape → Ground a b bytes e
  OfCount : HasTooMany bytes → e ≡ TooMany → Ground a b bytes e
  OfNodes : BreaksFirst a b bytes e → Ground a b bytes e

ground : (a b : Fsmd) (bytes : List ℕ) (e : CertError) → e ≢ NoMemory → IsRefusedAsCertificate a b bytes e → Ground a b bytes e
ground a b bytes NotJson told g = OfText g refl
ground a b bytes Shape told g = OfShape g refl
ground a b bytes TooMany told g = OfCount g refl
ground a b bytes NoMemory told g = absurd (told refl)
ground a b bytes (UnknownState i) told g = OfNodes g
ground a b bytes (NotCutpoint i) told g = OfNodes g
ground a b bytes (UnknownName i) told g = OfNodes g
ground a b bytes (SortOf i) told g = OfNodes g
ground a b bytes (NotSolved i k) told g = OfNodes g
ground a b bytes (TwiceNode i) told g = OfNodes g
ground a b bytes (NumberTooBig i) told g = OfNodes g
ground a b bytes (BadTerm i) told g = OfNodes g
ground a b bytes (NotNormal i) told g = OfNodes g

shaped : (bytes : List ℕ) (d : Data) → HasOtherShape bytes → IsJson bytes d → is_file d ≡ true → ⊥
shaped bytes d p q e = let f : is_file p.value ≡ true = ap is_file (one_value bytes p.value d p.json q) ∙ e in let g : true ≡ false = sym f ∙ p.shape in cc

not_many : (bytes : List ℕ) (d : Data) → HasTooMany bytes → IsJson bytes d → has_too_many d ≡ false → ⊥
not_many bytes d p q e =
    let f : has_too_many p.value ≡ false = ap has_too_many (one_value bytes p.value d p.json q) ∙ e in let g : true ≡ false = sym p.many ∙ f in cc

abbrev find_for : (a b : Fsmd) → Data → Find
find_for a b d = find_in (place_named a b (positions a b)) (positions a b) (file_format d)

err_same : (e f : CertError) → Path (Result (List (Node Fact)) CertError) (Err e) (Err f) → e ≡ f
err_same e f h = cc

one_break : (w : ReadInOneWay) → (a b : Fsmd) (bytes : List ℕ) (e f : CertError) → BreaksFirst a b bytes e → BreaksFirst a b bytes f → e ≡ f
one_break w a b bytes e f p q =
    let same : p.value ≡ q.value = one_value bytes p.value q.value p.file.json q.file.json in
    err_same e f
    (sym (p.first (meanings_by (find_for a b p.value)) (w.texts (find_for a b p.value)))
    ∙ (ap (λ d. file_read a b d (meanings_by (find_for a b d))) same ∙ q.first (meanings_by (find_for a b q.value)) (w.texts (find_for a b q.value))))

ground_once : (w : ReadInOneWay) → (a b : Fsmd) (bytes : List ℕ) (e f : CertError) → Ground a b bytes e → Ground a b bytes f → e ≡ f
ground_once w a b bytes e f (OfText p h) (OfText q k) = h ∙ sym k
ground_once w a b bytes e f (OfText p h) (OfShape q k) = absurd (p q.value q.json)
ground_once w a b bytes e f (OfText p h) (OfCount q k) = absurd (p q.value q.json)
ground_once w a b bytes e f (OfText p h) (OfNodes q) = absurd (p q.value q.file.json)
ground_once w a b bytes e f (OfShape p h) (OfText q k) = absurd (q p.value p.json)
ground_once w a b bytes e f (OfShape p h) (OfShape q k) = h ∙ sym k
ground_once w a b bytes e f (OfShape p h) (OfCount q k) = absurd (shaped bytes q.value p q.json q.shape)
ground_once w a b bytes e f (OfShape p h) (OfNodes q) = absurd (shaped bytes q.value p q.file.json q.file.shape)
ground_once w a b bytes e f (OfCount p h) (OfText q k) = absurd (q p.value p.json)
ground_once w a b bytes e f (OfCount p h) (OfShape q k) = absurd (shaped bytes p.value q p.json p.shape)
ground_once w a b bytes e f (OfCount p h) (OfCount q k) = h ∙ sym k
ground_once w a b bytes e f (OfCount p h) (OfNodes q) = absurd (not_many bytes q.value p q.file.json q.file.few)
ground_once w a b bytes e f (OfNodes p) (OfText q k) = absurd (q p.value p.file.json)
ground_once w a b bytes e f (OfNodes p) (OfShape q k) = absurd (shaped bytes p.value q p.file.json p.file.shape)
ground_once w a b bytes e f (OfNodes p) (OfCount q k) = absurd (not_many bytes p.value q p.file.json p.file.few)
ground_once w a b bytes e f (OfNodes p) (OfNodes q) = one_break w a b bytes e f p q

pub cert_fault_once : (w : ReadInOneWay) → (a b : Fsmd) (bytes : List ℕ) (e f : CertError) → HasCertFault a b e bytes → HasCertFault a b f bytes → e ≡ f
cert_fault_once w a b bytes e f p q = ground_once w a b bytes e f (ground a b bytes e p.told p.refused) (ground a b bytes f q.told q.refused)

pub certificate_once : (w : ReadInOneWay) → (a b : Fsmd) (bytes : List ℕ) (n k : List (Node Fact)) → SpellsCertificate a b n bytes
    → SpellsCertificate a b k bytes → n ≡ k
certificate_once w a b bytes n k p q = w.same a b bytes n k p.spells q.spells

pub spells_no_cert_fault : (w : ReadInOneWay) → (a b : Fsmd) (bytes : List ℕ) (n : List (Node Fact)) (e : CertError) → SpellsCertificate a b n bytes
    → HasCertFault a b e bytes → ⊥
spells_no_cert_fault w a b bytes n e p q = q.told (w.taken a b bytes n e p.spells q.refused)

-- ---- refusals

fault_read : (a b : Fsmd) (file : Operand) (c : FileContent) (e : CertError) (x : Answer) → OfBytes c (HasCertFault a b e)
    → IsUnread most_certificate_bytes file c x → ⊥
fault_read a b file c e x t u = unread_or most_certificate_bytes file c (HasCertFault a b e) x (λ v p l. few_not_many _ most_certificate_bytes p.few l) t u

refused_once : (w : ReadInOneWay) → (a b : Fsmd) (file : Operand) (c : FileContent) (x y : Answer) → RefusesCertificate a b file c x
    → RefusesCertificate a b file c y → x ≡ y
refused_once w a b file c x y (UnreadCertificate u) (UnreadCertificate v) = unread_once most_certificate_bytes file c x y u v
refused_once w a b file c x y (UnreadCertificate u) (ByCertificate e t h) = absurd (fault_read a b file c e x t u)
refused_once w a b file c x y (ByCertificate e t h) (UnreadCertificate u) = absurd (fault_read a b file c e y t u)
refused_once w a b file c x y (ByCertificate e t h) (ByCertificate f s k) =
    h ∙ ap (CertRefused file) (of_both c (HasCertFault a b e) (HasCertFault a b f) (e ≡ f) (λ v p q. cert_fault_once w a b v e f p q) t s) ∙ sym k

spelled_or_refused : (w : ReadInOneWay) → (a b : Fsmd) (file : Operand) (c : FileContent) (n : List (Node Fact)) (x : Answer)
    → OfBytes c (SpellsCertificate a b n)
    → RefusesCertificate a b file c x → ⊥
spelled_or_refused w a b file c n x s (UnreadCertificate u) =
    unread_or most_certificate_bytes file c (SpellsCertificate a b n) x (λ v p l. few_not_many _ most_certificate_bytes p.few l) s u
spelled_or_refused w a b file c n x s (ByCertificate e t h) =
    of_both c (SpellsCertificate a b n) (HasCertFault a b e) ⊥ (λ v p q. spells_no_cert_fault w a b v n e p q) s t

-- the file of two machines' certificate is one thing
pub certificate_opens : (w : ReadInOneWay) → (a b : Fsmd) → OpensInOneWay (List (Node Fact)) (RefusesCertificate a b) (SpellsCertificate a b)
certificate_opens w a b = record {
  one_refusal = λ file c x y p q. refused_once w a b file c x y p q;
  one_value = λ bytes n k p q. certificate_once w a b bytes n k p q;
  spelled_is_not_refused = λ file c n x s p. spelled_or_refused w a b file c n x s p;
}
