-- Texts that were read last, where one more is read.
use Rattle.std.proofs.Common.{◌≡◌, ℕ, zero, suc, true, ap, sym, subst, ◌∙◌, List, [], ◌∷◌, length, Option, Some, None, Ok}
use Rattle.std.specs.Prelude.{◌++◌, set, string_bytes}
use Rattle.std.specs.Str.{bytes_eq}
use Rattle.std.specs.Cmp.Lexicographic.{same_text}
use Rattle.std.proofs.lemmas.List.{length-set}
use Rattle.nf_terms.specs.Forms.{sort_of_form}
use Rattle.nf_terms.specs.declared.symbols.Sort.{Sort}
use Rattle.nf_terms.specs.declared.form.Nf.{Nf}
use Rattle.cert_terms.specs.declared.names.Places.{Places}
use Rattle.cert_terms.specs.declared.repeats.ReadText.{ReadText}
use Rattle.cert_terms.specs.TextFunctions.{meanings_by}
use Rattle.cert_terms.specs.CertificateNames.{sort_at}
use Rattle.cert_terms.specs.Repeats.{IsReadAs, last_at, AreLast}
use Rattle.cert_terms.specs.View.{find_of}
use Rattle.cert_terms.specs.Within.{FormWithin}

abbrev All : (ℕ → ReadText → Type 0) → List (Option ReadText) → Type 0
All P rs = (k : ℕ) (r : ReadText) → last_at rs k ≡ Some r → P k r

put_one : (P : ℕ → ReadText → Type 0) (rs : List (Option ReadText)) (k : ℕ) (r : ReadText) → All P rs → P k r → All P (set rs k (Some r))
put_one P [] k r h p j s e = absurd (cc e)
put_one P (x ∷ xs) zero r h p zero s e = let q : r ≡ s = cc e in subst (P zero) q p
put_one P (x ∷ xs) zero r h p (suc j) s e = h (suc j) s e
put_one P (x ∷ xs) (suc k) r h p zero s e = h zero s e
put_one P (x ∷ xs) (suc k) r h p (suc j) s e = put_one (λ i. P (suc i)) xs k r (λ i t f. h (suc i) t f) p j s e

-- what a text is read as
pub read_as : (t : Places) (k : ℕ) (s : Sort) (bytes text : List ℕ) (made f : Nf) → s ≡ sort_at t.positions.now k → bytes ≡ text
    → (meanings_by (find_of t)).term s bytes ≡ Ok made → sort_of_form made ≡ s → FormWithin (find_of t) made → f ≡ made → IsReadAs t k text f
read_as t k s bytes text made f is same told sort within shared = record {
  told = (λ j. (meanings_by (find_of t)).term (sym is j) (sym same j)) ∙ told ∙ ap Ok (sym shared);
  sort = ap sort_of_form shared ∙ sort ∙ is;
  within = subst (FormWithin (find_of t)) (sym shared) within;
}

-- a text that is read now is the last one at its place
pub read_now : (t : Places) (rs : List (Option ReadText)) (k : ℕ) (text : List ℕ) (f : Nf) (r : ReadText) → AreLast t rs → IsReadAs t k text f
    → string_bytes r.text ≡ text → r.form ≡ f → AreLast t (set rs k (Some r))
read_now t rs k text f r h p e g =
    let now = subst (λ x. IsReadAs t k x r.form) (sym e) (subst (IsReadAs t k text) (sym g) p) in
    record { count = length-set rs k (Some r) ∙ h.count; read = put_one (λ j q. IsReadAs t j (string_bytes q.text) q.form) rs k r h.read now }

-- a text that was read last at a place is read again
pub read_again : (t : Places) (rs : List (Option ReadText)) (k : ℕ) (r : ReadText) (text : List ℕ) (f : Nf) → AreLast t rs → last_at rs k ≡ Some r
    → bytes_eq (string_bytes r.text) text ≡ true → f ≡ r.form → IsReadAs t k text f
read_again t rs k r text f h e b g =
    subst (IsReadAs t k text) (sym g) (subst (λ x. IsReadAs t k x r.form) (same_text (string_bytes r.text) text (sym b)) (h.read k r e))

-- ---- no text at any place

abbrev pub AreNone : List (Option ReadText) → Type 0
AreNone [] = Unit {0}
AreNone (None ∷ rs) = AreNone rs
AreNone (Some r ∷ rs) = ⊥

pub append_keeps_none : (rs : List (Option ReadText)) → AreNone rs → AreNone (rs ++ None ∷ [])
append_keeps_none [] h = tt
append_keeps_none (None ∷ rs) h = append_keeps_none rs h
append_keeps_none (Some r ∷ rs) h = absurd h

none_there : (P : ℕ → ReadText → Type 0) (rs : List (Option ReadText)) → AreNone rs → All P rs
none_there P [] h k r e = absurd (cc e)
none_there P (None ∷ rs) h zero r e = absurd (cc e)
none_there P (None ∷ rs) h (suc k) r e = none_there (λ i. P (suc i)) rs h k r e
none_there P (Some s ∷ rs) h k r e = absurd h

pub none_read : (t : Places) (rs : List (Option ReadText)) → AreNone rs → length rs ≡ length t.positions.now → AreLast t rs
none_read t rs h c = record { count = c; read = none_there (λ j s. IsReadAs t j (string_bytes s.text) s.form) rs h }
