-- Texts that were read last at places, with the forms that they stand for.
use Rattle.std.specs.Prelude.{◌≡◌, ℕ, List, length, Option, Some, Ok, option_and_then, slice_get, string_bytes}
use Rattle.nf_terms.specs.Forms.{sort_of_form}
use Rattle.nf_terms.specs.declared.form.Nf.{Nf}
use Rattle.cert_terms.specs.declared.names.Places.{Places}
use Rattle.cert_terms.specs.declared.repeats.ReadText.{ReadText}
use Rattle.cert_terms.specs.TextFunctions.{meanings_by}
use Rattle.cert_terms.specs.CertificateNames.{sort_at}
use Rattle.cert_terms.specs.View.{find_of}
use Rattle.cert_terms.specs.Within.{FormWithin}

-- a text at a place stands for a form
pub record IsReadAs (t : Places) (k : ℕ) (text : List ℕ) (f : Nf) : Type 0 where
  pub told : (meanings_by (find_of t)).term (sort_at t.positions.now k) text ≡ Ok f
  pub sort : sort_of_form f ≡ sort_at t.positions.now k
  pub within : FormWithin (find_of t) f

-- the text at a place, if there is one
abbrev pub last_at : List (Option ReadText) → ℕ → Option ReadText
last_at rs k = option_and_then (λ o. o) (slice_get rs k)

-- for each position the text that was read last at its place, if there is one, with its form
pub record AreLast (t : Places) (rs : List (Option ReadText)) : Type 0 where
  pub count : length rs ≡ length t.positions.now
  pub read : (k : ℕ) (r : ReadText) → last_at rs k ≡ Some r → IsReadAs t k (string_bytes r.text) r.form
