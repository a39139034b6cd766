-- What a trimmed value says of the bytes that it was read from.
use Rattle.std.proofs.Common.{◌≡◌, ℕ, List, true, false, Some, sym, ap, ◌∙◌}
use Rattle.std.specs.Prelude.{IsUtf8}
use Rattle.serde_json.specs.Data.{Data}
use Rattle.serde_json.specs.Read.{read}
use Rattle.cert_values.specs.Shape.{is_file, has_too_many}
use Rattle.cert_json.specs.Trim.{trim}
use Rattle.cert_json.specs.declared.level.Level.TheVariants.{File}
use Rattle.cert_json.specs.Refusals.{IsShortFileOf, HasOtherShape, HasTooMany}
use Rattle.cert_json.proofs.TrimLaws.{trim-is_file, trim-has_too_many}

pub other_shape : (bytes : List ℕ) (d v : Data) → IsUtf8 bytes → read bytes ≡ Some d → v ≡ trim File d → is_file v ≡ false → HasOtherShape bytes
other_shape bytes d v text is e h = record { value = d; json = record { text = text; value = is }; shape = sym (trim-is_file d) ∙ ap is_file (sym e) ∙ h }

pub too_many : (bytes : List ℕ) (d v : Data) → IsUtf8 bytes → read bytes ≡ Some d → v ≡ trim File d → is_file v ≡ true → has_too_many v ≡ true
    → HasTooMany bytes
too_many bytes d v text is e h many =
    let shape : is_file d ≡ true = sym (trim-is_file d) ∙ ap is_file (sym e) ∙ h in
    record { value = d; json = record { text = text; value = is }; shape = shape; many = sym (trim-has_too_many d shape) ∙ ap has_too_many (sym e) ∙ many }

pub short_file : (bytes : List ℕ) (d v : Data) → IsUtf8 bytes → read bytes ≡ Some d → v ≡ trim File d → is_file v ≡ true → has_too_many v ≡ false
    → IsShortFileOf bytes v
short_file bytes d v text is e h few =
    let shape : is_file d ≡ true = sym (trim-is_file d) ∙ ap is_file (sym e) ∙ h in
    let small : has_too_many d ≡ false = sym (trim-has_too_many d shape) ∙ ap has_too_many (sym e) ∙ few in
    record { value = d; file = record { json = record { text = text; value = is }; shape = shape; few = small }; short = e; shape = h; few = few }
