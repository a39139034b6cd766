-- What bytes are as the JSON of a certificate, and why they are refused.
use Rattle.std.specs.Prelude.{◌≡◌, ℕ, true, false, List}
use Rattle.serde_json.specs.Data.{Data}
use Rattle.base_json_files.specs.Json.{IsJson, IsNotJson}
use Rattle.cert_json.specs.declared.faults.FileError.{FileError}
use Rattle.cert_json.specs.declared.faults.FileError.TheVariants.{NotJson, Shape, TooMany, NoMemory}
use Rattle.cert_json.specs.declared.level.Level.TheVariants.{File}
use Rattle.cert_values.specs.Shape.{is_file, has_too_many}
use Rattle.cert_json.specs.Trim.{trim}

-- the bytes are JSON of a value that has the form of a certificate and is within the limits
pub record IsFileOf (bytes : List ℕ) (d : Data) : Type 0 where
  pub json : IsJson bytes d
  pub shape : is_file d ≡ true
  pub few : has_too_many d ≡ false

-- the bytes are JSON of a value that has the form of a certificate and is within the limits, and this is that value with
-- the first equations of each node alone
pub record IsShortFileOf (bytes : List ℕ) (v : Data) : Type 0 where
  pub value : Data
  pub file : IsFileOf bytes value
  pub short : v ≡ trim File value
  pub shape : is_file v ≡ true
  pub few : has_too_many v ≡ false

-- the bytes are JSON of a value of another form
pub record HasOtherShape (bytes : List ℕ) : Type 0 where
  pub value : Data
  pub json : IsJson bytes value
  pub shape : is_file value ≡ false

-- the bytes are JSON of a value that has the form of a certificate, and too many nodes or conditions
pub record HasTooMany (bytes : List ℕ) : Type 0 where
  pub value : Data
  pub json : IsJson bytes value
  pub shape : is_file value ≡ true
  pub many : has_too_many value ≡ true

-- why bytes are refused; out of memory may come at any time
abbrev pub IsRefusedAsShape : List ℕ → FileError → Type 0
IsRefusedAsShape bytes NotJson = IsNotJson bytes
IsRefusedAsShape bytes Shape = HasOtherShape bytes
IsRefusedAsShape bytes TooMany = HasTooMany bytes
IsRefusedAsShape bytes NoMemory = Unit {0}
