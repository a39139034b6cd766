-- Why a file is refused.
use Rattle.cert_json.specs.declared.faults.FileError.{FileError}
use Rattle.cert_json.specs.declared.faults.FileError.TheVariants as file
use Rattle.cert_facts.specs.declared.faults.CertError.{CertError}
use Rattle.cert_facts.specs.declared.faults.CertError.TheVariants as errors
use Rattle.cert_facts.specs.declared.faults.Stop.{Stop}
use Rattle.cert_facts.specs.declared.faults.Stop.TheVariants as stop

-- why a file is refused, before its nodes are looked at, and for them
abbrev pub error_of_file : FileError → CertError
error_of_file file.NotJson = errors.NotJson
error_of_file file.Shape = errors.Shape
error_of_file file.TooMany = errors.TooMany
error_of_file file.NoMemory = errors.NoMemory

abbrev pub error_of : Stop → CertError
error_of (stop.Refused e) = e
error_of stop.NoMemory = errors.NoMemory
