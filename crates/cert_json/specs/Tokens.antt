-- What a token of JSON begins, and the value that it is by itself.
use Rattle.std.specs.Prelude.{Bool, true, false, Option, Some, None, option_map, Result, Ok, Err}
use Rattle.json.specs.Token.{Token}
use Rattle.serde_json.specs.Data.{Data, null, boolean, number, string}
use Rattle.serde_json.specs.Read.{number_of}
use Rattle.cert_json.specs.declared.trim.Fault.{Fault}
use Rattle.cert_json.specs.declared.trim.Fault.TheVariants.{NotJson}

abbrev pub begins_list : Token → Bool
begins_list Token.begin_object = false
begins_list Token.end_object = false
begins_list Token.begin_array = true
begins_list Token.end_array = false
begins_list (Token.key s) = false
begins_list (Token.string s) = false
begins_list (Token.number s) = false
begins_list (Token.boolean b) = false
begins_list Token.null = false
begins_list Token.bad = false

abbrev pub begins_object : Token → Bool
begins_object Token.begin_object = true
begins_object Token.end_object = false
begins_object Token.begin_array = false
begins_object Token.end_array = false
begins_object (Token.key s) = false
begins_object (Token.string s) = false
begins_object (Token.number s) = false
begins_object (Token.boolean b) = false
begins_object Token.null = false
begins_object Token.bad = false

-- the value of a token that begins neither
abbrev pub data_of : Token → Option Data
data_of Token.begin_object = None
data_of Token.end_object = None
data_of Token.begin_array = None
data_of Token.end_array = None
data_of (Token.key s) = None
data_of (Token.string s) = Some (string s)
data_of (Token.number s) = option_map number (number_of s)
data_of (Token.boolean b) = Some (boolean b)
data_of Token.null = Some null
data_of Token.bad = None

-- where there is none, the text is not JSON
abbrev pub data_or_fault : Option Data → Result Data Fault
data_or_fault None = Err NotJson
data_or_fault (Some d) = Ok d
