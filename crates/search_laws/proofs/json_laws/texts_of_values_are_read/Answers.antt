use Rattle.search_laws.proofs.Utf8.{is_json}
use Rattle.search_laws.proofs.json_laws.texts_of_values_are_read.Goals as goal

pub returns : goal.returns
returns c = is_json
