use Rattle.std.proofs.Common.{option_map, sym, ap, ◌∙◌}
use Rattle.std.specs.Prelude.{is_some}
use Rattle.json.specs.Reads.{token_of}
use Rattle.serde_json.specs.Find.{as_str}
use Rattle.serde_json.specs.Read.{number_of}
use Rattle.cert_json.specs.Tokens.{data_of}
use Rattle.cert_json.proofs.Opened.{number_in_range, number_past_range}
use Rattle.cert_json.proofs.skip.is_text.Goals as goal

pub returns-then-is_in_range : goal.returns-then-is_in_range
returns-then-is_in_range c = number_in_range (number_of c.in-Number.text.now) (sym c.if-is_in_range.ensures)
    ∙ ap (λ k. option_map (λ d. is_some (as_str d)) (data_of (token_of k))) (sym c.in-Number.is)

pub returns-else-is_in_range : goal.returns-else-is_in_range
returns-else-is_in_range c = number_past_range (number_of c.in-Number.text.now) (sym c.if-is_in_range.ensures)
    ∙ ap (λ k. option_map (λ d. is_some (as_str d)) (data_of (token_of k))) (sym c.in-Number.is)
