use Rattle.std.proofs.Common.{◌≡◌, ◌∙◌, rules, string_bytes, Some, ap}
use Rattle.clap.specs.Words.{found_of, first_value}
use Rattle.clap.proofs.WalkLemmas.{first_value-rows}
use Rattle.fsmd_words.proofs.matched.optional_word.Goals as goal

pub returns-in_ok-from_str-in-Some : goal.returns-in_ok-from_str-in-Some
returns-in_ok-from_str-in-Some c =
    let same : string_bytes c.in_ok-from_str-in-Some.field-0 ≡ c.in-Some.text.now = search rules in
    let value : Some c.in-Some.text.now ≡ first_value (found_of c.args.found.now) c.args.id.now = search rules in
    ap (λ t. Some t) same ∙ value ∙ first_value-rows (found_of c.args.found.now) c.args.id.now

pub returns-in-None : goal.returns-in-None
returns-in-None c = c.in-None.ensures ∙ first_value-rows (found_of c.args.found.now) c.args.id.now
