use Rattle.std.proofs.Common.{◌≡◌, ◌∙◌, [], List, String, Global, ap, map, rules, string_bytes}
use Rattle.std.proofs.lemmas.Result.{IfOk-weaker}
use Rattle.clap.specs.Words.{found_of}
use Rattle.fsmd_words.proofs.Matches.{words_some, words_none}
use Rattle.fsmd_words.proofs.matched.words.Goals as goal

pub returns-in-Some : goal.returns-in-Some
returns-in-Some c =
    IfOk-weaker c.copies.result _ _ (λ words e. e ∙ words_some (found_of c.args.found.now) c.args.id.now _ (search rules)) c.copies.ensures

pub returns-in-None : goal.returns-in-None
returns-in-None c =
    let empty : c.new.result.items ≡ [] = search rules in
    ap (λ (words : List (String Global)). map string_bytes words) empty ∙ words_none (found_of c.args.found.now) c.args.id.now (search rules)
