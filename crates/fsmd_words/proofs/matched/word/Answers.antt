use Rattle.std.proofs.Common.{◌∙◌, rules}
use Rattle.std.proofs.lemmas.Result.{IfOk-weaker}
use Rattle.clap.specs.Words.{found_of}
use Rattle.fsmd_words.proofs.Matches.{word_some, word_none}
use Rattle.fsmd_words.proofs.matched.word.Goals as goal

pub returns-in-Some : goal.returns-in-Some
returns-in-Some c =
    IfOk-weaker c.from_str.result _ _ (λ word e. e ∙ word_some (found_of c.args.found.now) c.args.id.now c.in-Some.text.now (search rules))
    c.from_str.ensures.ok

pub returns-in-None : goal.returns-in-None
returns-in-None c = c.new.ensures.bytes ∙ word_none (found_of c.args.found.now) c.args.id.now (search rules)
