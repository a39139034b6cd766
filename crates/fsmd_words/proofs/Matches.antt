-- What the getters of clap's matches give, by the rows.
use Rattle.std.proofs.Common.{◌≡◌, ◌∙◌, ap, [], List, Option, Some, None, option_map}
use Rattle.std.specs.Prelude.{unwrap_or}
use Rattle.clap.specs.Words.{Text, first_value, matched_of, raw_values, rows_of}
use Rattle.clap.specs.declared.parser.matches.Found.{Found}
use Rattle.clap.proofs.WalkLemmas.{first_value-rows, raw_values-rows}
use Rattle.fsmd_words.specs.AskedWords.{match_word, words_of}

pub word_some : (f : Found) (id text : Text) → Some text ≡ first_value f id → text ≡ match_word id (rows_of f)
word_some f id text e = ap (λ (o : Option Text). unwrap_or o []) (e ∙ first_value-rows f id)

pub word_none : (f : Found) (id : Text) → None ≡ first_value f id → [] ≡ match_word id (rows_of f)
word_none f id e = ap (λ (o : Option Text). unwrap_or o []) (e ∙ first_value-rows f id)

pub words_some : (f : Found) (id : Text) (texts : List Text) → Some texts ≡ option_map raw_values (matched_of f id) → texts ≡ words_of id (rows_of f)
words_some f id texts e = ap (λ (o : Option (List Text)). unwrap_or o []) (e ∙ raw_values-rows f id)

pub words_none : (f : Found) (id : Text) → None ≡ option_map raw_values (matched_of f id) → [] ≡ words_of id (rows_of f)
words_none f id e = ap (λ (o : Option (List Text)). unwrap_or o []) (e ∙ raw_values-rows f id)
