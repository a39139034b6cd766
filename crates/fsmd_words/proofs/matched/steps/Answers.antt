use Rattle.std.proofs.Common.{◌∙◌, arith, codes}
use Rattle.std.specs.Str.Parse.{ParsesUnsigned, ExplainsUnsignedError, HasUnsignedDigitsIfOk}
use Rattle.clap.specs.Words.{found_of}
use Rattle.fsmd_words.proofs.Numbers.{number_read}
use Rattle.fsmd_words.proofs.matched.steps.Goals as goal

pub returns : goal.returns
returns c =
    c.steps_in_range.ensures ∙ number_read 64 1 100000 10000 (omega arith) (omega arith) (found_of c.args.found.now) (codes "steps")
    (λ bs r. ParsesUnsigned 64 10 bs r × ExplainsUnsignedError 10 bs r × HasUnsignedDigitsIfOk bs r)
    c.get_one.result c.get_one.ensures.none c.get_one.ensures.value (λ u x g. g.0)
