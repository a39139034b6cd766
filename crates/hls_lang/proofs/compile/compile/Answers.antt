use Rattle.std.proofs.Common.{rules}
use Rattle.fs_model.specs.View.{source_of}
use Rattle.fs_rules.specs.Rules.{IsFirstBroken}
use Rattle.hls_program_parts.specs.View.{program_of}
use Rattle.hls_lang.proofs.Few.{formed, not_built, not_refused}
use Rattle.hls_lang.proofs.compile.compile.Goals as goal

pub build-requires : goal.build-requires
build-requires c = formed (program_of c.args.program.now) (source_of c.in_ok-parts.parts) c.in_ok-parts.ensures c.requires.formed

pub returns-in-Ok-clause-broken : goal.returns-in-Ok-clause-broken
returns-in-Ok-clause-broken c = λ f b.
    absurd (not_built (program_of c.args.program.now) (source_of c.in_ok-parts.parts) f c.in_ok-parts.ensures b c.in-Ok.ensures.lawful)

pub returns-in-Err-Check-clause-built : goal.returns-in-Err-Check-clause-built
returns-in-Err-Check-clause-built c = λ lawful.
    let parts = source_of c.in_ok-parts.parts in
    let first : IsFirstBroken parts c.in-Err-Check.fault = search rules in
    absurd (not_refused (program_of c.args.program.now) parts c.in-Err-Check.fault c.in_ok-parts.ensures lawful first)
