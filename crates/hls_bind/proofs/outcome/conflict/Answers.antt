use Rattle.std.proofs.Common.{◌≡◌, ◌∙◌, ap}
use Rattle.std.specs.Prelude.{map}
use Rattle.std.specs.Option.{option_map}
use Rattle.std.proofs.lemmas.Result.{IfOk-weaker}
use Rattle.hls_bind.specs.BindingEntries.{binding_entry, conflict_of}
use Rattle.hls_bind.specs.ConflictSearch.{first_conflict}
use Rattle.hls_bind.specs.Results.{IsVerdict}
use Rattle.hls_bind.proofs.Losses.{verdict_of}
use Rattle.hls_bind.proofs.outcome.conflict.Goals as goal

pub returns : goal.returns
returns c =
    let first = first_conflict (map binding_entry c.entries.result.now) c.args.m.now in
    IfOk-weaker c.first_conflict.result (λ o. option_map conflict_of o ≡ first c.as_slice.result.now)
    (λ o. IsVerdict c.args.b.now c.args.m.now (option_map conflict_of o))
    (λ o e. verdict_of c.args.m.now c.args.b.now (map binding_entry c.entries.result.now) c.in_ok-live.live.items (option_map conflict_of o)
    c.entries.ensures.entries c.vars-vars.ensures.sound c.entries.ensures.rising c.requires c.in_ok-live.ensures.count c.in_ok-live.ensures.live
    (e ∙ ap first c.as_slice.ensures.value)) c.first_conflict.ensures
