use Rattle.std.proofs.Common.{sym, ◌∙◌, arith}
use Rattle.cert_values.specs.View.{members_view}
use Rattle.cert_values.proofs.Views.{members_len-members_view}
use Rattle.cert_json.proofs.FirstNames.{popped, first_members_all}
use Rattle.cert_json.proofs.short_object.cut.Goals as goal

pub loop-found-preserved : goal.loop-found-preserved
loop-found-preserved c =
    let took = c.pop_last.ensures in
    popped 385 c.pop_last.result c.loop-found.found.entries c.pop_last.new.self.entries took.variant took.removal took.len (omega arith)
    ∙ c.loop-found.invariant

pub returns : goal.returns
returns c =
    let es = c.loop-found.found.entries in
    sym (first_members_all 385 (members_view es) (omega (arith, members_len-members_view es))) ∙ c.loop-found.invariant
