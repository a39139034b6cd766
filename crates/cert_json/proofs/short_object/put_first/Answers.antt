use Rattle.std.proofs.Common.{ap, ◌∙◌}
use Rattle.std.proofs.lemmas.Result.{on_ok_weaker}
use Rattle.cert_values.specs.View.{members_view}
use Rattle.cert_json.specs.Trim.{first_names}
use Rattle.cert_json.proofs.FirstNames.{first_twice}
use Rattle.cert_json.proofs.short_object.put_first.Goals as goal

pub returns : goal.returns
returns c = on_ok_weaker c.put_member-put.result
    (λ put. ap first_names c.cut.ensures ∙ first_twice 385 (members_view c.put_member-put.new.found.entries) ∙ ap first_names put)
    c.put_member-put.ensures
