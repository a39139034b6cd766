use Rattle.std.proofs.Common.{ap, ◌∙◌}
use Rattle.cert_values.proofs.Views.{members_view-insert_entry}
use Rattle.cert_values.specs.View.{members_view}
use Rattle.cert_json.proofs.short_object.insert_member.Goals as goal

pub returns : goal.returns
returns c = ap members_view c.in_ok-insert.ensures.entries ∙ members_view-insert_entry c.args.found.now.entries c.args.name c.args.member
