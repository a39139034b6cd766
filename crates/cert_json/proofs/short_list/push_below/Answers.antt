use Rattle.std.proofs.Common.{ap, ◌∙◌, arith}
use Rattle.cert_values.specs.View.{items_view}
use Rattle.cert_json.proofs.ListLaws.{more_below, none_below}
use Rattle.cert_json.proofs.short_list.push_below.Goals as goal

pub returns-in_ok-push : goal.returns-in_ok-push
returns-in_ok-push c = ap items_view c.in_ok-push.ensures.items ∙ more_below c.args.items.now.items c.args.value c.args.most (omega arith)

pub returns-else-len-most : goal.returns-else-len-most
returns-else-len-most c = none_below c.args.items.now.items c.args.value c.args.most (omega arith)
