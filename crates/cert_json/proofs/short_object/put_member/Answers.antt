use Rattle.std.proofs.Common.{sym, ap, ◌∙◌}
use Rattle.std.specs.Option.{option_copied_mut}
use Rattle.std.proofs.lemmas.Result.{on_ok_weaker}
use Rattle.serde_json.specs.Data.{put}
use Rattle.cert_values.specs.View.{view, members_view}
use Rattle.cert_json.proofs.Members.{written_member}
use Rattle.cert_json.proofs.short_object.put_member.Goals as goal

pub returns-in-Some : goal.returns-in-Some
returns-in-Some c =
    ap members_view (c.get_mut.follows.holds c.args.member).0
    ∙ written_member c.args.name.now c.args.member c.args.found.now.entries _ c.get_mut.ensures.ordered
    (sym c.get_mut.ensures.value ∙ ap option_copied_mut c.in-Some.is)

pub returns-in-None : goal.returns-in-None
returns-in-None c = on_ok_weaker c.insert_member-in-None.result
    (λ is. is ∙ ap (λ m. put c.args.name.now (view c.args.member) (members_view m.entries)) c.get_mut.follows.holds-at-none)
    c.insert_member-in-None.ensures
