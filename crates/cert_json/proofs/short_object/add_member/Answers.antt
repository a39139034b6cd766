use Rattle.std.proofs.Common.{sym, ap, ◌∙◌}
use Rattle.std.proofs.lemmas.Result.{on_ok_weaker}
use Rattle.cert_values.specs.View.{view, members_view}
use Rattle.cert_json.specs.Trim.{first_names}
use Rattle.cert_json.proofs.ObjectLaws.{first_added, any_added}
use Rattle.cert_json.proofs.short_object.add_member.Goals as goal

pub returns-then-not-keeps_first-clause-short : goal.returns-then-not-keeps_first-clause-short
returns-then-not-keeps_first-clause-short c =
    let object = c.args.object.now in
    on_ok_weaker c.put_member.result
    (λ is ms h. any_added c.args.level c.args.name.now (view c.args.member) ms object _ (sym c.if-not-keeps_first.ensures) is h) c.put_member.ensures

pub returns-then-not-keeps_first-clause-whole : goal.returns-then-not-keeps_first-clause-whole
returns-then-not-keeps_first-clause-whole c = on_ok_weaker c.put_member.result (λ _ _ none. none) c.put_member.ensures

pub returns-clause-short : goal.returns-clause-short
returns-clause-short c =
    let k = c.args.name.now in
    let d = view c.args.member in
    on_ok_weaker c.note_value.result (λ noted ms h. first_added c.args.level k d ms c.args.object.now _ (sym c.if-not-keeps_first.ensures)
    (ap (λ m. first_names (members_view m.entries)) c.note_value.ensures.members ∙ c.in_ok-put_first.ensures)
    (noted ms d (sym c.is_string-is_text.ensures)) h)
    c.note_value.ensures.others

pub returns-clause-whole : goal.returns-clause-whole
returns-clause-whole c = on_ok_weaker c.note_value.result (λ _. c.note_value.ensures.whole) c.note_value.ensures.others
