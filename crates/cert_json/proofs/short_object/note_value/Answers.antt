use Rattle.std.proofs.Common.{sym, ◌∙◌, subst}
use Rattle.serde_json.specs.Data.{put}
use Rattle.cert_json.specs.Objects.{TellsOthers}
use Rattle.cert_json.proofs.Others.{taken_out, left_out, put_in}
use Rattle.cert_json.proofs.short_object.note_value.Goals as goal

pub returns-then-is_text-clause-others : goal.returns-then-is_text-clause-others
returns-then-is_text-clause-others c ms d is h =
    let object = c.args.object.now in
    taken_out c.args.name.now d ms object.is_partial object.others.keys c.remove.new.self.keys h c.remove.ensures.keys
    c.remove.ensures.updates.1 (is ∙ c.if-is_text.true)

pub returns-then-len-ge16-clause-others : goal.returns-then-len-ge16-clause-others
returns-then-len-ge16-clause-others c ms d is h =
    let object = c.args.object.now in
    left_out c.args.name d ms object.others.keys object.is_partial h (is ∙ c.if-is_text.false)

pub returns-clause-others : goal.returns-clause-others
returns-clause-others c ms d is h =
    let object = c.args.object.now in
    let k = c.args.name in
    subst (λ ns. TellsOthers (put k.now d ms) ns object.is_partial) (sym c.in_ok-insert.ensures.keys)
    (put_in k d ms object.others.keys object.is_partial h (is ∙ c.if-is_text.false))
