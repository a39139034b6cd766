use Rattle.std.proofs.Common.{refl, sym, ap, ◌∙◌}
use Rattle.std.proofs.lemmas.Bool.{false≢true}
use Rattle.serde_json.specs.Data.{object}
use Rattle.cert_json.proofs.ObjectLaws.{kept_object, short_is}
use Rattle.cert_json.proofs.Others.{some_other, none_other}
use Rattle.cert_json.proofs.short_object.close_object.Goals as goal

pub returns-then-not-keeps_first-clause-value : goal.returns-then-not-keeps_first-clause-value
returns-then-not-keeps_first-clause-value c ms h few = kept_object c.args.level c.args.object.now ms (sym c.if-not-keeps_first.ensures) h few

pub returns-then-not-is_empty-clause-value : goal.returns-then-not-is_empty-clause-value
returns-then-not-is_empty-clause-value c ms h few =
    let first = sym c.if-not-keeps_first.ensures in
    sym (some_other ms _ _ (h.others first) (λ none. false≢true (c.if-not-is_empty.ensures.1 none))) ∙ short_is c.args.level ms first

pub returns-clause-value : goal.returns-clause-value
returns-clause-value c ms h few =
    let first = sym c.if-not-keeps_first.ensures in
    ap object (c.cut.ensures ∙ h.first) ∙ sym (none_other ms _ _ h.ascending (h.others first) (c.if-not-is_empty.ensures.0 refl) c.if-object.false)
    ∙ short_is c.args.level ms first
