use Rattle.std.proofs.lemmas.Result.{IfOk-weaker}
use Rattle.nf_rel.specs.View.{literal_in}
use Rattle.cert_terms.proofs.Symbols.{literal_is_within, literal_kept}
use Rattle.cert_terms.proofs.Told.{condition_tells}
use Rattle.cert_terms.proofs.forms.condition_of.Goals as goal

pub returns-clause-told : goal.returns-clause-told
returns-clause-told g c = condition_tells literal_in _ c.args.text.now c.read_literal.result c.read_literal.ensures.read c.read_literal.ensures.refused

pub returns-clause-kept : goal.returns-clause-kept
returns-clause-kept g c = IfOk-weaker c.read_literal.result _ _ (λ l h. literal_kept _ c.args.text.now (literal_in l) h) c.read_literal.ensures.read

pub returns-clause-within : goal.returns-clause-within
returns-clause-within g c = IfOk-weaker c.read_literal.result _ _ (λ l h. literal_is_within _ c.args.text.now (literal_in l) h) c.read_literal.ensures.read
