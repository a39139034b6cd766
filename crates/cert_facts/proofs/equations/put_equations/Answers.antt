use Rattle.std.proofs.Common.{rules, ◌≡◌, Err}
use Rattle.cert_facts.specs.View.{terms_in}
use Rattle.cert_facts.proofs.NodeParts.{equations_stop, equations_more}
use Rattle.cert_facts.proofs.equations.put_equations.Goals as goal

pub returns-in_err-put_equation-clause-told : goal.returns-in_err-put_equation-clause-told
returns-in_err-put_equation-clause-told c =
    let o : c.from_residual.result ≡ Err c.in_err-put_equation.field-0.0 = search rules in
    rw o
    (equations_stop (terms_in c.args.places.now) c.args.node _ c.loop-key.forms.items _ _ _ _ c.in-Some.ensures.steps c.loop-key.invariant.rest _ _
    c.as_bytes.ensures.value c.text_of.ensures c.in_err-put_equation.field-0.0 c.in_err-put_equation.ensures.told)

pub loop-key-preserved : goal.loop-key-preserved
loop-key-preserved c = record {
  rest = equations_more (terms_in c.args.places.now) c.args.node _ c.loop-key.forms.items _ _ _ _ c.in-Some.ensures.steps c.loop-key.invariant.rest _ _
      c.as_bytes.ensures.value c.text_of.ensures c.put_equation.new.forms.items c.in_ok-put_equation.ensures.told;
  kept = c.in_ok-put_equation.ensures.kept;
  last = c.in_ok-put_equation.ensures.last;
}
