-- Literals and forms of src/ as plain data.
use Rattle.std.specs.Prelude.{Result, Ok, Err}
use Rattle.nf_terms.specs.declared.stop.NfStop.{NfStop}
use Rattle.nf_rel.specs.Literals.{NormalLiteral, True, False, Is, Form, AtLeastZero, IsZero, IsNotZero}
use Rattle.nf_rel.specs.declared.literals.NLit.{NLit}
use Rattle.nf_rel.specs.declared.literals.NLit.TheVariants as code
use Rattle.nf_rel.specs.declared.normalize.Form.{Form as CodeForm}
use Rattle.nf_rel.specs.declared.normalize.Form.TheVariants as form

-- a literal
abbrev pub literal_in : NLit → NormalLiteral
literal_in code.True = True
literal_in code.False = False
literal_in (code.Is b) = Is b.dir b.kind b.bound

-- an answer with a literal
abbrev pub normal_literal_of : Result NLit NfStop → Result NormalLiteral NfStop
normal_literal_of (Ok l) = Ok (literal_in l)
normal_literal_of (Err stop) = Err stop

-- how a polynomial is compared with 0
abbrev pub form_in : CodeForm → Form
form_in form.AtLeastZero = AtLeastZero
form_in form.IsZero = IsZero
form_in form.IsNotZero = IsNotZero
