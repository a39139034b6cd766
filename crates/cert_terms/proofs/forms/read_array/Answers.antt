use Rattle.std.proofs.Common.{rules, ◌≡◌, Err}
use Rattle.nf_terms.specs.declared.symbols.Sort.TheVariants as sort
use Rattle.cert_terms.proofs.Symbols.{array_within}
use Rattle.cert_terms.proofs.Told.{array_told, term_refused}
use Rattle.cert_terms.proofs.forms.read_array.Goals as goal

pub returns-in_err-read_arr-clause-told : goal.returns-in_err-read_arr-clause-told
returns-in_err-read_arr-clause-told g c =
    let e = c.in_err-read_arr.field-0.0 in
    let o : c.from_residual.result ≡ Err e = search rules in
    rw o (term_refused _ sort.Array c.args.text.now e c.in_err-read_arr.ensures.refused)

pub returns-clause-told : goal.returns-clause-told
returns-clause-told g c = array_told _ c.args.text.now c.in_ok-read_arr.field-0 c.in_ok-read_arr.ensures.read

pub returns-clause-within : goal.returns-clause-within
returns-clause-within g c = array_within _ c.args.text.now c.in_ok-read_arr.field-0 c.in_ok-read_arr.ensures.read
