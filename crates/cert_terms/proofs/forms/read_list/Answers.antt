use Rattle.std.proofs.Common.{rules, ◌≡◌, Err}
use Rattle.nf_terms.specs.declared.symbols.Sort.TheVariants as sort
use Rattle.cert_terms.proofs.Symbols.{list_within}
use Rattle.cert_terms.proofs.Told.{list_told, term_refused}
use Rattle.cert_terms.proofs.forms.read_list.Goals as goal

pub returns-in_err-read_seq-clause-told : goal.returns-in_err-read_seq-clause-told
returns-in_err-read_seq-clause-told g c =
    let e = c.in_err-read_seq.field-0.0 in
    let o : c.from_residual.result ≡ Err e = search rules in
    rw o (term_refused _ sort.List c.args.text.now e c.in_err-read_seq.ensures.refused)

pub returns-clause-told : goal.returns-clause-told
returns-clause-told g c = list_told _ c.args.text.now c.in_ok-read_seq.field-0 c.in_ok-read_seq.ensures.read

pub returns-clause-within : goal.returns-clause-within
returns-clause-within g c = list_within _ c.args.text.now c.in_ok-read_seq.field-0 c.in_ok-read_seq.ensures.read
