use Rattle.cert_terms.proofs.Repeated.{read_as}
use Rattle.cert_terms.proofs.repeats.read_new.Goals as goal

pub keep-requires-clause-read : goal.keep-requires-clause-read
keep-requires-clause-read c =
    read_as c.args.places.now c.args.place _ _ c.args.text.now _ _ c.sort_at-sort.ensures c.as_bytes.ensures.value c.in_ok-term_of.ensures.told
    c.in_ok-term_of.ensures.sort c.in_ok-term_of.ensures.within c.in_ok-form.ensures

pub returns-clause-told : goal.returns-clause-told
returns-clause-told c =
    (read_as c.args.places.now c.args.place _ _ c.args.text.now _ _ c.sort_at-sort.ensures c.as_bytes.ensures.value c.in_ok-term_of.ensures.told
    c.in_ok-term_of.ensures.sort c.in_ok-term_of.ensures.within c.in_ok-form.ensures).told

pub returns-clause-sort : goal.returns-clause-sort
returns-clause-sort c =
    (read_as c.args.places.now c.args.place _ _ c.args.text.now _ _ c.sort_at-sort.ensures c.as_bytes.ensures.value c.in_ok-term_of.ensures.told
    c.in_ok-term_of.ensures.sort c.in_ok-term_of.ensures.within c.in_ok-form.ensures).sort

pub returns-clause-within : goal.returns-clause-within
returns-clause-within c =
    (read_as c.args.places.now c.args.place _ _ c.args.text.now _ _ c.sort_at-sort.ensures c.as_bytes.ensures.value c.in_ok-term_of.ensures.told
    c.in_ok-term_of.ensures.sort c.in_ok-term_of.ensures.within c.in_ok-form.ensures).within
