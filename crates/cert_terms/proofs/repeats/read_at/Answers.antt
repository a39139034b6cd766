use Rattle.std.proofs.Common.{Ok, ap, sym, subst, ◌∙◌}
use Rattle.nf_terms.specs.Forms.{sort_of_form}
use Rattle.cert_terms.specs.View.{find_of}
use Rattle.cert_terms.specs.Within.{FormWithin}
use Rattle.cert_terms.proofs.repeats.read_at.Goals as goal

pub returns-in_ok-try_clone-in-Some-clause-told : goal.returns-in_ok-try_clone-in-Some-clause-told
returns-in_ok-try_clone-in-Some-clause-told c = c.in-Some.ensures.told ∙ ap Ok (sym c.in_ok-try_clone-in-Some.ensures)

pub returns-in_ok-try_clone-in-Some-clause-sort : goal.returns-in_ok-try_clone-in-Some-clause-sort
returns-in_ok-try_clone-in-Some-clause-sort c = ap sort_of_form c.in_ok-try_clone-in-Some.ensures ∙ c.in-Some.ensures.sort

pub returns-in_ok-try_clone-in-Some-clause-within : goal.returns-in_ok-try_clone-in-Some-clause-within
returns-in_ok-try_clone-in-Some-clause-within c =
    subst (FormWithin (find_of c.args.places.now)) (sym c.in_ok-try_clone-in-Some.ensures) c.in-Some.ensures.within
