use Rattle.std.proofs.Common.{◌+◌, ◌∷◌, [], None, ap, subst, sym, ◌∙◌, length}
use Rattle.std.proofs.lemmas.List.{length-append}
use Rattle.cert_terms.proofs.Repeated.{AreNone, append_keeps_none}
use Rattle.cert_terms.proofs.repeats.none_read.Goals as goal

pub loop-preserved : goal.loop-preserved
loop-preserved c =
    let old = c.loop.last.items in
    record {
      none = subst AreNone (sym c.in_ok-push.ensures.items) (append_keeps_none old c.loop.invariant.none);
      count = ap length c.in_ok-push.ensures.items ∙ length-append old (None ∷ []) ∙ ap (λ k. k + 1) c.loop.invariant.count;
    }
