use Rattle.std.proofs.Common.{◌∙◌, ◌+◌, ap, length, List}
use Rattle.std.specs.List.{slice_index_or}
use Rattle.std.proofs.lemmas.List.{length_push}
use Rattle.hls_sched.specs.declared.arrivals.Arrivals.{Arrivals}
use Rattle.hls_sched.specs.declared.arrivals.Arrivals.TheVariants as variants
use Rattle.hls_sched.proofs.Copied.{same_pushed}
use Rattle.hls_sched.proofs.arrivals.none_noted.Goals as goal

pub none-preserved : goal.none-preserved
none-preserved c =
    record {
      count = ap length c.in_ok-push.ensures.items ∙ length_push c.none.table.items variants.Never ∙ ap (λ k. k + 1) c.none.invariant.count;
      none = λ r. ap (λ (xs : List Arrivals). slice_index_or xs r variants.Never) c.in_ok-push.ensures.items
          ∙ same_pushed variants.Never c.none.table.items c.none.invariant.none r;
    }
