-- Verdicts by their names, which do not unfold.
use Rattle.std.proofs.Common.{◌≡◌, List}
use Rattle.std.specs.Prelude.{Result, Ok, Err}
use Rattle.std.specs.Result.{OnOk, IfErr}
use Rattle.fs_model.specs.Machines.{Fsmd}
use Rattle.cert_bisimulation.specs.Tables.{Node}
use Rattle.sym_facts.specs.Facts.{Fact}
use Rattle.cert_model.specs.Obligations.{Yes, verdict_on}
use Rattle.hls_shrink.specs.declared.chain.ChainStop.{ChainStop}
use Rattle.hls_shrink.specs.ChainStops.{IsStopOf, HoldOn, StopsOn}

module _ (a b : Fsmd) (nodes : List (Node Fact)) where
  pub name_hold : {T E : Type 0} (r : Result T E) → OnOk r (verdict_on a b nodes ≡ Yes) → OnOk r (HoldOn a b nodes)
  unfolding HoldOn
  name_hold r h = h

  pub say_hold : HoldOn a b nodes → verdict_on a b nodes ≡ Yes
  unfolding HoldOn
  say_hold h = h

  pub name_stop : {T : Type 0} (r : Result T ChainStop) → IfErr r (IsStopOf (verdict_on a b nodes)) → IfErr r (StopsOn a b nodes)
  unfolding StopsOn
  name_stop (Ok x) h = tt
  name_stop (Err s) h = h

  pub say_stop : {T : Type 0} (r : Result T ChainStop) → IfErr r (StopsOn a b nodes) → IfErr r (IsStopOf (verdict_on a b nodes))
  unfolding StopsOn
  say_stop (Ok x) h = tt
  say_stop (Err s) h = h
