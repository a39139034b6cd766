-- A run of a machine on inputs has one text.
use Rattle.std.proofs.Common.{◌≡◌, ℕ, List, subst, inl, inr}
use Rattle.fs_model.specs.Machines.{Fsmd}
use Rattle.fs_model.specs.Runs.{Inputs}
use Rattle.fs_runs.specs.declared.run.RunStop.{RunStop}
use Rattle.fs_runs.specs.declared.run.RunStop.TheVariants.{StepsOver, PastWide, NoMemory}
use Rattle.fs_runs.specs.Outcomes.{output_names, IsStopOfRun}
use Rattle.fs_runs.proofs.RunOnce.{one_end, one_stop, end_or_stop}
use Rattle.fs_run_text.specs.declared.ends.Side.{Side}
use Rattle.fs_run_text.specs.declared.ends.Side.TheVariants.{Only}
use Rattle.fs_run_text.specs.EndTexts.{IsEndText, IsStopText}
use Rattle.fs_run_text.specs.RunTexts.{EndsAs, StopsAs}
use Rattle.fs_run_text.specs.PrintingLaws.{OneRunText}
use Rattle.fs_run_text.proofs.Once.{end_once, stop_once}

-- a stop that has a text is of the run
pub told_of_run : (side : Side) (stop : RunStop) (t : List ℕ) → IsStopText side stop t → IsStopOfRun stop
told_of_run side (StepsOver n) t told = tt
told_of_run side (PastWide k) t told = tt
told_of_run side NoMemory t told = told

one_end_text : (m : Fsmd) (ins : Inputs) (limit : ℕ) (t u : List ℕ) → EndsAs m ins limit t → EndsAs m ins limit u → t ≡ u
one_end_text m ins limit t u a b =
    let same = one_end m ins limit a.outs b.outs a.steps b.steps a.ends b.ends in
    end_once (output_names m.variables) b.outs b.steps t u
    (subst (λ n. IsEndText (output_names m.variables) b.outs n t) same.1 (subst (λ o. IsEndText (output_names m.variables) o a.steps t) same.0 a.told)) b.told

one_stop_text : (m : Fsmd) (ins : Inputs) (limit : ℕ) (t u : List ℕ) → StopsAs m ins limit t → StopsAs m ins limit u → t ≡ u
one_stop_text m ins limit t u a b =
    let same : a.stop ≡ b.stop = one_stop m ins limit a.stop b.stop a.stopped b.stopped (told_of_run Only a.stop t a.told) (told_of_run Only b.stop u b.told) in
    stop_once Only b.stop t u (subst (λ x. IsStopText Only x t) same a.told) b.told

run_that_ends_never_stops : (m : Fsmd) (ins : Inputs) (limit : ℕ) (t u : List ℕ) → EndsAs m ins limit t → StopsAs m ins limit u → ⊥
run_that_ends_never_stops m ins limit t u a b = end_or_stop m ins limit a.outs a.steps b.stop a.ends b.stopped (told_of_run Only b.stop u b.told)

pub run_once : OneRunText
run_once m ins limit t u (inl a) (inl b) = one_end_text m ins limit t u a b
run_once m ins limit t u (inl a) (inr b) = absurd (run_that_ends_never_stops m ins limit t u a b)
run_once m ins limit t u (inr a) (inl b) = absurd (run_that_ends_never_stops m ins limit u t b a)
run_once m ins limit t u (inr a) (inr b) = one_stop_text m ins limit t u a b
