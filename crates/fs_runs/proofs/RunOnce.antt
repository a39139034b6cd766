-- A run of a machine on inputs has one outcome.
use Rattle.std.proofs.Common.{◌≡◌, ℕ, zero, suc, ◌-◌, ◌<◌, List, sym, ◌∙◌, ap, arith}
use Rattle.fs_model.specs.Machines.{Fsmd}
use Rattle.fs_model.specs.Stores.{Store}
use Rattle.fs_model.specs.Runs.{Inputs, FirstReturn, start, output}
use Rattle.fs_model.specs.Touched.{StaysInRange}
use Rattle.fs_model.proofs.Determined.{goes_once}
use Rattle.fs_model.proofs.Ranges.{stays_less, after_on}
use Rattle.fs_runs.specs.declared.run.RunStop.TheVariants.{StepsOver, PastWide, NoMemory}
use Rattle.fs_runs.specs.Outcomes.{RunsOn, LeavesRange}
use Rattle.fs_runs.specs.StepLaws.{OneEnd, OneStop, EndOrStop}

-- a run that returns stays in range behind the return
pub goes_on : (m : Fsmd) (k n q : ℕ) (s t : Store) → FirstReturn m n q s t → StaysInRange m n q s → StaysInRange m k q s
goes_on m k zero q s t goes x = absurd goes
goes_on m k (suc n) q s t goes x = after_on m k n q s t goes x

-- a run that ends is not stopped
pub end_or_stop : EndOrStop
end_or_stop m ins limit o n (StepsOver k) a b told = b.1.no_return n a.run.end a.within a.run.goes
end_or_stop m ins limit o n (PastWide k) a b told = b.here (goes_on m k n m.reset (start m ins) a.run.end a.run.goes a.in_range)
end_or_stop m ins limit o n NoMemory a b told = told

-- the first step that leaves the range is one
not_before : (m : Fsmd) (ins : Inputs) (limit j k : ℕ) → LeavesRange m ins limit j → LeavesRange m ins limit k → j < k → ⊥
not_before m ins limit j k a b less = a.here (stays_less m j (k - 1) m.reset (start m ins) (omega arith) b.before)

one_step : (m : Fsmd) (ins : Inputs) (limit j k : ℕ) → LeavesRange m ins limit j → LeavesRange m ins limit k → j ≡ k
one_step m ins limit j k a b =
    let here : j < k → ⊥ = not_before m ins limit j k a b in
    let there : k < j → ⊥ = not_before m ins limit k j b a in
    omega arith

runs_on_stays : (m : Fsmd) (ins : Inputs) (limit k : ℕ) → RunsOn m ins limit → LeavesRange m ins limit k → ⊥
runs_on_stays m ins limit k a b = b.here (stays_less m k limit m.reset (start m ins) b.within a.in_range)

pub one_stop : OneStop
one_stop m ins limit (StepsOver n) (StepsOver k) a b p q = ap StepsOver (a.0 ∙ sym b.0)
one_stop m ins limit (StepsOver n) (PastWide k) a b p q = absurd (runs_on_stays m ins limit k a.1 b)
one_stop m ins limit (StepsOver n) NoMemory a b p q = absurd q
one_stop m ins limit (PastWide n) (StepsOver k) a b p q = absurd (runs_on_stays m ins limit n b.1 a)
one_stop m ins limit (PastWide n) (PastWide k) a b p q = ap PastWide (one_step m ins limit n k a b)
one_stop m ins limit (PastWide n) NoMemory a b p q = absurd q
one_stop m ins limit NoMemory y a b p q = absurd p

pub one_end : OneEnd
one_end m ins limit o p n k a b =
    let same = goes_once m m.reset (start m ins) a.run.end b.run.end n k a.run.goes b.run.goes in
    let each : (name : List ℕ) → o name ≡ p name = λ name. sym (a.run.gives name) ∙ ap (λ s. output m s name) same.1 ∙ b.run.gives name in
    ((λ j name. each name j), same.0)
