-- A run has one trace.
use Rattle.std.proofs.Common.{◌≡◌, ℕ, ◌+◌, ◌-◌, ◌≤◌, ◌<◌, sym, ◌∙◌, ap, arith}
use Rattle.fs_model.specs.Machines.{Fsmd}
use Rattle.fs_model.specs.Runs.{Inputs, start}
use Rattle.fs_model.proofs.Determined.{goes_once}
use Rattle.fs_model.proofs.Ranges.{stays_less}
use Rattle.fs_runs.specs.Outcomes.{LeavesRange}
use Rattle.fs_runs.proofs.RunOnce.{goes_on}
use Rattle.show_traces.specs.Traces.{IsLast, Returns, AtLimit, Leaves, first_place, steps_text}
use Rattle.show_traces.specs.TraceLaws.{OneTrace}

-- the first step that leaves the range is one
not_before : (m : Fsmd) (ins : Inputs) (limit n k : ℕ) → LeavesRange m ins limit (n + 1) → LeavesRange m ins limit (k + 1) → n < k → ⊥
not_before m ins limit n k a b less = a.here (stays_less m (n + 1) (k + 1 - 1) m.reset (start m ins) (omega arith) b.before)

-- how many steps a run takes within a limit is one number
one_count : (m : Fsmd) (ins : Inputs) (limit n k : ℕ) → n ≤ limit → k ≤ limit → IsLast m ins limit n → IsLast m ins limit k → n ≡ k
one_count m ins limit n k x y (Returns g r) (Returns h s) = (goes_once m m.reset (start m ins) _ _ n k g h).0
one_count m ins limit n k x y (Returns g r) (AtLimit f s) = absurd (s.no_return n _ x g)
one_count m ins limit n k x y (Returns g r) (Leaves b) = absurd (b.here (goes_on m (k + 1) n m.reset (start m ins) _ g r))
one_count m ins limit n k x y (AtLimit e r) (Returns h s) = absurd (r.no_return k _ y h)
one_count m ins limit n k x y (AtLimit e r) (AtLimit f s) = e ∙ sym f
one_count m ins limit n k x y (AtLimit e r) (Leaves b) = absurd (b.here (stays_less m (k + 1) limit m.reset (start m ins) b.within r.in_range))
one_count m ins limit n k x y (Leaves a) (Returns h s) = absurd (a.here (goes_on m (n + 1) k m.reset (start m ins) _ h s))
one_count m ins limit n k x y (Leaves a) (AtLimit f s) = absurd (a.here (stays_less m (n + 1) limit m.reset (start m ins) a.within s.in_range))
one_count m ins limit n k x y (Leaves a) (Leaves b) =
    let here : n < k → ⊥ = not_before m ins limit n k a b in
    let there : k < n → ⊥ = not_before m ins limit k n b a in
    omega arith

pub one_trace : OneTrace
one_trace m ins limit t u a b =
    a.told ∙ ap (λ n. steps_text m n (first_place m ins)) (one_count m ins limit a.steps b.steps a.within b.within a.last b.last) ∙ sym b.told
