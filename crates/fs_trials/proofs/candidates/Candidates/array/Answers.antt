use Rattle.std.proofs.Common.{◌≡◌, cond, rules, ◌∙◌, ap, ◌+◌, arith}
use Rattle.std.specs.Prelude.{pos, negsuc, ◌-ℤ◌, FitsSigned}
use Rattle.std.specs.Int.{w128}
use Rattle.std.specs.Ordering.{int_eq}
use Rattle.std.proofs.lemmas.Int.{to_z-of_z, ints}
use Rattle.fs_stores.specs.Values.{entry_number}
use Rattle.fs_trials.specs.Candidates.{candidate}
use Rattle.fs_trials.proofs.Given.{below_more}
use Rattle.fs_trials.proofs.candidates.Candidates.array.Goals as goal

pub loop-i-preserved : goal.loop-i-preserved
loop-i-preserved c =
    let g = candidate c.args.self.now.pool.items c.args.j in
    let whole : c.from-index.result ≡ pos c.loop-i.i = search rules in
    let below : (negsuc 0 -ℤ pos c.loop-i.i) ≡ negsuc c.loop-i.i = grind (arith, ints) in
    let same : (negsuc 0 -ℤ c.from-index.result) ≡ negsuc c.loop-i.i = ap (λ z. negsuc 0 -ℤ z) whole ∙ below in
    let inner : FitsSigned w128 c.from-index.result = search rules in
    let index : FitsSigned w128 (negsuc 0 -ℤ c.from-index.result) = search rules in
    let number : FitsSigned w128 c.number.result = search rules in
    let put = simp to_z-of_z at c.in_ok-set.ensures.set in
    let own : c.number.result ≡ g.number c.args.k (g.filled + c.loop-i.i) =
    c.number.ensures ∙ ap (λ n. g.number c.args.k (n + c.loop-i.i)) c.filled_count-filled.ensures.count in
    below_more (g.number c.args.k) g.filled c.loop-i.i c.number.result (entry_number c.loop-i.entries) (entry_number c.set.new.self) own
    (λ x. put x ∙ ap (λ z. cond (int_eq z x) c.number.result (entry_number c.loop-i.entries x)) same) c.loop-i.invariant
