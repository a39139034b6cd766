use Rattle.std.proofs.Common.{◌≡◌, cond, rules, ◌∙◌, ap}
use Rattle.std.specs.Prelude.{pos, FitsSigned}
use Rattle.std.specs.Int.{w128}
use Rattle.std.specs.Ordering.{int_eq}
use Rattle.std.proofs.lemmas.Int.{to_z-of_z}
use Rattle.fs_stores.specs.Values.{entry_number}
use Rattle.fs_trials.specs.Candidates.{candidate}
use Rattle.fs_trials.proofs.Given.{filled_more}
use Rattle.fs_trials.proofs.candidates.Candidates.first_entries.Goals as goal

pub loop-i-preserved : goal.loop-i-preserved
loop-i-preserved c =
    let index : FitsSigned w128 c.from.result = search rules in
    let number : FitsSigned w128 c.number.result = search rules in
    let same : c.from.result ≡ pos c.loop-i.i = search rules in
    let put = simp to_z-of_z at c.in_ok-set.ensures.set in
    filled_more ((candidate c.args.self.now.pool.items c.args.j).number c.args.k) c.loop-i.i c.number.result (entry_number c.loop-i.entries)
    (entry_number c.set.new.self) c.number.ensures (λ x. put x ∙ ap (λ z. cond (int_eq z x) c.number.result (entry_number c.loop-i.entries x)) same)
    c.loop-i.invariant
