use Rattle.std.proofs.Common.{cond, rules, sym, ◌∙◌, ap}
use Rattle.std.specs.Prelude.{FitsSigned}
use Rattle.std.specs.Int.{w128}
use Rattle.std.specs.Ordering.{int_eq}
use Rattle.std.proofs.lemmas.Int.{to_z-of_z}
use Rattle.fs_stores.specs.Values.{entry_number, content_of}
use Rattle.fs_trials.proofs.Given.{entries_are}
use Rattle.hls_shrink.specs.Reductions.{content_with}
use Rattle.hls_shrink.proofs.entries.value_with.Goals as goal

pub returns-in_ok-set-in-Arr-clause-content : goal.returns-in_ok-set-in-Arr-clause-content
returns-in_ok-set-in-Arr-clause-content c =
    let index = c.args.index.now in
    let number = c.args.number.now in
    let one : FitsSigned w128 index = search rules in
    let two : FitsSigned w128 number = search rules in
    let put = simp to_z-of_z at c.in_ok-set-in-Arr.ensures.set in
    entries_are (entry_number c.set.new.self) (λ i. cond (int_eq index i) number (entry_number c.in-Arr.numbers i))
    (λ i. put i ∙ ap (λ f. cond (int_eq index i) number (f i)) c.in_ok-own-in-Arr.ensures)
    ∙ ap (λ v. content_with (content_of v) index number) (sym c.in-Arr.is)
