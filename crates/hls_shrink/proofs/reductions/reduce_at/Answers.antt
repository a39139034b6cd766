use Rattle.std.proofs.Common.{◌≡◌, true, subst, rules}
use Rattle.std.specs.Prelude.{None, IfOk, IfSome, FitsSigned}
use Rattle.std.specs.Int.{w128}
use Rattle.std.proofs.lemmas.Int.{to_z-of_z}
use Rattle.hls_shrink.specs.InputEntries.{contents_in}
use Rattle.hls_shrink.specs.Reductions.{is_beyond_one, contents_with}
use Rattle.hls_shrink.specs.Shrunk.{ShowDifference, IsSmall}
use Rattle.hls_shrink.proofs.First.{with_zero, first_zero}
use Rattle.hls_shrink.proofs.Smalls.{small_shows, half_found, half_none}
use Rattle.hls_shrink.proofs.reductions.reduce_at.Goals as goal

pub returns-in-Some-clause-some : goal.returns-in-Some-clause-some
returns-in-Some-clause-some c =
    let a = c.args.a.now in
    let b = c.args.b.now in
    let cs = contents_in c.args.inputs.now in
    let e = c.args.entry.now in
    let s = c.in-Some.small in
    let are : contents_in s.inputs ≡ with_zero cs e = rw c.in-Some.is at c.in_ok-small.ensures.contents in
    let small : IsSmall a b c.args.steps s = rw c.in-Some.is at c.in_ok-small.ensures.small in
    first_zero (ShowDifference a b c.args.steps) cs e (contents_in s.inputs) are (small_shows a b c.args.steps s small)

pub returns-clause-some : goal.returns-clause-some
returns-clause-some c =
    let cs = contents_in c.args.inputs.now in
    let e = c.args.entry.now in
    let beyond : is_beyond_one e.number ≡ true = search rules in
    let own : FitsSigned w128 c.half.result = search rules in
    let found = simp to_z-of_z at c.try_number-2.ensures.contents in
    half_found c.args.a.now c.args.b.now c.args.steps cs e c.try_number-2.result beyond (c.in_ok-small.ensures.none c.in_default.is)
    (subst (λ n. IfOk c.try_number-2.result (λ o. IfSome o (λ s. contents_in s.inputs ≡ contents_with cs e n))) c.half.ensures found)
    c.try_number-2.ensures.small

pub returns-clause-none : goal.returns-clause-none
returns-clause-none c =
    let cs = contents_in c.args.inputs.now in
    let e = c.args.entry.now in
    let own : FitsSigned w128 c.half.result = search rules in
    let none = simp to_z-of_z at c.try_number-2.ensures.none in
    half_none c.args.a.now c.args.b.now c.args.steps cs e c.try_number-2.result (c.in_ok-small.ensures.none c.in_default.is)
    (subst (λ n. IfOk c.try_number-2.result (λ o. o ≡ None → ¬ ShowDifference c.args.a.now c.args.b.now c.args.steps (contents_with cs e n)))
    c.half.ensures none)
