use Rattle.std.proofs.Common.{◌≡◌, ◌∙◌, ap, sym, refl, subst, take, drop, [], add-one}
use Rattle.std.specs.Prelude.{map}
use Rattle.std.proofs.lemmas.List.{take_all, drop_all}
use Rattle.fs_rules.specs.declared.check.CheckRule.TheVariants.{TwiceNamed}
use Rattle.fs_rules.specs.Rules.{at_lines}
use Rattle.fs_rules.specs.FirstFault.{earliest}
use Rattle.fs_rules.specs.Places.{declared_of, declared_name_list, place_in, FindsFirst}
use Rattle.fs_rules.proofs.FirstFaults.{repeats_is, repeats, index_finds, index_noted}
use Rattle.fs_rules.proofs.names.first_places.Goals as goal

pub loop-place-init : goal.loop-place-init
loop-place-init c = record { finds = record { finds = λ n. ap (λ es. place_in es n) c.new-places.ensures.empty }; noted = refl }

pub loop-place-preserved : goal.loop-place-preserved
loop-place-preserved c =
    let ds = c.args.declared.now in
    let x = c.index-declared-place.result in
    rw add-one record {
      finds = index_finds ds c.loop-place.place x c.loop-place-test.true c.index-declared-place.is _ _ c.loop-place.invariant.finds
          c.in_ok-put_first.ensures.put;
      noted = index_noted ds c.loop-place.place x c.loop-place-test.true c.index-declared-place.is _ _ _ _ c.loop-place.invariant.finds
          c.in_ok-put_first.ensures.noted c.loop-place.invariant.noted;
    }

pub returns-clause-noted : goal.returns-clause-noted
returns-clause-noted c =
    let ds = c.args.declared.now in
    let i = c.loop-place.place in
    let all : drop i ds ≡ [] = drop_all i ds c.loop-place-test.false in
    let known = c.loop-place.faults.first in
    sym (ap (λ r. earliest known (at_lines TwiceNamed (repeats (declared_name_list (map declared_of (take i ds))) (map declared_of r)))) all)
    ∙ c.loop-place.invariant.noted
    ∙ ap (λ r. earliest c.args.faults.now.first (at_lines TwiceNamed r)) (repeats_is [] [] (λ n. refl) (map declared_of ds))

pub returns-clause-finds : goal.returns-clause-finds
returns-clause-finds c =
    subst (λ ns. FindsFirst c.loop-place.places.entries (declared_name_list (map declared_of ns)))
    (take_all c.loop-place.place c.args.declared.now c.loop-place-test.false) c.loop-place.invariant.finds
