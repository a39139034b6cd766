use Rattle.std.proofs.Common.{◌∙◌, sym, ap, subst, ◌≤◌, ℕ, List, length}
use Rattle.std.specs.Option.{unwrap_or}
use Rattle.fs_rules.specs.Places.{place_in}
use Rattle.fs_rules.proofs.FirstFaults.{place_by, place_within}
use Rattle.fs_rules.proofs.names.NameTable.place.Goals as goal

pub returns-in-Some-clause-place : goal.returns-in-Some-clause-place
returns-in-Some-clause-place c = λ ns h.
    let t = c.args.self.now in
    let n = c.args.name.now in
    ap (λ o. unwrap_or o t.1) (c.in-Some.ensures.value ∙ ap (λ (v : List (List ℕ × ℕ) × ℕ). place_in v.0 n) c.self.view_is) ∙ sym (place_by t ns n h)

pub returns-in-None-clause-place : goal.returns-in-None-clause-place
returns-in-None-clause-place c = λ ns h.
    let t = c.args.self.now in
    let n = c.args.name.now in
    ap (λ (v : List (List ℕ × ℕ) × ℕ). v.1) c.self.view_is
    ∙ ap (λ o. unwrap_or o t.1) (c.in-None.ensures.value ∙ ap (λ (v : List (List ℕ × ℕ) × ℕ). place_in v.0 n) c.self.view_is) ∙ sym (place_by t ns n h)

pub returns-in-Some-clause-within : goal.returns-in-Some-clause-within
returns-in-Some-clause-within c = λ ns h. subst (λ p. p ≤ length ns) (sym (returns-in-Some-clause-place c ns h)) (place_within ns c.args.name.now)

pub returns-in-None-clause-within : goal.returns-in-None-clause-within
returns-in-None-clause-within c = λ ns h. subst (λ p. p ≤ length ns) (sym (returns-in-None-clause-place c ns h)) (place_within ns c.args.name.now)
