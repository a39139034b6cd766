use Rattle.std.proofs.Common.{◌∙◌, sym, rules, tests}
use Rattle.std.specs.Prelude.{map}
use Rattle.std.proofs.lemmas.Iterator.{YieldsList-from_slice}
use Rattle.std.proofs.lemmas.Iterator.Search.{any_from_yields_List}
use Rattle.fs_model.proofs.Quantifiers.{list_any_map}
use Rattle.fs_model.specs.View.{named_assignment}
use Rattle.fs_model.specs.Renamed.{assignment_over}
use Rattle.fs_rules.specs.MachineOfParts.{place_or_end, names_of}
use Rattle.fs_model.specs.SoundMachines.{input_at, changed_by}
use Rattle.fs_rules.proofs.scope.Scope.some_changes_input.Goals as goal

pub returns : goal.returns
returns c =
    let vs = c.args.self.now.vars.items in
    let over = assignment_over (place_or_end (names_of vs)) in
    any_from_yields_List (λ x. input_at vs (changed_by (over (named_assignment x)))) _ _ _ c.any.ensures.ran (YieldsList-from_slice c.args.assigns.now cc)
    (λ x b q k. search (rules, tests))
    ∙ sym (list_any_map (λ a. input_at vs (changed_by (over a))) named_assignment c.args.assigns.now)
    ∙ sym (list_any_map (λ a. input_at vs (changed_by a)) over (map named_assignment c.args.assigns.now))
