use Rattle.std.proofs.Common.{◌∙◌, sym, rules, tests}
use Rattle.std.proofs.lemmas.Iterator.{YieldsList-from_slice}
use Rattle.std.proofs.lemmas.Iterator.Search.{all_from_yields_List}
use Rattle.std.proofs.lemmas.List.Folds.{list_all-map}
use Rattle.fs_model.specs.View.{source_state_of}
use Rattle.fs_model.specs.WellFormed.{is_well_formed_state}
use Rattle.fs_model.proofs.well_formed.are_well_formed_states.Goals as goal

pub returns : goal.returns
returns c =
    all_from_yields_List (λ x. is_well_formed_state (source_state_of x)) _ _ _ c.all.ensures.ran (YieldsList-from_slice c.args.states.now cc)
    (λ x b q k. search (rules, tests))
    ∙ sym (list_all-map is_well_formed_state source_state_of c.args.states.now)
