use Rattle.std.proofs.Common.{◌∙◌, sym, rules, tests}
use Rattle.std.proofs.lemmas.Iterator.{YieldsList-from_slice}
use Rattle.std.proofs.lemmas.Iterator.Search.{any_from_yields_List}
use Rattle.fs_model.proofs.Quantifiers.{list_any_map}
use Rattle.fs_model.specs.View.{source_state_of}
use Rattle.fs_write.specs.NeededFormats.{emits_in_state}
use Rattle.fs_write.proofs.formats.emit_in_states.Goals as goal

pub returns : goal.returns
returns c =
    any_from_yields_List (λ x. emits_in_state (source_state_of x)) _ _ _ c.any.ensures.ran (YieldsList-from_slice c.args.states.now cc)
    (λ x b q k. search (rules, tests))
    ∙ sym (list_any_map emits_in_state source_state_of c.args.states.now)
