use Rattle.std.proofs.Common.{◌∙◌, sym, rules, tests}
use Rattle.std.proofs.lemmas.Iterator.{YieldsList-from_slice}
use Rattle.std.proofs.lemmas.Iterator.Search.{any_from_yields_List}
use Rattle.fs_model.proofs.Quantifiers.{list_any_map}
use Rattle.fs_model.specs.View.{named_assignment}
use Rattle.fs_write.specs.NeededFormats.{is_emit}
use Rattle.fs_write.proofs.formats.have_emits.Goals as goal

pub returns : goal.returns
returns c =
    any_from_yields_List (λ x. is_emit (named_assignment x)) _ _ _ c.any.ensures.ran (YieldsList-from_slice c.args.assigns.now cc)
    (λ x b q k. search (rules, tests))
    ∙ sym (list_any_map is_emit named_assignment c.args.assigns.now)
