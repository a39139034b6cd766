use Rattle.std.proofs.Common.{◌∙◌, sym, rules, tests}
use Rattle.std.proofs.lemmas.Iterator.{YieldsList-from_slice}
use Rattle.std.proofs.lemmas.Iterator.Search.{all_from_yields_List}
use Rattle.std.proofs.lemmas.List.Folds.{list_all-map}
use Rattle.fs_model.specs.View.{declaration_of}
use Rattle.hls_program_parts.specs.WellFormedPrograms.{is_program_declaration}
use Rattle.hls_program_parts.proofs.well_formed.are_declarations.Goals as goal

pub returns : goal.returns
returns c =
    all_from_yields_List (λ x. is_program_declaration (declaration_of x)) _ _ _ c.all.ensures.ran (YieldsList-from_slice c.args.decls.now cc)
    (λ x b q k. search (rules, tests))
    ∙ sym (list_all-map is_program_declaration declaration_of c.args.decls.now)
