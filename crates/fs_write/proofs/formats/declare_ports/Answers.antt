use Rattle.std.proofs.Common.{◌∙◌, sym, rules, tests}
use Rattle.std.proofs.lemmas.Iterator.{YieldsList-from_slice}
use Rattle.std.proofs.lemmas.Iterator.Search.{any_from_yields_List}
use Rattle.fs_model.proofs.Quantifiers.{list_any_map}
use Rattle.fs_model.specs.View.{declaration_of}
use Rattle.fs_write.specs.NeededFormats.{declares_ports}
use Rattle.fs_write.proofs.formats.declare_ports.Goals as goal

pub returns : goal.returns
returns c =
    any_from_yields_List (λ x. declares_ports (declaration_of x)) _ _ _ c.any.ensures.ran (YieldsList-from_slice c.args.decls.now cc)
    (λ x b q k. search (rules, tests))
    ∙ sym (list_any_map declares_ports declaration_of c.args.decls.now)
