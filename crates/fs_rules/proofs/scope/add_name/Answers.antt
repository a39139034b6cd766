use Rattle.std.proofs.Common.{◌∙◌, ap, map, ◌++◌, ◌∷◌, []}
use Rattle.std.proofs.lemmas.List.{map_push}
use Rattle.fs_rules.specs.Places.{declared_of}
use Rattle.fs_rules.proofs.scope.add_name.Goals as goal

pub returns : goal.returns
returns c =
    let old = c.args.declared.now.items in
    ap (map declared_of) c.in_ok-push.ensures.items
    ∙ map_push declared_of old (record { line = c.args.line; name = c.in_ok-name.name })
    ∙ ap (λ n. map declared_of old ++ (c.args.line, n) ∷ []) c.in_ok-name.ensures
