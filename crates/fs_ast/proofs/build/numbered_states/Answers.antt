use Rattle.std.proofs.Common.{◌∙◌, ap}
use Rattle.std.specs.Prelude.{map}
use Rattle.fs_model.specs.View.{source_of, source_state_of}
use Rattle.fs_rules.specs.MachineOfParts.{names_of}
use Rattle.fs_rules.specs.Places.{names_stated}
use Rattle.fs_branches.specs.NumberedParts.{spelled_state_with_line}
use Rattle.fs_ast.proofs.Kept.{all_kept}
use Rattle.fs_branches.proofs.Numbered.{if_ok}
use Rattle.fs_ast.proofs.Whole.{few_vars, few_stated, placed_is}
use Rattle.fs_ast.proofs.build.numbered_states.Goals as goal

pub resolve-requires-clause-variables : goal.resolve-requires-clause-variables
resolve-requires-clause-variables c = let p = source_of c.args.parts.now in few_vars p _ _ c.requires.scope (all_kept p c.requires.plain)

pub resolve-requires-clause-states : goal.resolve-requires-clause-states
resolve-requires-clause-states c = let p = source_of c.args.parts.now in few_stated p _ _ c.requires.scope (all_kept p c.requires.plain)

pub returns : goal.returns
returns c =
    let vs = c.args.scope.now.vars.items in
    if_ok c.resolve.result
    (λ out e. placed_is (source_of c.args.parts.now) vs _ out.items c.requires.scope
    (e ∙ ap (λ l. map (spelled_state_with_line (names_of vs) (names_stated c.args.scope.now.states.now)) (map source_state_of l)) c.deref.ensures.value))
    c.resolve.ensures
