use Rattle.std.proofs.Common.{◌∙◌, ◌<◌, ap, sym, subst, length}
use Rattle.fs_model.specs.View.{source_of}
use Rattle.fs_rules.specs.MachineOfParts.{state_names, place_or_end}
use Rattle.fs_ast.proofs.Kept.{all_kept}
use Rattle.fs_ast.proofs.Whole.{few_stated}
use Rattle.fs_ast.proofs.build.reset_state.Goals as goal

pub state_id-requires : goal.state_id-requires
state_id-requires c = let p = source_of c.args.parts.now in few_stated p _ _ c.requires.scope (all_kept p c.requires.plain)

pub returns-clause-number : goal.returns-clause-number
returns-clause-number c = c.state_id.ensures ∙ ap (λ ss. place_or_end (state_names ss) (source_of c.args.parts.now).reset) c.requires.scope.stated

pub returns-clause-within : goal.returns-clause-within
returns-clause-within c = let p = source_of c.args.parts.now in
    subst (λ n. n < length p.states) (sym (returns-clause-number c)) (all_kept p c.requires.plain).reset
