use Rattle.std.proofs.Common.{◌∙◌, ap, false}
use Rattle.std.specs.Prelude.{not}
use Rattle.fs_model.specs.Runs.{is_scalar}
use Rattle.fs_rules.specs.MachineOfParts.{place_or_end, names_of}
use Rattle.fs_rules.proofs.Uses.{told, use_by, scalar_used}
use Rattle.fs_rules.proofs.scope.Scope.scalar_use.Goals as goal

pub returns-in-None : goal.returns-in-None
returns-in-None c =
    let vs = c.args.self.now.vars.items in
    ap (use_by is_scalar) c.in-None.ensures ∙ scalar_used vs (place_or_end (names_of vs) c.args.name.now)

pub returns-in-Some : goal.returns-in-Some
returns-in-Some c =
    let vs = c.args.self.now.vars.items in
    ap (λ b. told false (not b)) c.is_scalar.ensures ∙ ap (use_by is_scalar) c.in-Some.ensures ∙ scalar_used vs (place_or_end (names_of vs) c.args.name.now)
