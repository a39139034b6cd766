use Rattle.std.proofs.Common.{subst, ◌≤◌}
use Rattle.fs_model.proofs.Lists.{length_map}
use Rattle.fs_model.specs.declared.parts.VarInfo.{VarInfo}
use Rattle.fs_rules.proofs.scope.Scope.variable_place.Goals as goal

pub returns : goal.returns
returns c = record {
  place = c.place.ensures.place _ c.args.self.now.named;
  within = subst (λ n. c.place.result ≤ n) (length_map (λ (v : VarInfo). v.name) c.args.self.now.vars.items) (c.place.ensures.within _ c.args.self.now.named);
}
