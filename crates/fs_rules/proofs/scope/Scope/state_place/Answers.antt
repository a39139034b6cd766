use Rattle.std.proofs.Common.{◌∙◌, subst, ◌≤◌}
use Rattle.std.specs.Prelude.{map}
use Rattle.fs_model.proofs.Lists.{length_map}
use Rattle.fs_model.specs.Source.{SourceState}
use Rattle.fs_model.specs.View.{source_state_of}
use Rattle.fs_rules.proofs.scope.Scope.state_place.Goals as goal

pub returns : goal.returns
returns c =
    let ss = c.args.self.now.states.now in
    record {
      place = c.place.ensures.place _ c.args.self.now.stated;
      within = subst (λ n. c.place.result ≤ n) (length_map (λ (s : SourceState). s.name) (map source_state_of ss) ∙ length_map source_state_of ss)
          (c.place.ensures.within _ c.args.self.now.stated);
    }
