use Rattle.std.proofs.Common.{◌∙◌, ap, sym, subst, ℕ, List}
use Rattle.serde_json.specs.View.{members_view}
use Rattle.hls_bind.specs.Bindings.{is_rising, IsBindingOf}
use Rattle.hls_bind.specs.BindingMembers.{binding_from}
use Rattle.hls_bind.proofs.Given.{rises, binds}
use Rattle.hls_bind.proofs.reader.binding_of.Goals as goal

pub of-requires : goal.of-requires
of-requires c = ap is_rising (c.in_ok-entries.ensures) ∙ rises 0 c.vars.result.now (members_view c.args.members.now.entries)

pub returns-clause-of_machine : goal.returns-clause-of_machine
returns-clause-of_machine c =
    let ms = members_view c.args.members.now.entries in
    subst (λ (b : List (ℕ × List ℕ)). IsBindingOf c.args.m.now.variables b)
    (sym (c.of.ensures ∙ c.in_ok-entries.ensures ∙ ap (λ vs. binding_from 0 vs ms) c.vars.ensures.vars))
    (binds c.args.m.now.variables ms c.vars.ensures.sound.variables_differ c.requires)
