use Rattle.std.proofs.Common.{◌∙◌, ◌||◌, ap, ap₂, sym}
use Rattle.std.proofs.lemmas.List.{map_more}
use Rattle.clap.specs.Words.{with_rule}
use Rattle.fsmd_command_line.specs.CommandLine.{alone, command_with}
use Rattle.fsmd_command_line.specs.SubcommandShapes.{rule_of_argument}
use Rattle.fsmd_command_line.proofs.building.command_of.Goals as goal

pub loop-argument-preserved : goal.loop-argument-preserved
loop-argument-preserved c = (
  c.in_ok-command.ensures.shape c.argument_of.ensures.local
      ∙ ap₂ with_rule c.loop-argument.invariant.0 c.argument_of.ensures.rule
      ∙ ap (λ rules. alone (command_with c.args.name.now rules))
      (sym (map_more rule_of_argument c.args.arguments.now c.loop-argument.argument-index _ c.loop-argument-test.true)),
  c.in_ok-command.ensures.globals ∙ ap₂ ◌||◌ c.loop-argument.invariant.1 c.argument_of.ensures.local,
)
