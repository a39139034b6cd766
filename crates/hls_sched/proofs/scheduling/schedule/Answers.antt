use Rattle.std.proofs.Common.{◌≡◌, ◌∙◌, sym, ap, subst, rules, map, None}
use Rattle.fs_model.specs.Source.{Source}
use Rattle.fs_model.specs.View.{source_of}
use Rattle.fs_model.specs.WellFormed.{is_well_formed}
use Rattle.fs_ast.specs.MachineOfParts.{machine_of}
use Rattle.fs_ast.specs.Rules.{BreaksNoRule}
use Rattle.hls_block_filling.specs.ItemUnits.{units_in}
use Rattle.hls_block_filling.specs.Sources.{scheduled_source}
use Rattle.hls_block_filling.specs.Over.{over_in}
use Rattle.hls_sched.specs.Reports.{report_of, reports}
use Rattle.hls_sched.proofs.Outcome.{blocks_keep_lengths, new_behaves, new_within}
use Rattle.hls_sched.proofs.scheduling.schedule.Goals as goal

pub parts_in_rows-requires-clause-within : goal.parts_in_rows-requires-clause-within
parts_in_rows-requires-clause-within c =
    let fits : over_in (units_in c.args.units.now) c.args.m.now ≡ None = search rules in
    let within = c.machines_within_the_units.ensures.within c.args.m.now (units_in c.args.units.now) c.vars-vars.ensures.sound fits in
    within

pub build_lawful-requires-clause-formed : goal.build_lawful-requires-clause-formed
build_lawful-requires-clause-formed c =
    let is : source_of c.in_ok-parts.parts ≡ scheduled_source (units_in c.args.units.now) (source_of c.args.parts.now) c.args.m.now =
    c.in_ok-parts.ensures.parts in
    ap is_well_formed is ∙ c.a_scheduled_text_is_lawful.ensures.formed (units_in c.args.units.now) (source_of c.args.parts.now) c.args.m.now c.requires.formed

pub build_lawful-requires-clause-lawful : goal.build_lawful-requires-clause-lawful
build_lawful-requires-clause-lawful c =
    let fits : over_in (units_in c.args.units.now) c.args.m.now ≡ None = search rules in
    let within = c.machines_within_the_units.ensures.within c.args.m.now (units_in c.args.units.now) c.vars-vars.ensures.sound fits in
    let is : source_of c.in_ok-parts.parts ≡ scheduled_source (units_in c.args.units.now) (source_of c.args.parts.now) c.args.m.now =
    c.in_ok-parts.ensures.parts in
    subst (λ (s : Source). BreaksNoRule s) (sym is)
    (c.a_scheduled_text_is_lawful.ensures.lawful (units_in c.args.units.now)
    (source_of c.args.parts.now) c.args.m.now c.vars-vars.ensures.sound c.requires.built within)

pub returns-clause-parts : goal.returns-clause-parts
returns-clause-parts c =
    let is : source_of c.in_ok-parts.parts ≡ scheduled_source (units_in c.args.units.now) (source_of c.args.parts.now) c.args.m.now =
    c.in_ok-parts.ensures.parts in
    is

pub returns-clause-formed : goal.returns-clause-formed
returns-clause-formed c =
    let is : source_of c.in_ok-parts.parts ≡ scheduled_source (units_in c.args.units.now) (source_of c.args.parts.now) c.args.m.now =
    c.in_ok-parts.ensures.parts in
    ap is_well_formed is ∙ c.a_scheduled_text_is_lawful.ensures.formed (units_in c.args.units.now) (source_of c.args.parts.now) c.args.m.now c.requires.formed

pub returns-clause-lawful : goal.returns-clause-lawful
returns-clause-lawful c =
    let fits : over_in (units_in c.args.units.now) c.args.m.now ≡ None = search rules in
    let within = c.machines_within_the_units.ensures.within c.args.m.now (units_in c.args.units.now) c.vars-vars.ensures.sound fits in
    let is : source_of c.in_ok-parts.parts ≡ scheduled_source (units_in c.args.units.now) (source_of c.args.parts.now) c.args.m.now =
    c.in_ok-parts.ensures.parts in
    subst (λ (s : Source). BreaksNoRule s) (sym is)
    (c.a_scheduled_text_is_lawful.ensures.lawful (units_in c.args.units.now)
    (source_of c.args.parts.now) c.args.m.now c.vars-vars.ensures.sound c.requires.built within)

pub returns-clause-machine : goal.returns-clause-machine
returns-clause-machine c =
    let is : source_of c.in_ok-parts.parts ≡ scheduled_source (units_in c.args.units.now) (source_of c.args.parts.now) c.args.m.now =
    c.in_ok-parts.ensures.parts in
    let machine = c.in_ok-machine.ensures.spelled ∙ ap machine_of is
    ∙ c.a_scheduled_text_spells_the_schedule.ensures (units_in c.args.units.now)
    (source_of c.args.parts.now) c.args.m.now c.vars-vars.ensures.sound c.requires.built in
    machine

pub returns-clause-behaves : goal.returns-clause-behaves
returns-clause-behaves c =
    let fits : over_in (units_in c.args.units.now) c.args.m.now ≡ None = search rules in
    let within = c.machines_within_the_units.ensures.within c.args.m.now (units_in c.args.units.now) c.vars-vars.ensures.sound fits in
    let is : source_of c.in_ok-parts.parts ≡ scheduled_source (units_in c.args.units.now) (source_of c.args.parts.now) c.args.m.now =
    c.in_ok-parts.ensures.parts in
    let machine = c.in_ok-machine.ensures.spelled ∙ ap machine_of is
    ∙ c.a_scheduled_text_spells_the_schedule.ensures (units_in c.args.units.now)
    (source_of c.args.parts.now) c.args.m.now c.vars-vars.ensures.sound c.requires.built in
    new_behaves (units_in c.args.units.now) c.args.m.now c.vars-vars.ensures.sound within c.in_ok-machine.machine machine

pub returns-clause-within : goal.returns-clause-within
returns-clause-within c =
    let fits : over_in (units_in c.args.units.now) c.args.m.now ≡ None = search rules in
    let within = c.machines_within_the_units.ensures.within c.args.m.now (units_in c.args.units.now) c.vars-vars.ensures.sound fits in
    let is : source_of c.in_ok-parts.parts ≡ scheduled_source (units_in c.args.units.now) (source_of c.args.parts.now) c.args.m.now =
    c.in_ok-parts.ensures.parts in
    let machine = c.in_ok-machine.ensures.spelled ∙ ap machine_of is
    ∙ c.a_scheduled_text_spells_the_schedule.ensures (units_in c.args.units.now)
    (source_of c.args.parts.now) c.args.m.now c.vars-vars.ensures.sound c.requires.built in
    new_within (units_in c.args.units.now) c.args.m.now c.vars-vars.ensures.sound within c.in_ok-machine.machine machine

pub returns-clause-lengths : goal.returns-clause-lengths
returns-clause-lengths c =
    let fits : over_in (units_in c.args.units.now) c.args.m.now ≡ None = search rules in
    let within = c.machines_within_the_units.ensures.within c.args.m.now (units_in c.args.units.now) c.vars-vars.ensures.sound fits in
    let lines : map report_of c.in_ok-parts.lines.items ≡ reports (units_in c.args.units.now) c.args.m.now = c.in_ok-parts.ensures.lines in
    blocks_keep_lengths (units_in c.args.units.now) c.args.m.now c.vars-vars.ensures.sound within c.in_ok-parts.lines.items lines
