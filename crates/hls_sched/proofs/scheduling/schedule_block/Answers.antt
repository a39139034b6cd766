use Rattle.std.proofs.Common.{◌≡◌, arith, rules, length}
use Rattle.hls_block_filling.specs.ItemUnits.{units_in}
use Rattle.hls_sched.proofs.Gathered.{report_is}
use Rattle.hls_sched.proofs.scheduling.schedule_block.Goals as goal

pub plan_block-requires-clause-block : goal.plan_block-requires-clause-block
plan_block-requires-clause-block c =
    record {
      within = c.requires.first;
      starts = c.requires.starts;
      states = c.in_ok-block.ensures.states;
      inside = c.in_ok-block.ensures.within;
      few = c.in_ok-block.ensures.few;
      exit = c.in_ok-block.ensures.exit;
      leads = c.in_ok-block.ensures.leads;
    }

pub overflow_cast-result : goal.overflow_cast-result
overflow_cast-result c = omega (arith, c.len.ensures, c.in_ok-block.ensures.few, c.vars-vars.ensures.sound.few_states)

pub returns-clause-report : goal.returns-clause-report
returns-clause-report c =
    let count : c.len.result ≡ length c.in_ok-block.block.states.items = search rules in
    report_is c.args.m.now (units_in c.args.units.now) c.args.first.0 c.len.result c.in_ok-block.block.states.items c.in_ok-plan.plan
    c.vars-vars.ensures.sound c.requires.within count c.in_ok-block.ensures.states c.in_ok-plan.ensures.rows c.in_ok-plan.ensures.chain

pub returns-clause-among : goal.returns-clause-among
returns-clause-among c =
    c.in_ok-add_moves.ensures.among (length c.args.m.now.states) c.in_ok-block.ensures.within c.in_ok-block.ensures.leads c.requires.among
