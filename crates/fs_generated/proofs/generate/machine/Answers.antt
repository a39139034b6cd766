use Rattle.fs_generated.specs.Sides.{round_of}
use Rattle.fs_generated.proofs.Rounds.{is_round}
use Rattle.fs_generated.proofs.Lawful.{formed_as, lawful_as}
use Rattle.fs_generated.proofs.generate.machine.Goals as goal

pub build_machine-requires-clause-formed : goal.build_machine-requires-clause-formed
build_machine-requires-clause-formed c =
    formed_as (round_of c.args.side) (is_round c.args.side) c.args.n _ _ c.in_ok-parts.ensures c.in_ok-states.ensures

pub build_machine-requires-clause-lawful : goal.build_machine-requires-clause-lawful
build_machine-requires-clause-lawful c =
    lawful_as (round_of c.args.side) (is_round c.args.side) c.args.n _ _ c.in_ok-parts.ensures c.in_ok-states.ensures c.requires
