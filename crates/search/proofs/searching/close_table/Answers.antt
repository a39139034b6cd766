use Rattle.std.proofs.Common.{subst, map}
use Rattle.cert_model.specs.View.{node_of}
use Rattle.search_tables.specs.Obstacles.{Spin}
use Rattle.search_tables.specs.View.{table_in, points_in}
use Rattle.search_tables.proofs.Forming.{well_formed}
use Rattle.search_closing.specs.Closings.{GivesClosing}
use Rattle.search_tables.specs.SearchTables.{machines}
use Rattle.search.proofs.Outcomes.{closes, stops}
use Rattle.search.proofs.searching.close_table.Goals as goal

pub close-requires-clause-well_formed : goal.close-requires-clause-well_formed
close-requires-clause-well_formed c = well_formed (machines c.args.a.now c.args.b.now) c.vars-left.ensures.sound c.vars-right.ensures.sound c.args.moves.items
    (table_in c.args.nodes.items) c.requires.makes

pub returns-in-Certified : goal.returns-in-Certified
returns-in-Certified c =
    let m = machines c.args.a.now c.args.b.now in
    let T = table_in c.args.nodes.items in
    closes m c.args.moves.items T (map node_of c.in-Certified.cert.nodes.items) c.vars-left.ensures.sound c.vars-right.ensures.sound c.requires.interface
    c.requires.makes c.requires.facts c.requires.closed c.requires.none_differ
    (subst (GivesClosing m T) c.in-Certified.is c.in_ok-cert.ensures) c.certificates_are_normal.ensures

pub returns-in-Spins : goal.returns-in-Spins
returns-in-Spins c =
    let m = machines c.args.a.now c.args.b.now in
    let T = table_in c.args.nodes.items in
    c.outcome_at.ensures m (stops m c.args.moves.items T (map points_in c.args.points.items)
    (Spin c.in-Spins.side c.in-Spins.cycle.items) c.vars-left.ensures.sound c.vars-right.ensures.sound c.requires.makes c.requires.points
    (c.requires.none_differ, c.requires.closed, subst (GivesClosing m T) c.in-Spins.is c.in_ok-cert.ensures))
