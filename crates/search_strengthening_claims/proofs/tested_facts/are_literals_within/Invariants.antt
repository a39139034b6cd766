use Rattle.std.proofs.Common.{◌≡◌, map, drop}
use Rattle.std.specs.List.{list_all}
use Rattle.nf_rel.specs.View.{literal_in}
use Rattle.sym_facts.specs.Pairings.{is_position, literal_within}
use Rattle.search_strengthening_claims.proofs.tested_facts.are_literals_within.Given as goal

abbrev pub invariant-loop-literal : goal.invariant-loop-literal
invariant-loop-literal l =
    list_all (literal_within (is_position l.positions)) (map literal_in (drop l.literal-index l.literals)) ≡
    list_all (literal_within (is_position l.positions)) (map literal_in l.literals)
