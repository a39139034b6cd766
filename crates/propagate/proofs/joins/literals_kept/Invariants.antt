use Rattle.std.proofs.Common.{◌≡◌, ◌++◌, map, drop}
use Rattle.nf_rel.specs.View.{literal_in}
use Rattle.propagate.specs.JoinSteps.{literals_from}
use Rattle.propagate.proofs.joins.literals_kept.Given as goal

abbrev pub invariant-loop-index : goal.invariant-loop-index
invariant-loop-index l = record {
  rest : map literal_in l.out.items ++ literals_from l.index l.left (map literal_in (drop l.index l.literals))
      ≡ literals_from 0 l.missing (map literal_in l.literals);
}
