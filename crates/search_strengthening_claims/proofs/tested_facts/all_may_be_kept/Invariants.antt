use Rattle.std.proofs.Common.{◌≡◌, map, drop}
use Rattle.std.specs.List.{list_all}
use Rattle.nf_rel.specs.View.{literal_in}
use Rattle.sym_facts.specs.Facts.{may_be_kept}
use Rattle.search_strengthening_claims.proofs.tested_facts.all_may_be_kept.Given as goal

abbrev pub invariant-loop-literal : goal.invariant-loop-literal
invariant-loop-literal l = list_all may_be_kept (map literal_in (drop l.literal-index l.literals)) ≡ list_all may_be_kept (map literal_in l.literals)
