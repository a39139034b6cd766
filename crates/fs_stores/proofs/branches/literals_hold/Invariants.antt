use Rattle.std.proofs.Common.{◌≡◌, drop}
use Rattle.std.specs.Prelude.{map}
use Rattle.fs_model.specs.Touched.{AllInRange}
use Rattle.fs_model.specs.View.{shared_literal_of}
use Rattle.fs_stores.specs.Values.{store_from}
use Rattle.fs_model.specs.Trees.{literals_hold}
use Rattle.fs_stores.specs.Reads.{touched_by_way}
use Rattle.fs_stores.proofs.branches.literals_hold.Given as goal

abbrev pub invariant-loop-lit : goal.invariant-loop-lit
invariant-loop-lit l = record {
  there : AllInRange (touched_by_way (map shared_literal_of (drop l.lit-index l.way)) (store_from l.values))
      → AllInRange (touched_by_way (map shared_literal_of l.way) (store_from l.values));
  back : AllInRange (touched_by_way (map shared_literal_of l.way) (store_from l.values))
      → AllInRange (touched_by_way (map shared_literal_of (drop l.lit-index l.way)) (store_from l.values));
  hold : literals_hold (map shared_literal_of (drop l.lit-index l.way)) (store_from l.values)
      ≡ literals_hold (map shared_literal_of l.way) (store_from l.values);
}
