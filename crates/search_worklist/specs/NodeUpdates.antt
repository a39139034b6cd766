-- A table in which the node at two points has got a fact.
use Rattle.std.specs.Prelude.{ℕ, [], ◌∷◌, ◌++◌, length}
use Rattle.fs_cut.specs.Paths.{Point}
use Rattle.fs_cut.specs.View.{point_of}
use Rattle.sym_facts.specs.Facts.{Fact}
use Rattle.search_tables.specs.SearchTables.{Table, Target, Unknown, Known, node_target, with_fact}
use Rattle.search_places.specs.NodeRecords.{node_with_fact}
use Rattle.search_worklist.specs.declared.trial.TableChange.{TableChange}

abbrev pub put_by : Table → Point → Point → Fact → Target → Table
put_by T P Q f Unknown = T ++ node_with_fact P Q f ∷ []
put_by T P Q f (Known k n) = with_fact T k n f

-- the node at two points has this fact; where there was none it goes last
abbrev pub put_fact : Table → Point → Point → Fact → Table
put_fact T P Q f = put_by T P Q f (node_target T P Q)

abbrev pub number_by : Table → Target → ℕ
number_by T Unknown = length T
number_by T (Known k n) = k

-- the number of the node at two points, or of the next one that is made
abbrev pub node_number : Table → Point → Point → ℕ
node_number T P Q = number_by T (node_target T P Q)

-- a table after a change
abbrev pub change_table : Table → TableChange → Table
change_table T c = put_fact T (point_of c.left) (point_of c.right) c.fact
