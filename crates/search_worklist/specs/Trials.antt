-- What is told of a move that was tried.
use Rattle.std.specs.Prelude.{◌≡◌, true, false, List, Some, slice_get, Result, Ok, Err}
use Rattle.fs_cut.specs.Paths.{Point}
use Rattle.nf_terms.specs.Computed.{Done}
use Rattle.nf_terms.specs.declared.stop.NfStop.{NfStop}
use Rattle.nf_terms.specs.declared.stop.NfStop.TheVariants as stop
use Rattle.nf_rel.specs.Literals.{is_refuted}
use Rattle.sym_paths.specs.Execution.{Post, end_of}
use Rattle.search_tables.specs.declared.moves.Move.{Move}
use Rattle.search_tables.specs.SearchTables.{MachinePair, SearchNode, Table, units, WideEvent, LargeEvent, MoveEffect}
use Rattle.search_tables.specs.SearchTables.{Changes, Meets, Exceeds, PathPair, effect, arrival}
use Rattle.search_worklist.specs.declared.trial.Trial.{Trial}
use Rattle.search_worklist.specs.declared.trial.Trial.TheVariants as tried
use Rattle.search_places.specs.NodeRecords.{NodeRecord, table_of}
use Rattle.search_places.specs.Moves.{paths_at}
use Rattle.search_worklist.specs.NodeUpdates.{change_table}
use Rattle.search_worklist.specs.Waiting.{IsEntailed}

-- an effect that does not keep the table
abbrev pub GivesChange : Table → MoveEffect → Trial → Type 0
GivesChange T e tried.Refuted = ⊥
GivesChange T e (tried.Entailed k) = ⊥
GivesChange T e (tried.Changes c) = (e ≡ Changes (change_table T c)) × (c.units ≡ units (change_table T c))
GivesChange T e (tried.Exceeds b) = e ≡ Exceeds b

-- the effect of a post that arrives at two points
abbrev pub GivesTrial : Table → Point → Point → Post → MoveEffect → Trial → Type 0
GivesTrial T P Q post e tried.Refuted = is_refuted post.conditions ≡ true
GivesTrial T P Q post e (tried.Entailed k) = (is_refuted post.conditions ≡ false) × IsEntailed T P Q post k
GivesTrial T P Q post e (tried.Changes c) = GivesChange T e (tried.Changes c)
GivesTrial T P Q post e (tried.Exceeds b) = GivesChange T e (tried.Exceeds b)

-- an event that is told is that of the effect; memory may be refused
abbrev pub IsMet : NfStop → MoveEffect → Type 0
IsMet (stop.Wide left right) e = e ≡ Meets (WideEvent left right)
IsMet (stop.Large units depth) e = e ≡ Meets (LargeEvent units depth)
IsMet stop.NoMemory e = Unit {0}

-- an effect that does not keep the table, or its event
abbrev pub TellsChange : Table → MoveEffect → Result Trial NfStop → Type 0
TellsChange T e (Ok t) = GivesChange T e t
TellsChange T e (Err s) = IsMet s e

-- the effect of a post, or its event
abbrev pub TellsTrial : Table → Point → Point → Post → MoveEffect → Result Trial NfStop → Type 0
TellsTrial T P Q post e (Ok t) = GivesTrial T P Q post e t
TellsTrial T P Q post e (Err s) = IsMet s e

-- the effect of a move from a node, with its post, or its event
abbrev pub Tries : MachinePair → Table → SearchNode → PathPair → Result Trial NfStop → Type 0
Tries m T n x (Ok t) = (post : Post) × (arrival m n x ≡ Done post)
    × GivesTrial T (end_of n.left x.left) (end_of n.right x.right) post (effect m T n x) t
Tries m T n x (Err s) = IsMet s (effect m T n x)

-- the effect of a move of its node
pub record TriesAt (m : MachinePair) (ls : List NodeRecord) (at : Move) (r : Result Trial NfStop) : Type 0 where
  pub node_record : NodeRecord
  pub is_in : slice_get ls at.node ≡ Some node_record
  pub tries : Tries m (table_of ls) node_record.node (paths_at m node_record.node at) r
