-- Posts of src/ as plain data.
use Rattle.std.specs.Prelude.{map, Result, Ok, Err}
use Rattle.nf_terms.specs.declared.stop.NfStop.{NfStop}
use Rattle.nf_rel.specs.View.{literal_in}
use Rattle.sym_paths.specs.declared.execution.Post.{Post as CodePost}
use Rattle.sym_paths.specs.Execution.{Post}
use Rattle.sym_paths.specs.declared.assignments.Change.{Change as CodeChange}
use Rattle.sym_paths.specs.declared.assignments.Change.TheVariants as code
use Rattle.sym_paths.specs.Evaluation.{Change, SetTo, PutAt, PushTo}

-- an answer with a value in other words
abbrev pub answer_in_data : {S T : Type 0} → (S → T) → Result S NfStop → Result T NfStop
answer_in_data f (Ok s) = Ok (f s)
answer_in_data f (Err stop) = Err stop

abbrev pub post_in : CodePost → Post
post_in p = record { conditions = map literal_in p.conds.items; vector = p.vector }

abbrev pub change_in : CodeChange → Change
change_in (code.Set x value) = SetTo x.0 value
change_in (code.Put x index value) = PutAt x.0 index value
change_in (code.Push x value) = PushTo x.0 value
