-- What holds of results and refusals, for another cause.
use Rattle.std.specs.Prelude.{Result, Ok, Err, IfOk}
use Rattle.std.specs.Result.{IfErr}
use Rattle.fsmd_replies.specs.declared.answer.Answer.{Answer}
use Rattle.fsmd_answers.specs.declared.refused.Refused.{Refused as Refusal}
use Rattle.fsmd_answers.specs.declared.refused.Refused.TheVariants.{Answered, NoMemory}
use Rattle.fsmd_answers.specs.Refusing.{WhereAnswered}

pub answer_map : (P Q : Answer → Type 0) → ((x : Answer) → P x → Q x) → (r : Refusal) → WhereAnswered P r → WhereAnswered Q r
answer_map P Q f (Answered x) h = f x h
answer_map P Q f NoMemory h = tt

pub ok_map : {T E : Type 0} (P Q : T → Type 0) → ((x : T) → P x → Q x) → (r : Result T E) → IfOk r P → IfOk r Q
ok_map P Q f (Ok x) h = f x h
ok_map P Q f (Err e) h = tt

pub err_map : {T E : Type 0} (P Q : E → Type 0) → ((x : E) → P x → Q x) → (r : Result T E) → IfErr r P → IfErr r Q
err_map P Q f (Ok x) h = tt
err_map P Q f (Err e) h = f e h
