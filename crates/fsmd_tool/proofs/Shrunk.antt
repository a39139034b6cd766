-- What the status of a call of `shrink` tells.
use Rattle.std.proofs.Common.{◌≡◌, ℕ, List, Option, Some, refl, ap}
use Rattle.std.specs.Prelude.{IsTrue}
use Rattle.std.proofs.lemmas.Bool.{false≢true}
use Rattle.fsmd_words.specs.AskedWords.{Asked, Shrink}
use Rattle.fs_model.specs.Machines.{Fsmd}
use Rattle.fs_model.specs.Runs.{Inputs, Content}
use Rattle.fs_trials.specs.Differences.{ShowsDifference}
use Rattle.hls_shrink.specs.Shrunk.{ShowDifference, EndsIn}
use Rattle.hls_shrink.specs.Given.{given_contents}
use Rattle.fsmd_replies.specs.declared.answer.Status.TheVariants as statuses
use Rattle.fsmd_replies.specs.declared.answer.Answer.{Answer}
use Rattle.fsmd_replies.specs.declared.answer.Answer.TheVariants.{Differs}
use Rattle.fsmd_answers.specs.LineAnswers.{HasLines}
use Rattle.fsmd_replies.specs.AskedFiles.{operand, shrink_limit}
use Rattle.fsmd_answers.specs.InputFiles.{HasInputFault, RefusesInputs, SpellsInputs}
use Rattle.fsmd_answers.specs.Replays.{IsOfReplay, LeftStopped, RightStopped, Agreed, Differed}
use Rattle.fsmd_answers.specs.Shrinks.{IsSmallText, IsOfShrink, Smaller, Replayed}
use Rattle.fsmd_replies.specs.Replies.{lines_of}
use Rattle.fsmd_answers.specs.Follows.{Ends, OpensInputs, OpensPair, FollowsFrom}
use Rattle.fsmd_tool.specs.Asking.{is_shrink}
use Rattle.fsmd_tool.specs.Calls.{Call, IsCorrectFrom}
use Rattle.fsmd_tool.specs.SinkReplies.{Put}
use Rattle.fsmd_tool.specs.Correct.{Answered}
use Rattle.fsmd_tool.specs.Clauses.{IsShrunk}
use Rattle.fsmd_tool.proofs.Statuses.{HasStatus, moved, not_refused, keys_refuse}
use Rattle.fsmd_tool.proofs.Found.{open_next, end_of, of_pair}
use Rattle.fsmd_tool.proofs.Says.{well, put_lines}

-- runs that end with other outputs show a difference
replay_differs : (limit : ℕ) (a b : Fsmd) (ins : Inputs) (x : Answer) → IsOfReplay limit a b ins x → HasStatus statuses.Differ x → ShowsDifference a b ins limit
replay_differs limit a b ins x (LeftStopped t e l) s =
    absurd (let h : statuses.Undecided ≡ statuses.Differ = moved statuses.Differ statuses.Undecided x _ l.is refl s in cc)
replay_differs limit a b ins x (RightStopped o n f t e l) s =
    absurd (let h : statuses.Undecided ≡ statuses.Differ = moved statuses.Differ statuses.Undecided x _ l.is refl s in cc)
replay_differs limit a b ins x (Agreed p q e t l) s =
    absurd (let h : statuses.Fine ≡ statuses.Differ = moved statuses.Differ statuses.Fine x _ l.is refl s in cc)
replay_differs limit a b ins x (Differed p q e t l) s =
    record { left = p; right = q; left_steps = e.left_steps; right_steps = e.right_steps; left_ends = e.left_ends; right_ends = e.right_ends; differ = t }

-- inputs that show a difference, and the lines of the end of the chain of their first reductions
record Small (limit : ℕ) (a b : Fsmd) (ins : Inputs) (x : Answer) : Type 0 where
  shows : ShowsDifference a b ins limit
  end : List Content
  ends : EndsIn (ShowDifference a b limit) (given_contents a ins) end
  told : HasLines (IsSmallText limit a b end) Differs x

small : (limit : ℕ) (a b : Fsmd) (ins : Inputs) (x : Answer) → IsOfShrink limit a b ins x → HasStatus statuses.Differ x → Small limit a b ins x
small limit a b ins x (Smaller d end e l) s = record { shows = d; end = end; ends = e; told = l }
small limit a b ins x (Replayed none r) s = absurd (none (replay_differs limit a b ins x r s))

shrink_follows : (g : Call) (x : Answer) (o : Option Asked) → IsTrue (is_shrink o) → IsCorrectFrom (FollowsFrom o) 0 g x
    → IsCorrectFrom (OpensPair (λ a b. OpensInputs a (λ ins. Ends (IsOfShrink (shrink_limit o) a b ins)))) 0 g x
shrink_follows g x (Some (Shrink left right inputs steps)) t c = c
shrink_follows g x _ t c = absurd (false≢true t)

pub is_shrunk : (g : Call) (p : Put) → Answered g p → p.status ≡ statuses.Differ → IsTrue (is_shrink g.asked) → IsShrunk g p
is_shrunk g p a e t =
    let w = well g p statuses.Differ a refl e in
    let x = a.answer in
    let n = shrink_limit g.asked in
    let b = of_pair (λ l r. OpensInputs l (λ ins. Ends (IsOfShrink n l r ins))) g statuses.Differ x refl w.meant_is (shrink_follows g x g.asked t a.correct) in
    let k = open_next Inputs (RefusesInputs b.left) (SpellsInputs b.left) (λ ins. Ends (IsOfShrink n b.left b.right ins)) 2 g x
    (λ c r. not_refused statuses.Differ x refl (keys_refuse (HasInputFault b.left) (operand 2) c x r) w.meant_is) b.rest in
    let s = small n b.left b.right k.value x (end_of (IsOfShrink n b.left b.right k.value) 3 g x k.rest) w.meant_is in
    record {
      left = b.left;
      right = b.right;
      inputs = k.value;
      end = s.end;
      lines = s.told.lines;
      first = b.first;
      second = b.second;
      third = k.spells;
      alike = b.alike;
      shows = s.shows;
      ends = s.ends;
      told = s.told.holds;
      put = put_lines g p x s.told.lines w.got (ap (λ y. lines_of y g.asked) {y = Differs s.told.lines} s.told.is);
    }
