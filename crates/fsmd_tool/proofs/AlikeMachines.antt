-- What a call tells of two machines that are alike.
use Rattle.std.proofs.Common.{◌≡◌, inl, inr}
use Rattle.std.specs.Prelude.{IsTrue}
use Rattle.fsmd_replies.specs.declared.answer.Status.TheVariants.{Fine, Differ, Undecided, NoMemory}
use Rattle.fsmd_replies.specs.AskedFiles.{compares, step_limit}
use Rattle.fsmd_answers.proofs.Alike.{closes_where_same, has_limit, no_counterexample}
use Rattle.fsmd_tool.specs.Calls.{Call}
use Rattle.fsmd_tool.specs.SinkReplies.{Put}
use Rattle.fsmd_tool.specs.Correct.{Answered}
use Rattle.fsmd_tool.specs.AlikeCalls.{AnswersPair, Closes, Stops, TellsOfAlike}
use Rattle.fsmd_tool.proofs.Says.{says_same, says_differ, says_undecided}

module _ (g : Call) (p : Put) (a : Answered g p) (t : IsTrue (compares g.asked)) where
  same_of_alike : p.status ≡ Fine → TellsOfAlike g p
  same_of_alike e =
      let s = says_same g p a e t in
      record {
        left = s.left;
        right = s.right;
        paired = s.paired;
        tells = λ K alike. Closes e s.nodes (closes_where_same s.left s.right K alike s.nodes s.shows) s.put;
      }

  difference_of_alike : p.status ≡ Differ → TellsOfAlike g p
  difference_of_alike e =
      let s = says_differ g p a e t in
      record {
        left = s.left;
        right = s.right;
        paired = s.paired;
        tells = λ K alike. absurd (no_counterexample s.left s.right K alike (step_limit g.asked) s.lines s.shows);
      }

  obstacle_of_alike : p.status ≡ Undecided → TellsOfAlike g p
  obstacle_of_alike e =
      let s = says_undecided g p a e t in
      record {
        left = s.left;
        right = s.right;
        paired = s.paired;
        tells = λ K alike. Stops e s.lines (has_limit s.left s.right K alike s.lines s.is_undecided.obstacle) s.put;
      }

pub tells_of_alike : (g : Call) (p : Put) → Answered g p → AnswersPair p.status → IsTrue (compares g.asked) → TellsOfAlike g p
tells_of_alike g p a (inl e) t = same_of_alike g p a t e
tells_of_alike g p a (inr (inl e)) t = difference_of_alike g p a t e
tells_of_alike g p a (inr (inr e)) t = obstacle_of_alike g p a t e

pub no_memory_of_pair : AnswersPair NoMemory → ⊥
no_memory_of_pair (inl e) = absurd (cc e)
no_memory_of_pair (inr (inl e)) = absurd (cc e)
no_memory_of_pair (inr (inr e)) = absurd (cc e)
