-- How a call of `fsmd_show` ends.
use Rattle.std.specs.Prelude.{◌≡◌, ℕ, List, Option, Some, None, String, string_bytes, map, codes}
use Rattle.fs_base.specs.Outside.{FilesTold}
use Rattle.fsmd_replies.specs.declared.answer.Status.TheVariants.{Usage, NoMemory}
use Rattle.fsmd_replies.specs.declared.answer.Answer.{Answer}
use Rattle.fsmd_replies.specs.Statuses.{status_of}
use Rattle.fsmd_replies.specs.Replies.{reply}
use Rattle.fsmd_tool.specs.Calls.{call, IsCorrectFrom}
use Rattle.fsmd_tool.specs.SinkReplies.{Put, IsPut}
use Rattle.show_words.specs.ViewWords.{ShownView, shown_of}
use Rattle.show_tool.specs.Views.{ShownFrom}

-- what these words ask to see
abbrev pub shown_by_words : {A : Type 0} → List (String A) → Option ShownView
shown_by_words words = shown_of (map string_bytes words)

-- how the program is used
abbrev pub usage_text : List ℕ
usage_text = codes "usage: fsmd_show machine A | pair A B | why A B | certificate A B C | inputs A B | trace A I [--steps N]\n"

-- the answer follows, by the view, from what may have been read of the files, and was put with its status, whole or cut by a
-- sink that failed
pub record IsShown (s : ShownView) (before now : FilesTold) (p : Put) : Type 0 where
  pub answer : Answer
  pub correct : IsCorrectFrom (ShownFrom s.view) 0 (call (Some s.asked) before now) answer
  pub put : IsPut (reply answer (Some s.asked)) (status_of answer) p

-- what is asked was shown, or it was put how the program is used
abbrev pub PutsOf : Option ShownView → (before now : FilesTold) → Put → Type 0
PutsOf None before now p = IsPut usage_text Usage p
PutsOf (Some s) before now p = IsShown s before now p

-- how a call ends: with what was put; or there was no memory, and nothing was put
pub data ViewOutcome (w : Option ShownView) (before now : FilesTold) (p : Put) : Type 0 where
  Puts : PutsOf w before now p → ViewOutcome w before now p
  Starves : p.status ≡ NoMemory → p.got_now ≡ p.got_before → ViewOutcome w before now p
