-- Files of JSON objects from keys to values.
use Rattle.std.specs.Prelude.{◌≡◌, ◌≤◌, ℕ, List, length}
use Rattle.base_json_files.specs.Json.{IsNotJson}
use Rattle.fs_model.specs.Limits.{most_text_bytes}
use Rattle.fsmd_replies.specs.declared.answer.Operand.{Operand}
use Rattle.fsmd_replies.specs.declared.answer.KeyFault.{KeyFault}
use Rattle.fsmd_replies.specs.declared.answer.Answer.{Answer}
use Rattle.fsmd_replies.specs.declared.answer.Answer.TheVariants.{NotJson, KeyRefused}
use Rattle.fsmd_answers.specs.Readings.{FileContent, OfBytes}
use Rattle.fsmd_answers.specs.Unread.{IsUnread}

-- bytes that are read are not JSON
pub record AreNotJson (bytes : List ℕ) : Type 0 where
  pub few : length bytes ≤ most_text_bytes
  pub refused : IsNotJson bytes

-- why such a file is refused: it was not read, or its bytes are not JSON, or have this first fault at a key, by F
pub data RefusesKeys (F : KeyFault → (key bytes : List ℕ) → Type 0) (file : Operand) (content : FileContent)
    (answer : Answer) : Type 0 where
  UnreadKeys : IsUnread most_text_bytes file content answer → RefusesKeys F file content answer
  ByJson : OfBytes content AreNotJson → answer ≡ NotJson file → RefusesKeys F file content answer
  ByKey : (fault : KeyFault) (key : List ℕ) → OfBytes content (F fault key) → answer ≡ KeyRefused file fault key
      → RefusesKeys F file content answer
