-- The text of a value is UTF-8, and so it is JSON of this value.
use Rattle.std.proofs.Common.{◌≤◌, Bool, true, false, [], ◌∷◌, ◌++◌, IsUtf8, refl}
use Rattle.std.proofs.lemmas.Str.{IsUtf8-append, IsUtf8-nil, IsUtf8-from_ascii}
use Rattle.std.proofs.lemmas.Fmt.{IsAscii-decimal}
use Rattle.json.specs.Print.{quoted}
use Rattle.json.proofs.Printed.Utf8.{IsUtf8-are_ascii, IsUtf8-quoted, IsUtf8-boolean}
use Rattle.serde_json.specs.Data.{Num, unsigned, negative, float, Data, null, boolean, number, string, array, object, Items, no_items, item, Members}
use Rattle.serde_json.specs.Data.{no_members, member, depth}
use Rattle.serde_json.specs.Written.{number_text, comma_if, compact_text, items_text, members_text}
use Rattle.base_json_files.specs.Json.{IsJson}
use Rattle.search_laws.specs.Orderly.{IsCount, IsOrderly, AreOrderly, MembersAreOrderly}
use Rattle.search_laws.proofs.TextsAgain.{read_again}

comma_utf8 : (later : Bool) → IsUtf8 (comma_if later)
comma_utf8 true = IsUtf8-are_ascii (44 ∷ []) refl
comma_utf8 false = IsUtf8-nil

number_utf8 : (n : Num) → IsCount n → IsUtf8 (number_text n)
number_utf8 (unsigned n) h = IsUtf8-from_ascii (number_text (unsigned n)) (IsAscii-decimal n h)
number_utf8 (negative z) h = absurd h
number_utf8 (float x) h = absurd h

mutual
  pub value_utf8 : (d : Data) → IsOrderly d → IsUtf8 (compact_text d)
  value_utf8 null h = IsUtf8-are_ascii (compact_text null) refl
  value_utf8 (boolean b) h = IsUtf8-boolean b
  value_utf8 (number n) h = number_utf8 n h
  value_utf8 (string s) h = IsUtf8-quoted s h
  value_utf8 (array ds) h = IsUtf8-append (91 ∷ []) (items_text false ds) (IsUtf8-are_ascii (91 ∷ []) refl) (items_utf8 false ds h)
  value_utf8 (object ms) h = IsUtf8-append (123 ∷ []) (members_text false ms) (IsUtf8-are_ascii (123 ∷ []) refl) (members_utf8 false ms h.1)

  items_utf8 : (later : Bool) (ds : Items) → AreOrderly ds → IsUtf8 (items_text later ds)
  items_utf8 later no_items h = IsUtf8-are_ascii (93 ∷ []) refl
  items_utf8 later (item d ds) h = IsUtf8-append (comma_if later) (compact_text d ++ items_text true ds) (comma_utf8 later)
      (IsUtf8-append (compact_text d) (items_text true ds) (value_utf8 d h.0) (items_utf8 true ds h.1))

  members_utf8 : (later : Bool) (ms : Members) → MembersAreOrderly ms → IsUtf8 (members_text later ms)
  members_utf8 later no_members h = IsUtf8-are_ascii (125 ∷ []) refl
  members_utf8 later (member k d ms) h =
      let rest = compact_text d ++ members_text true ms in
      IsUtf8-append (comma_if later) (quoted k ++ 58 ∷ rest) (comma_utf8 later)
      (IsUtf8-append (quoted k) (58 ∷ rest) (IsUtf8-quoted k h.0)
      (IsUtf8-append (58 ∷ []) rest (IsUtf8-are_ascii (58 ∷ []) refl)
      (IsUtf8-append (compact_text d) (members_text true ms) (value_utf8 d h.1) (members_utf8 true ms h.2))))

pub is_json : (d : Data) → IsOrderly d → depth d ≤ 127 → IsJson (compact_text d) d
is_json d h low = record { text = value_utf8 d h; value = read_again d h low }
