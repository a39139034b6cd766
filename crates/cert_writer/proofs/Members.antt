-- Members of an object.
use Rattle.std.proofs.Common.{◌≡◌, List, String, Global, string_bytes, string_cmp, ap, ◌∙◌, rules}
use Rattle.std.specs.BTreeMap.{insert_entry}
use Rattle.serde_json.specs.Data.{put, string}
use Rattle.serde_json.specs.View.{view, members_view}
use Rattle.serde_json.specs.declared.value.Value.{Value, String as Text, the_lemmas}
use Rattle.serde_json.proofs.Views.{members_view-insert_entry}

view_text : (s : String Global) → view (Text s) ≡ string (string_bytes s)
view_text s = search (rules, the_lemmas)

-- an insertion of a text puts it under its key
pub text_put : (old new : List (String Global × Value)) (key text : String Global) → new ≡ insert_entry string_cmp old key (Text text)
    → members_view new ≡ put (string_bytes key) (string (string_bytes text)) (members_view old)
text_put old new key text e = ap members_view e ∙ members_view-insert_entry old key (Text text)
    ∙ ap (λ d. put (string_bytes key) d (members_view old)) (view_text text)
