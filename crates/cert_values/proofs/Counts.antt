-- The number of an object's members.
use Rattle.std.proofs.Common.{◌≡◌, ℕ, List, ◌==◌, length, nat_lt, Some, sym, ap, ◌∙◌}
use Rattle.serde_json.specs.Data.{Data}
use Rattle.cert_values.specs.View.{members_view, items_view}
use Rattle.cert_values.specs.declared.value.Value.{Value}
use Rattle.serde_json.specs.Find.{as_object, as_array}
use Rattle.cert_values.proofs.Views.{members_len-members_view, items_len-items_view, Entry}
use Rattle.cert_values.specs.Shape.{has_members, member_count_of, has_more}

pub counts : (d : Data) (es : List Entry) (n : ℕ) → Some (members_view es) ≡ as_object d → (length es == n) ≡ has_members n d
counts d es n e = ap (λ k. k == n) (sym (members_len-members_view es)) ∙ ap (λ o. member_count_of o == n) e

pub item_count : (d : Data) (vs : List Value) (limit : ℕ) → Some (items_view vs) ≡ as_array d → nat_lt limit (length vs) ≡ has_more limit (as_array d)
item_count d vs limit e = ap (λ k. nat_lt limit k) (sym (items_len-items_view vs)) ∙ ap (has_more limit) e
