-- A member whose value is written anew.
use Rattle.std.proofs.Common.{◌≡◌, List, ◌∷◌, [], ℕ, Some, None, Bor, Ordering, Less, Equal, Greater, nat_cmp, refl}
use Rattle.std.proofs.Common.{sym, ap, ◌∙◌}
use Rattle.std.specs.Prelude.{is_some}
use Rattle.std.proofs.lemmas.Bool.{false≢true}
use Rattle.std.proofs.lemmas.Cmp.{nat_list_cmp_total}
use Rattle.std.specs.Cmp.Lexicographic.{slice_cmp}
use Rattle.std.specs.List.{AllByRecursion}
use Rattle.std.specs.List.Sorted.{IsStrictlySortedBy}
use Rattle.std.specs.Map.{keys_of, lookup, set_value}
use Rattle.std.specs.BTreeMap.{is_at}
use Rattle.serde_json.specs.Data.{member, put}
use Rattle.cert_values.specs.View.{view, members_view}
use Rattle.cert_values.specs.declared.value.Value.{Value}
use Rattle.cert_values.proofs.Views.{Entry, name_cmp}

none_above : (name : List ℕ) (k : Bor (List ℕ)) (es : List Entry) → slice_cmp nat_cmp name k.now ≡ Less
    → AllByRecursion (λ y. name_cmp k y ≡ Less) (keys_of es) → lookup (is_at (λ j. slice_cmp nat_cmp name j.now)) es ≡ None
none_above name k [] less above = refl
none_above name k (e ∷ es) less above =
    let next : slice_cmp nat_cmp name e.0.now ≡ Less = nat_list_cmp_total.trans name k.now e.0.now less above.0 in
    rw next (none_above name k es less above.1)

written_first : (name : List ℕ) (v : Value) (e : Entry) (es : List Entry) (w : Value) (o : Ordering) → slice_cmp nat_cmp name e.0.now ≡ o
    → AllByRecursion (λ y. name_cmp e.0 y ≡ Less) (keys_of es)
    → lookup (is_at (λ j. slice_cmp nat_cmp name j.now)) (e ∷ es) ≡ Some w
    → (lookup (is_at (λ j. slice_cmp nat_cmp name j.now)) es ≡ Some w
    → members_view (set_value (is_at (λ j. slice_cmp nat_cmp name j.now)) es v) ≡ put name (view v) (members_view es))
    → members_view (set_value (is_at (λ j. slice_cmp nat_cmp name j.now)) (e ∷ es) v) ≡ put name (view v) (members_view (e ∷ es))
written_first name v e es w Less is above found rest =
    let none : lookup (is_at (λ j. slice_cmp nat_cmp name j.now)) (e ∷ es) ≡ None = rw is (none_above name e.0 es is above) in
    absurd (false≢true (ap is_some (sym none ∙ found)))
written_first name v e es w Equal is above found rest = rw is
written_first name v e es w Greater is above found rest =
    let same : lookup (is_at (λ j. slice_cmp nat_cmp name j.now)) es
    ≡ lookup (is_at (λ j. slice_cmp nat_cmp name j.now)) (e ∷ es) = rw is in
    rw is (ap (member e.0.now (view e.1)) (rest (same ∙ found)))

-- the value at a name that is there
pub written_member : (name : List ℕ) (v : Value) (es : List Entry) (w : Value) → IsStrictlySortedBy name_cmp (keys_of es)
    → lookup (is_at (λ j. slice_cmp nat_cmp name j.now)) es ≡ Some w
    → members_view (set_value (is_at (λ j. slice_cmp nat_cmp name j.now)) es v) ≡ put name (view v) (members_view es)
unfolding IsStrictlySortedBy
written_member name v [] w sorted found = absurd (false≢true (ap is_some found))
written_member name v (e ∷ es) w sorted found =
    written_first name v e es w (slice_cmp nat_cmp name e.0.now) refl sorted.0 found (λ there. written_member name v es w sorted.1 there)
