-- Objects whose names get more, and what is kept of them.
use Rattle.std.proofs.Common.{◌≡◌, ℕ, suc, ◌≤◌, List, [], true, false, length, nat_lt, nat_cmp, Option, Some}
use Rattle.std.proofs.Common.{Ordering, Less, Equal, Greater, refl, sym, ap, ◌∙◌, subst, arith}
use Rattle.std.specs.Cmp.Lexicographic.{slice_cmp}
use Rattle.std.specs.Ordering.{match_ordering}
use Rattle.std.proofs.lemmas.Bool.{ltb-true, lt-ltb, false≢true}
use Rattle.json.specs.Token.{Token}
use Rattle.serde_json.specs.Data.{Data, null, object, Members, no_members, member, put}
use Rattle.serde_json.specs.Events.{members_len}
use Rattle.cert_values.specs.View.{members_view}
use Rattle.cert_values.proofs.Views.{members_len-members_view, Entry}
use Rattle.cert_json.specs.Trim.{below, exceeds, keeps_first, first_names, short_equations, short_object, trim, trim_members}
use Rattle.cert_json.specs.Objects.{TellsOthers, IsShortObject, IsEmpty, is_noted}
use Rattle.cert_json.specs.declared.short_object.ShortObject.{ShortObject}
use Rattle.cert_json.specs.declared.level.Level.{Level}
use Rattle.cert_json.specs.declared.level.Level.TheVariants.{File, FileMember, Node, NodeMember, Deeper}
use Rattle.cert_json.proofs.FirstNames.{first_put, ascending_put}
use Rattle.cert_json.proofs.TrimLaws.{few_names, many_names, trim-members_len}

trim-choice : (v : Level) (o : Ordering) (a b c : Members)
    → trim_members v (match_ordering o a b c) ≡ match_ordering o (trim_members v a) (trim_members v b) (trim_members v c)
trim-choice v Less a b c = refl
trim-choice v Equal a b c = refl
trim-choice v Greater a b c = refl

trim-put : (v : Level) (k : List ℕ) (d : Data) (ms : Members) → trim_members v (put k d ms) ≡ put k (trim v d) (trim_members v ms)
trim-put v k d no_members = refl
trim-put v k d (member l e ms) = trim-choice v (slice_cmp nat_cmp k l) (member k d (member l e ms)) (member l d ms) (member l e (put k d ms))
    ∙ rw (trim-put v k d ms)

-- the value of a name is put into what is kept of the members
pub kept_put : (v w : Level) (k : List ℕ) (d x : Data) (before after : ShortObject) (ms : Members) → w ≡ below v → x ≡ trim w d
    → IsShortObject v (trim_members (below v) ms) before
    → ((ns : Members) → IsShortObject v ns before → IsShortObject v (put k x ns) after)
    → IsShortObject v (trim_members (below v) (put k d ms)) after
kept_put v w k d x before after ms level value members put_in =
    let same : put k x (trim_members (below v) ms) ≡ trim_members (below v) (put k d ms) =
    ap (λ y. put k y (trim_members (below v) ms)) (value ∙ ap (λ u. trim u d) level) ∙ sym (trim-put (below v) k d ms) in
    subst (λ ns. IsShortObject v ns after) same (put_in (trim_members (below v) ms) members)

-- ---- what is kept of one member more

-- where the first names are kept
pub first_added : (v : Level) (k : List ℕ) (d : Data) (ms : Members) (before after : ShortObject) → keeps_first v ≡ true
    → first_names (members_view after.members.entries) ≡ first_names (put k d (members_view before.members.entries))
    → (TellsOthers ms before.others.keys before.is_partial → TellsOthers (put k d ms) after.others.keys after.is_partial)
    → IsShortObject v ms before → IsShortObject v (put k d ms) after
first_added v k d ms before after keeps first noted h = record {
  whole = λ none. absurd (false≢true (sym none ∙ keeps));
  first = first ∙ first_put 385 k d (members_view before.members.entries) ∙ ap (λ ns. first_names (put k d ns)) h.first ∙ sym (first_put 385 k d ms);
  others = λ first. noted (h.others first);
  ascending = ascending_put k d ms h.ascending;
}

-- and elsewhere
pub any_added : (v : Level) (k : List ℕ) (d : Data) (ms : Members) (before after : ShortObject) → keeps_first v ≡ false
    → members_view after.members.entries ≡ put k d (members_view before.members.entries)
    → IsShortObject v ms before → IsShortObject v (put k d ms) after
any_added v k d ms before after none is h =
    let old : Members = members_view before.members.entries in
    record {
      whole = λ none. is ∙ ap (put k d) (h.whole none);
      first = ap first_names is ∙ first_put 385 k d old ∙ ap (λ ns. first_names (put k d ns)) h.first ∙ sym (first_put 385 k d ms);
      others = λ first. absurd (false≢true (sym none ∙ first));
      ascending = ascending_put k d ms h.ascending;
    }

-- an object of no members
pub none_added : (o : ShortObject) → o.members.entries ≡ [] → o.others.keys ≡ [] → o.is_partial ≡ false → IsEmpty o
none_added o none no_others whole =
    let same : members_view o.members.entries ≡ no_members = ap members_view none in
    record {
      short = λ v. record {
        whole = λ _. same;
        first = ap first_names same;
        others = λ _. record {
          agree = λ q some. absurd (false≢true (sym (ap (is_noted q) no_others) ∙ some));
          rest = λ _ q _. refl;
        };
        ascending = tt;
      };
      none = none;
      whole = whole;
    }

-- ---- names only get more

more_at : (k l : List ℕ) (d e : Data) (ms : Members) (o : Ordering) → members_len ms ≤ members_len (put k d ms)
    → suc (members_len ms) ≤ members_len (match_ordering o (member k d (member l e ms)) (member l d ms) (member l e (put k d ms)))
more_at k l d e ms Less more = omega arith
more_at k l d e ms Equal more = omega arith
more_at k l d e ms Greater more = omega (arith, more)

pub put-members_len : (k : List ℕ) (d : Data) (ms : Members) → members_len ms ≤ members_len (put k d ms)
put-members_len k d no_members = omega arith
put-members_len k d (member l e ms) = more_at k l d e ms (slice_cmp nat_cmp k l) (put-members_len k d ms)

pub none_exceed : (v : Level) → exceeds v 0 ≡ false
none_exceed File = refl
none_exceed FileMember = refl
none_exceed Node = refl
none_exceed NodeMember = refl
none_exceed Deeper = refl

past : (limit n m : ℕ) → n ≤ m → nat_lt limit n ≡ true → nat_lt limit m ≡ true
past limit n m le e = lt-ltb limit m (omega (arith, le, ltb-true limit n e))

more_exceed : (v : Level) (n m : ℕ) → n ≤ m → exceeds v n ≡ true → exceeds v m ≡ true
more_exceed File n m le e = past 2 n m le e
more_exceed FileMember n m le e = past 0 n m le e
more_exceed Node n m le e = past 6 n m le e
more_exceed NodeMember n m le e = e
more_exceed Deeper n m le e = past 0 n m le e

-- ---- an object of which all is kept, and one that has a name too many, whatever follows

not_first : (v : Level) (n : ℕ) → exceeds v n ≡ true → keeps_first v ≡ false
not_first File n e = refl
not_first FileMember n e = refl
not_first Node n e = refl
not_first NodeMember n e = absurd (false≢true e)
not_first Deeper n e = refl

pub kept_object : (v : Level) (o : ShortObject) (ms : Members) → keeps_first v ≡ false → IsShortObject v ms o
    → exceeds v (length o.members.entries) ≡ false → object (members_view o.members.entries) ≡ short_object v ms
kept_object v o ms all h few =
    let e : members_view o.members.entries ≡ ms = h.whole all in
    let count : members_len ms ≡ length o.members.entries = ap members_len (sym e) ∙ members_len-members_view o.members.entries in
    ap object e ∙ sym (few_names v ms all (ap (exceeds v) count ∙ few))

-- where the first names are kept
pub short_is : (v : Level) (ms : Members) → keeps_first v ≡ true → short_equations ms ≡ short_object v ms
short_is v ms first = rw first

settled_object : (v : Level) (o : ShortObject) (ms more : Members) → IsShortObject v (trim_members (below v) ms) o
    → exceeds v (length o.members.entries) ≡ true → members_len ms ≤ members_len more
    → null ≡ short_object v (trim_members (below v) more)
settled_object v o ms more h many le =
    let es : List Entry = o.members.entries in
    let all : keeps_first v ≡ false = not_first v (length es) many in
    let e : members_view es ≡ trim_members (below v) ms = h.whole all in
    let count : length es ≡ members_len ms = sym (members_len-members_view es) ∙ ap members_len e ∙ trim-members_len (below v) ms in
    let many_more : exceeds v (members_len more) ≡ true = more_exceed v (members_len ms) (members_len more) le (ap (exceeds v) (sym count) ∙ many) in
    sym (many_names v (trim_members (below v) more) all (ap (exceeds v) (trim-members_len (below v) more) ∙ many_more))

-- what is read of an object whose members are passed over from one name too many on
pub settled_members : (v : Level) (o : ShortObject) (ms : Members) (r : List Token) (all left : Option (Members × List Token)) → all ≡ left
    → IsShortObject v (trim_members (below v) ms) o
    → exceeds v (length o.members.entries) ≡ true
    → (more : Members) × (left ≡ Some (more, r)) × (members_len ms ≤ members_len more)
    → (more : Members) × (all ≡ Some (more, r)) × (null ≡ short_object v (trim_members (below v) more))
settled_members v o ms r all left same h many found = (found.0, same ∙ found.1, settled_object v o ms found.0 h many found.2)
