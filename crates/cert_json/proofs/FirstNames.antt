-- The first members of objects whose names get more.
use Rattle.std.proofs.Common.{◌≡◌, ℕ, zero, suc, ◌+◌, ◌<◌, ◌≤◌, List, [], ◌∷◌, ◌++◌, length, true, false, Option, Some, None, Bor}
use Rattle.std.proofs.Common.{Ordering, Less, Equal, Greater, nat_cmp, refl, sym, ap, ◌∙◌, subst, arith}
use Rattle.std.specs.Prelude.{is_some, IsSome, IfSome, ◌↔◌, if◌then◌else◌}
use Rattle.std.specs.Cmp.Lexicographic.{slice_cmp}
use Rattle.std.specs.List.{All}
use Rattle.std.specs.Map.{keys_of}
use Rattle.std.specs.Ordering.{match_ordering, ordering_reverse, is_lt}
use Rattle.std.proofs.lemmas.Bool.{and_parts, not-false, false≢true}
use Rattle.std.proofs.lemmas.Cmp.{nat_list_cmp_total, tied_itself}
use Rattle.std.proofs.lemmas.List.Elements.{All-head, All-tail}
use Rattle.std.proofs.lemmas.Map.Lookups.{exact_bytes}
use Rattle.serde_json.specs.Data.{Data, Members, no_members, member, put}
use Rattle.serde_json.specs.Events.{members_len}
use Rattle.serde_json.specs.Find.{get_member, as_str}
use Rattle.cert_values.specs.View.{view, members_view}
use Rattle.cert_values.proofs.Views.{Entry, name_cmp}
use Rattle.cert_values.specs.Shape.{name_texts}
use Rattle.cert_json.specs.Trim.{first_members}
use Rattle.cert_json.specs.Objects.{AreBehind, AreAscending, is_no_text}

-- ---- the first members

pub first_twice : (n : ℕ) (ms : Members) → first_members n (first_members n ms) ≡ first_members n ms
first_twice zero ms = refl
first_twice (suc n) no_members = refl
first_twice (suc n) (member k d ms) = ap (member k d) (first_twice n ms)

first_fewer : (n : ℕ) (ms : Members) → first_members n (first_members (suc n) ms) ≡ first_members n ms
first_fewer zero ms = refl
first_fewer (suc n) no_members = refl
first_fewer (suc n) (member k d ms) = ap (member k d) (first_fewer n ms)

first_behind : (n : ℕ) (k : List ℕ) (d : Data) (ms : Members) → first_members n (member k d ms) ≡ first_members n (member k d (first_members n ms))
first_behind zero k d ms = refl
first_behind (suc n) k d ms = ap (member k d) (sym (first_fewer n ms))

first_put_at : (n : ℕ) (k l : List ℕ) (d e : Data) (ms : Members) (o : Ordering)
    → first_members n (put k d ms) ≡ first_members n (put k d (first_members n ms))
    → first_members (suc n) (match_ordering o (member k d (member l e ms)) (member l d ms) (member l e (put k d ms)))
    ≡ first_members (suc n)
    (match_ordering o (member k d (member l e (first_members n ms))) (member l d (first_members n ms)) (member l e (put k d (first_members n ms))))
first_put_at n k l d e ms Less more = ap (member k d) (first_behind n l e ms)
first_put_at n k l d e ms Equal more = ap (member l d) (sym (first_twice n ms))
first_put_at n k l d e ms Greater more = ap (member l e) more

-- what is put in comes among the first as it comes among the first alone
pub first_put : (n : ℕ) (k : List ℕ) (d : Data) (ms : Members) → first_members n (put k d ms) ≡ first_members n (put k d (first_members n ms))
first_put zero k d ms = refl
first_put (suc n) k d no_members = refl
first_put (suc n) k d (member l e ms) = first_put_at n k l d e ms (slice_cmp nat_cmp k l) (first_put n k d ms)

pub first_members_all : (n : ℕ) (ms : Members) → members_len ms ≤ n → first_members n ms ≡ ms
first_members_all zero no_members le = refl
first_members_all zero (member k d ms) le = absurd (omega arith)
first_members_all (suc n) no_members le = refl
first_members_all (suc n) (member k d ms) le = ap (member k d) (first_members_all n ms (omega arith))

pub first_of_more : (n : ℕ) (es : List Entry) (e : Entry) → n ≤ length es
    → first_members n (members_view (es ++ e ∷ [])) ≡ first_members n (members_view es)
first_of_more zero es e le = refl
first_of_more (suc n) [] e le = absurd (omega arith)
first_of_more (suc n) (f ∷ es) e le = ap (member f.0.now (view f.1)) (first_of_more n es e (omega arith))

-- the last member taken out of more
pub popped : (n : ℕ) (r : Option Entry) (old new : List Entry) → (IsSome r ↔ (0 < length old)) → IfSome r (λ p. old ≡ new ++ p ∷ [])
    → length new + (if is_some r then 1 else 0) ≡ length old → n < length old → first_members n (members_view new) ≡ first_members n (members_view old)
popped n None old new some is len less = absurd (false≢true (some.1 (omega (arith, less))))
popped n (Some p) old new some is len less =
    sym (ap (λ es. first_members n (members_view es)) is ∙ first_of_more n new p (omega (arith, len, less)))

pub texts_first : (n : ℕ) (ms : Members) → name_texts ms ≡ true → name_texts (first_members n ms) ≡ true
texts_first zero ms h = refl
texts_first (suc n) no_members h = refl
texts_first (suc n) (member k d ms) h = let p = and_parts (is_some (as_str d)) (name_texts ms) h in rw (p.0, texts_first n ms p.1)

-- ---- a name behind all

abbrev IsPast : List ℕ → List Entry → Type 0
IsPast k [] = Unit {0}
IsPast k (e ∷ es) = (slice_cmp nat_cmp k e.0.now ≡ Greater) × IsPast k es

less_from_greater : (k l : List ℕ) → slice_cmp nat_cmp k l ≡ Greater → slice_cmp nat_cmp l k ≡ Less
less_from_greater k l h = nat_list_cmp_total.antisymm l k ∙ ap ordering_reverse h

past_one : (k l j : List ℕ) (o : Ordering) → slice_cmp nat_cmp k l ≡ Greater → slice_cmp nat_cmp l j ≡ o → is_lt o ≡ false → slice_cmp nat_cmp k j ≡ Greater
past_one k l j Less h is low = absurd (false≢true (sym low))
past_one k l j Equal h is low = ap (slice_cmp nat_cmp k) (sym (exact_bytes l j is)) ∙ h
past_one k l j Greater h is low =
    let less : slice_cmp nat_cmp j k ≡ Less = nat_list_cmp_total.trans j l k (less_from_greater l j is) (less_from_greater k l h) in
    nat_list_cmp_total.antisymm k j ∙ ap ordering_reverse less

past_all : (k : List ℕ) (last : Bor (List ℕ)) (es : List Entry) → slice_cmp nat_cmp k last.now ≡ Greater
    → All (λ q. is_lt (name_cmp last q) ≡ false) (keys_of es) → IsPast k es
past_all k last [] h all = tt
past_all k last (e ∷ es) h all = (
  past_one k last.now e.0.now _ h refl (All-head (λ q. is_lt (name_cmp last q) ≡ false) e.0 (keys_of es) all),
  past_all k last es h (All-tail (λ q. is_lt (name_cmp last q) ≡ false) e.0 (keys_of es) all),
)

first_past : (n : ℕ) (k : List ℕ) (d : Data) (es : List Entry) → n ≤ length es → IsPast k es
    → first_members n (put k d (members_view es)) ≡ first_members n (members_view es)
first_past zero k d es le h = refl
first_past (suc n) k d [] le h = absurd (omega arith)
first_past (suc n) k d (e ∷ es) le h = rw h.0 (ap (member e.0.now (view e.1)) (first_past n k d es (omega arith) h.1))

-- a name behind the last one, where there are as many
pub past_last : (n : ℕ) (k : List ℕ) (last : Bor (List ℕ)) (es : List Entry) → n ≤ length es → slice_cmp nat_cmp k last.now ≡ Greater
    → All (λ q. is_lt (name_cmp last q) ≡ false) (keys_of es) → (d : Data)
    → first_members n (put k d (members_view es)) ≡ first_members n (members_view es)
past_last n k last es le h all d = first_past n k d es le (past_all k last es h all)

-- ---- names that ascend

module _ (j k : List ℕ) (d : Data) (less : slice_cmp nat_cmp j k ≡ Less) where
  behind_put_at : (l : List ℕ) (e : Data) (ms : Members) (o : Ordering) → slice_cmp nat_cmp j l ≡ Less → AreBehind j ms → AreBehind j (put k d ms)
      → AreBehind j (match_ordering o (member k d (member l e ms)) (member l d ms) (member l e (put k d ms)))
  behind_put_at l e ms Less h hs more = (less, (h, hs))
  behind_put_at l e ms Equal h hs more = (h, hs)
  behind_put_at l e ms Greater h hs more = (h, more)

  behind_put : (ms : Members) → AreBehind j ms → AreBehind j (put k d ms)
  behind_put no_members h = (less, tt)
  behind_put (member l e ms) h = behind_put_at l e ms (slice_cmp nat_cmp k l) h.0 h.1 (behind_put ms h.1)

behind_all : (k l : List ℕ) (ms : Members) → slice_cmp nat_cmp k l ≡ Less → AreBehind l ms → AreBehind k ms
behind_all k l no_members less h = tt
behind_all k l (member j d ms) less h = (nat_list_cmp_total.trans k l j less h.0, behind_all k l ms less h.1)

ascending_put_at : (k l : List ℕ) (d e : Data) (ms : Members) (o : Ordering) → slice_cmp nat_cmp k l ≡ o → AreBehind l ms → AreAscending ms
    → AreAscending (put k d ms)
    → AreAscending (match_ordering o (member k d (member l e ms)) (member l d ms) (member l e (put k d ms)))
ascending_put_at k l d e ms Less is h hs more = ((is, behind_all k l ms is h), (h, hs))
ascending_put_at k l d e ms Equal is h hs more = (h, hs)
ascending_put_at k l d e ms Greater is h hs more = (behind_put l k d (less_from_greater k l is) ms h, more)

pub ascending_put : (k : List ℕ) (d : Data) (ms : Members) → AreAscending ms → AreAscending (put k d ms)
ascending_put k d no_members h = (tt, tt)
ascending_put k d (member l e ms) h = ascending_put_at k l d e ms (slice_cmp nat_cmp k l) refl h.0 h.1 (ascending_put k d ms h.1)

behind_first : (n : ℕ) (k : List ℕ) (ms : Members) → AreBehind k ms → AreBehind k (first_members n ms)
behind_first zero k ms h = tt
behind_first (suc n) k no_members h = tt
behind_first (suc n) k (member l d ms) h = (h.0, behind_first n k ms h.1)

pub ascending_first : (n : ℕ) (ms : Members) → AreAscending ms → AreAscending (first_members n ms)
ascending_first zero ms h = tt
ascending_first (suc n) no_members h = tt
ascending_first (suc n) (member k d ms) h = (behind_first n k ms h.0, ascending_first n ms h.1)

-- ---- members that are no texts

none_chosen : (o : Ordering) (a : Option Data) (d : Data) → is_no_text a ≡ false → is_some (as_str d) ≡ true
    → is_no_text (match_ordering o a (Some d) a) ≡ false
none_chosen Less a d h text = h
none_chosen Equal a d h text = rw text
none_chosen Greater a d h text = h

pub texts_no_other : (q : List ℕ) (ms : Members) → name_texts ms ≡ true → is_no_text (get_member q ms) ≡ false
texts_no_other q no_members h = refl
texts_no_other q (member k d ms) h =
    let p = and_parts (is_some (as_str d)) (name_texts ms) h in
    none_chosen (slice_cmp nat_cmp q k) (get_member q ms) d (texts_no_other q ms p.1) p.0

none_behind : (k : List ℕ) (ms : Members) → AreBehind k ms → get_member k ms ≡ None
none_behind k no_members h = refl
none_behind k (member l d ms) h = rw h.0 (none_behind k ms h.1)

rest_at : (q k : List ℕ) (d : Data) (ms : Members) (o : Ordering) → slice_cmp nat_cmp q k ≡ o → AreBehind k ms
    → is_no_text (match_ordering o (get_member q ms) (Some d) (get_member q ms)) ≡ false → is_no_text (get_member q ms) ≡ false
rest_at q k d ms Less is behind h = h
rest_at q k d ms Equal is behind h =
    ap is_no_text (subst (λ j. get_member j ms ≡ None) (sym (exact_bytes q k is)) (none_behind k ms behind))
rest_at q k d ms Greater is behind h = h

-- of members that ascend, all are texts where no name has anything else
pub texts_from : (ms : Members) → AreAscending ms → ((q : List ℕ) → is_no_text (get_member q ms) ≡ false) → name_texts ms ≡ true
texts_from no_members up none = refl
texts_from (member k d ms) up none =
    let same : slice_cmp nat_cmp k k ≡ Equal = tied_itself nat_list_cmp_total k in
    let here : is_no_text (Some d) ≡ false =
    subst (λ o. is_no_text (match_ordering o (get_member k ms) (Some d) (get_member k ms)) ≡ false) same (none k) in
    let text : is_some (as_str d) ≡ true = not-false (is_some (as_str d)) here in
    rw (text, texts_from ms up.1 (λ q. rest_at q k d ms (slice_cmp nat_cmp q k) refl up.0 (none q)))
