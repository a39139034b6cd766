-- What is read of a token, and behind the bracket of a list or an object.
use Rattle.std.proofs.Common.{◌≡◌, ℕ, zero, suc, ◌-◌, ◌<◌, List, ◌∷◌, length, true, false, ◌&&◌, nat_lt, Option, Some, None, option_map}
use Rattle.std.proofs.Common.{Result, Ok, Err, refl, sym, ap, ◌∙◌, arith}
use Rattle.std.specs.Prelude.{Bool, is_ok, is_some, IfOk, OnOk}
use Rattle.std.specs.Result.{result_ok, result_map_both}
use Rattle.std.proofs.lemmas.Bool.{and_parts, ltb-true, lt-ltb, false≢true}
use Rattle.json.specs.Token.{Token}
use Rattle.json.specs.Json.{parse_map, items, members, value}
use Rattle.json.proofs.Grammar.{value_is, value-begin_array, value-begin_object}
use Rattle.serde_json.specs.Data.{Num, Data, number, array, object, Items, Members, no_members}
use Rattle.serde_json.specs.Read.{of_json, of_items, of_members, converted, number_of}
use Rattle.serde_json.specs.Find.{as_str}
use Rattle.cert_values.specs.View.{view}
use Rattle.cert_values.specs.declared.value.Value.{Value}
use Rattle.cert_json.specs.Trim.{trim, trim_items, trim_members, below, short_list, short_object}
use Rattle.cert_json.specs.Tokens.{begins_list, begins_object, data_of, data_or_fault}
use Rattle.cert_json.specs.declared.level.Level.{Level}
use Rattle.cert_json.specs.declared.trim.Fault.{Fault}
use Rattle.cert_json.specs.declared.trim.Fault.TheVariants.{NotJson, Again}
use Rattle.cert_json.proofs.Turns.{converted-array, converted-object}

-- ---- what the grammar reads from a token on

-- where no list and no object may be opened
at_bottom : (t : Token) (ts : List Token) → converted of_json (value 0 (t ∷ ts)) ≡ option_map (λ d. (d, ts)) (data_of t)
unfolding value
at_bottom Token.begin_object ts = refl
at_bottom Token.end_object ts = refl
at_bottom Token.begin_array ts = refl
at_bottom Token.end_array ts = refl
at_bottom (Token.key s) ts = refl
at_bottom (Token.string s) ts = refl
at_bottom (Token.number s) ts = refl
at_bottom (Token.boolean b) ts = refl
at_bottom Token.null ts = refl
at_bottom Token.bad ts = refl

-- a token that opens neither
alone : (n : ℕ) (t : Token) (ts : List Token) → begins_list t ≡ false → begins_object t ≡ false
    → converted of_json (value n (t ∷ ts)) ≡ option_map (λ d. (d, ts)) (data_of t)
alone n Token.begin_object ts l o = absurd (false≢true (sym o))
alone n Token.end_object ts l o = ap (converted of_json) (value_is n _)
alone n Token.begin_array ts l o = absurd (false≢true (sym l))
alone n Token.end_array ts l o = ap (converted of_json) (value_is n _)
alone n (Token.key s) ts l o = ap (converted of_json) (value_is n _)
alone n (Token.string s) ts l o = ap (converted of_json) (value_is n _)
alone n (Token.number s) ts l o = ap (converted of_json) (value_is n _)
alone n (Token.boolean b) ts l o = ap (converted of_json) (value_is n _)
alone n Token.null ts l o = ap (converted of_json) (value_is n _)
alone n Token.bad ts l o = ap (converted of_json) (value_is n _)

pub by_itself : (n : ℕ) (t : Token) (ts : List Token) → (nat_lt 0 n && begins_list t) ≡ false → (nat_lt 0 n && begins_object t) ≡ false
    → converted of_json (value n (t ∷ ts)) ≡ option_map (λ d. (d, ts)) (data_of t)
by_itself zero t ts l o = at_bottom t ts
by_itself (suc k) t ts l o =
    let some : nat_lt 0 (suc k) ≡ true = lt-ltb 0 (suc k) (omega arith) in
    alone (suc k) t ts (sym (ap (λ b. b && begins_list t) some) ∙ l) (sym (ap (λ b. b && begins_object t) some) ∙ o)

list_at : (n : ℕ) (t : Token) (ts : List Token) → begins_list t ≡ true → 0 < n
    → converted of_json (value n (t ∷ ts)) ≡ parse_map array (converted of_items (items (value (n - 1)) (length ts) ts))
list_at n Token.begin_object ts l some = absurd (false≢true l)
list_at n Token.end_object ts l some = absurd (false≢true l)
list_at n Token.begin_array ts l some = ap (converted of_json) (value-begin_array n ts some) ∙ converted-array (items (value (n - 1)) (length ts) ts)
list_at n Token.end_array ts l some = absurd (false≢true l)
list_at n (Token.key s) ts l some = absurd (false≢true l)
list_at n (Token.string s) ts l some = absurd (false≢true l)
list_at n (Token.number s) ts l some = absurd (false≢true l)
list_at n (Token.boolean b) ts l some = absurd (false≢true l)
list_at n Token.null ts l some = absurd (false≢true l)
list_at n Token.bad ts l some = absurd (false≢true l)

pub list_opens : (n : ℕ) (t : Token) (ts : List Token) → (nat_lt 0 n && begins_list t) ≡ true
    → converted of_json (value n (t ∷ ts)) ≡ parse_map array (converted of_items (items (value (n - 1)) (length ts) ts))
list_opens n t ts e = let p = and_parts (nat_lt 0 n) (begins_list t) e in list_at n t ts p.1 (ltb-true 0 n p.0)

object_at : (n : ℕ) (t : Token) (ts : List Token) → begins_object t ≡ true → 0 < n
    → converted of_json (value n (t ∷ ts)) ≡ parse_map object (converted (λ es. of_members es no_members) (members (value (n - 1)) (length ts) ts))
object_at n Token.begin_object ts o some = ap (converted of_json) (value-begin_object n ts some) ∙ converted-object (members (value (n - 1)) (length ts) ts)
object_at n Token.end_object ts o some = absurd (false≢true o)
object_at n Token.begin_array ts o some = absurd (false≢true o)
object_at n Token.end_array ts o some = absurd (false≢true o)
object_at n (Token.key s) ts o some = absurd (false≢true o)
object_at n (Token.string s) ts o some = absurd (false≢true o)
object_at n (Token.number s) ts o some = absurd (false≢true o)
object_at n (Token.boolean b) ts o some = absurd (false≢true o)
object_at n Token.null ts o some = absurd (false≢true o)
object_at n Token.bad ts o some = absurd (false≢true o)

pub object_opens : (n : ℕ) (t : Token) (ts : List Token) → (nat_lt 0 n && begins_object t) ≡ true
    → converted of_json (value n (t ∷ ts)) ≡ parse_map object (converted (λ es. of_members es no_members) (members (value (n - 1)) (length ts) ts))
object_opens n t ts e = let p = and_parts (nat_lt 0 n) (begins_object t) e in object_at n t ts p.1 (ltb-true 0 n p.0)

-- ---- the value of a token

number_stays : (v : Level) (o : Option Num) → option_map (trim v) (option_map number o) ≡ option_map number o
number_stays v None = refl
number_stays v (Some n) = refl

pub token_stays : (v : Level) (t : Token) → option_map (trim v) (data_of t) ≡ data_of t
token_stays v Token.begin_object = refl
token_stays v Token.end_object = refl
token_stays v Token.begin_array = refl
token_stays v Token.end_array = refl
token_stays v (Token.key s) = refl
token_stays v (Token.string s) = refl
token_stays v (Token.number s) = number_stays v (number_of s)
token_stays v (Token.boolean b) = refl
token_stays v Token.null = refl
token_stays v Token.bad = refl

pub any_ok : {A E : Type 0} (r : Result A E) {P : Type 0} → P → OnOk r P
any_ok (Ok x) p = p
any_ok (Err e) p = tt

pub token_read : (r : Result Value Fault) (o : Option Data) (v : Level) (ts : List Token) (all : Option (Data × List Token))
    → result_map_both view (λ e. e) r ≡ data_or_fault o → option_map (trim v) o ≡ o → all ≡ option_map (λ d. (d, ts)) o
    → IfOk r (λ x. (d : Data) × (all ≡ Some (d, ts)) × (view x ≡ trim v d))
token_read (Ok x) None v ts all is same e = absurd (cc is)
token_read (Ok x) (Some d) v ts all is same e =
    let seen : view x ≡ d = cc is in
    let stays : trim v d ≡ d = cc same in
    (d, e, seen ∙ sym stays)
token_read (Err f) o v ts all is same e = tt

pub token_refused : (o : Option Data) (r : Result Value Fault) (ts : List Token) (all : Option (Data × List Token))
    → result_map_both view (λ e. e) r ≡ data_or_fault o → all ≡ option_map (λ d. (d, ts)) o → r ≡ Err NotJson → all ≡ None
token_refused None r ts all is e refused = e
token_refused (Some d) (Ok x) ts all is e refused = absurd (cc refused)
token_refused (Some d) (Err f) ts all is e refused = absurd (cc is)

pub token_again : (o : Option Data) (r : Result Value Fault) → result_map_both view (λ e. e) r ≡ data_or_fault o → r ≡ Err Again → ⊥
token_again None (Ok x) is again = absurd (cc again)
token_again None (Err f) is again = absurd (cc (is, again))
token_again (Some d) (Ok x) is again = absurd (cc again)
token_again (Some d) (Err f) is again = absurd (cc is)

-- ---- whether the value of a token is a text

-- a number that is in range, and one that is not
pub number_in_range : (o : Option Num) → is_some o ≡ true → Some false ≡ option_map (λ d. is_some (as_str d)) (option_map number o)
number_in_range None e = absurd (false≢true e)
number_in_range (Some n) e = refl

pub number_past_range : (o : Option Num) → is_some o ≡ false → None ≡ option_map (λ d. is_some (as_str d)) (option_map number o)
number_past_range None e = refl
number_past_range (Some n) e = absurd (false≢true (sym e))

pub text_read : {E : Type 0} (r : Result Bool E) (o : Option Data) (ts : List Token) (all : Option (Data × List Token))
    → result_ok r ≡ option_map (λ d. is_some (as_str d)) o → all ≡ option_map (λ d. (d, ts)) o
    → IfOk r (λ t. (d : Data) × (all ≡ Some (d, ts)) × (t ≡ is_some (as_str d)))
text_read (Ok t) None ts all is e = absurd (cc is)
text_read (Ok t) (Some d) ts all is e = let same : t ≡ is_some (as_str d) = cc is in (d, e, same)
text_read (Err f) o ts all is e = tt

pub text_refused : {E : Type 0} (o : Option Data) (r : Result Bool E) (ts : List Token) (all : Option (Data × List Token))
    → result_ok r ≡ option_map (λ d. is_some (as_str d)) o → all ≡ option_map (λ d. (d, ts)) o → is_ok r ≡ false → all ≡ None
text_refused None r ts all is e refused = e
text_refused (Some d) (Ok t) ts all is e refused = absurd (false≢true (sym refused))
text_refused (Some d) (Err f) ts all is e refused = absurd (cc is)

-- ---- the value of what was gathered of a list or an object

pub same_refusal : {U : Type 0} (r : Result Value Fault) (u : Result U Fault) (f : U → Data) (e : Fault)
    → result_map_both view (λ d. d) r ≡ result_map_both f (λ d. d) u → r ≡ Err e → u ≡ Err e
same_refusal (Ok x) u f e is refused = absurd (cc refused)
same_refusal (Err d) (Ok y) f e is refused = absurd (cc is)
same_refusal (Err d) (Err k) f e is refused = let same : k ≡ e = cc (is, refused) in ap Err same

pub when_read : {U : Type 0} (r : Result Value Fault) (u : Result U Fault) (f : U → Data) {P Q : Type 0}
    → result_map_both view (λ d. d) r ≡ result_map_both f (λ d. d) u → (P → Q) → OnOk u P → OnOk r Q
when_read (Ok x) (Ok y) f is go h = go h
when_read (Ok x) (Err e) f is go h = absurd (cc is)
when_read (Err e) u f is go h = tt

pub opened_list : {U : Type 0} (r : Result Value Fault) (u : Result U Fault) (l : Data) (v w : Level) (ts : List Token)
    (all : Option (Data × List Token)) (left : Option (Items × List Token))
    → result_map_both view (λ e. e) r ≡ result_map_both (λ y. l) (λ e. e) u → all ≡ parse_map array left → w ≡ below v
    → IfOk u (λ y. (ds : Items) × (left ≡ Some (ds, ts)) × (l ≡ short_list (trim_items w ds)))
    → IfOk r (λ x. (d : Data) × (all ≡ Some (d, ts)) × (view x ≡ trim v d))
opened_list (Ok x) (Ok y) l v w ts all left seen is level found =
    let same : view x ≡ l = cc seen in
    (array found.0, is ∙ ap (parse_map array) found.1, same ∙ found.2 ∙ ap (λ k. short_list (trim_items k found.0)) level)
opened_list (Ok x) (Err e) l v w ts all left seen is level found = absurd (cc seen)
opened_list (Err e) u l v w ts all left seen is level found = tt

pub opened_object : {U : Type 0} (r : Result Value Fault) (u : Result U Fault) (f : U → Data) (v : Level) (ts : List Token)
    (all : Option (Data × List Token)) (left : Option (Members × List Token))
    → result_map_both view (λ e. e) r ≡ result_map_both f (λ e. e) u → all ≡ parse_map object left
    → IfOk u (λ y. (ms : Members) × (left ≡ Some (ms, ts)) × (f y ≡ short_object v (trim_members (below v) ms)))
    → IfOk r (λ x. (d : Data) × (all ≡ Some (d, ts)) × (view x ≡ trim v d))
opened_object (Ok x) (Ok y) f v ts all left seen is found =
    let same : view x ≡ f y = cc seen in
    (object found.0, is ∙ ap (parse_map object) found.1, same ∙ found.2)
opened_object (Ok x) (Err e) f v ts all left seen is found = absurd (cc seen)
opened_object (Err e) u f v ts all left seen is found = tt
