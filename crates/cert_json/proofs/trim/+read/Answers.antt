use Rattle.std.proofs.Common.{◌≡◌, ◌-◌, ◌<◌, ◌≤◌, [], true, subst, ◌∷◌, length, Some, None, sym, ap, ◌∙◌, refl, arith}
use Rattle.json.specs.Json.{parse_map, after_end_array, read_key, items, value}
use Rattle.json.specs.Reads.{token_of}
use Rattle.json.proofs.Grammar.{value_is, read_key-shorter}
use Rattle.serde_json.specs.Data.{array, object, no_items, no_members, item, put}
use Rattle.serde_json.specs.Read.{of_json, of_items, converted}
use Rattle.cert_values.specs.View.{view}
use Rattle.cert_values.specs.Shape.{are_texts}
use Rattle.cert_json.specs.Trim.{trim_items, trim_members, short_list, below, exceeds}
use Rattle.cert_json.specs.Objects.{IsShortObject, object_of}
use Rattle.cert_json.specs.Lists.{join_items, add_item, IsShort, final_list, list_of}
use Rattle.cert_json.specs.Tokens.{data_of}
use Rattle.cert_json.specs.declared.trim.Fault.TheVariants.{NotJson, Again}
use Rattle.cert_json.proofs.TrimLaws.{trim-are_texts}
use Rattle.cert_json.proofs.Turns.{item_read, item_refused, items_over, member_read, member_refused, key_refused, members_over}
use Rattle.cert_json.proofs.ListLaws.{join-no_items, none_before, one_more_item, trim-add_item, trim-join_items, list_kept, settled_list}
use Rattle.cert_json.proofs.ObjectLaws.{none_exceed, kept_put, settled_members}
use Rattle.cert_json.proofs.Opened.{by_itself, list_opens, object_opens, token_stays, any_ok, token_read, token_refused, token_again}
use Rattle.cert_json.proofs.Opened.{same_refusal, when_read, opened_list, opened_object}
use Rattle.cert_json.proofs.trim.+read.Goals as goal

pub read-returns-in_err-token-clause-err : goal.read-returns-in_err-token-clause-err
read-returns-in_err-token-clause-err t c refused =
    let empty : c.args.reader.now ≡ [] = grind arith in
    ap (converted of_json) (ap (value c.args.depth) empty ∙ value_is c.args.depth [])

pub read-returns-then-begins_list-clause-ok : goal.read-returns-then-begins_list-clause-ok
read-returns-then-begins_list-clause-ok t c =
    let first : c.args.reader.now ≡ token_of c.in_ok-token.token ∷ c.next.new.self = grind arith in
    let opened = ap (λ k. converted of_json (value c.args.depth k)) first
    ∙ list_opens c.args.depth (token_of c.in_ok-token.token) c.next.new.self (sym c.if-begins_list.ensures.value) in
    opened_list c.value_of_list.result c.read_items-outcome.result (list_of c.read_items-outcome.new.found) c.args.level c.below.result
    c.read_items-outcome.new.reader _ _
    c.value_of_list.ensures opened c.below.ensures c.read_items-outcome.ensures.ok

pub read-returns-then-begins_list-clause-shorter : goal.read-returns-then-begins_list-clause-shorter
read-returns-then-begins_list-clause-shorter t c =
    let first : c.args.reader.now ≡ token_of c.in_ok-token.token ∷ c.next.new.self = grind arith in
    when_read c.value_of_list.result c.read_items-outcome.result (λ u. list_of c.read_items-outcome.new.found) c.value_of_list.ensures
    (λ less. omega (arith, less, ap length first)) c.read_items-outcome.ensures.shorter

pub read-returns-then-begins_list-clause-again : goal.read-returns-then-begins_list-clause-again
read-returns-then-begins_list-clause-again t c refused =
    let stopped = same_refusal c.value_of_list.result c.read_items-outcome.result (λ u. list_of c.read_items-outcome.new.found) Again
    c.value_of_list.ensures refused in
    c.read_items-outcome.ensures.again stopped

pub read-returns-then-begins_list-clause-err : goal.read-returns-then-begins_list-clause-err
read-returns-then-begins_list-clause-err t c refused =
    let first : c.args.reader.now ≡ token_of c.in_ok-token.token ∷ c.next.new.self = grind arith in
    let opened = ap (λ k. converted of_json (value c.args.depth k)) first
    ∙ list_opens c.args.depth (token_of c.in_ok-token.token) c.next.new.self (sym c.if-begins_list.ensures.value) in
    let stopped = same_refusal c.value_of_list.result c.read_items-outcome.result (λ u. list_of c.read_items-outcome.new.found) NotJson
    c.value_of_list.ensures refused in
    opened ∙ ap (parse_map array) (c.read_items-outcome.ensures.err stopped)

pub read-returns-then-begins_object-clause-ok : goal.read-returns-then-begins_object-clause-ok
read-returns-then-begins_object-clause-ok t c =
    let first : c.args.reader.now ≡ token_of c.in_ok-token.token ∷ c.next.new.self = grind arith in
    let opened = ap (λ k. converted of_json (value c.args.depth k)) first
    ∙ object_opens c.args.depth (token_of c.in_ok-token.token) c.next.new.self (sym c.if-begins_object.ensures.value) in
    opened_object c.value_of_object.result c.read_members-outcome.result (object_of c.read_members-outcome.new.found) c.args.level
    c.read_members-outcome.new.reader _ _ c.value_of_object.ensures opened c.read_members-outcome.ensures.ok

pub read-returns-then-begins_object-clause-shorter : goal.read-returns-then-begins_object-clause-shorter
read-returns-then-begins_object-clause-shorter t c =
    let first : c.args.reader.now ≡ token_of c.in_ok-token.token ∷ c.next.new.self = grind arith in
    let found = object_of c.read_members-outcome.new.found in
    when_read c.value_of_object.result c.read_members-outcome.result found c.value_of_object.ensures
    (λ less. omega (arith, less, ap length first)) c.read_members-outcome.ensures.shorter

pub read-returns-then-begins_object-clause-again : goal.read-returns-then-begins_object-clause-again
read-returns-then-begins_object-clause-again t c refused =
    let found = object_of c.read_members-outcome.new.found in
    c.read_members-outcome.ensures.again (same_refusal c.value_of_object.result c.read_members-outcome.result found Again c.value_of_object.ensures refused)

pub read-returns-then-begins_object-clause-err : goal.read-returns-then-begins_object-clause-err
read-returns-then-begins_object-clause-err t c refused =
    let first : c.args.reader.now ≡ token_of c.in_ok-token.token ∷ c.next.new.self = grind arith in
    let opened = ap (λ k. converted of_json (value c.args.depth k)) first
    ∙ object_opens c.args.depth (token_of c.in_ok-token.token) c.next.new.self (sym c.if-begins_object.ensures.value) in
    let found = object_of c.read_members-outcome.new.found in
    let stopped = same_refusal c.value_of_object.result c.read_members-outcome.result found NotJson c.value_of_object.ensures refused in
    opened ∙ ap (parse_map object) (c.read_members-outcome.ensures.err stopped)

pub read-returns-clause-ok : goal.read-returns-clause-ok
read-returns-clause-ok t c =
    let first : c.args.reader.now ≡ token_of c.in_ok-token.token ∷ c.next.new.self = grind arith in
    let token = token_of c.in_ok-token.token in
    let is = ap (λ k. converted of_json (value c.args.depth k)) first
    ∙ by_itself c.args.depth token c.next.new.self (sym c.if-begins_list.ensures.value) (sym c.if-begins_object.ensures.value) in
    token_read c.value_of_token.result (data_of token) c.args.level c.next.new.self _ c.value_of_token.ensures (token_stays c.args.level token) is

pub read-returns-clause-shorter : goal.read-returns-clause-shorter
read-returns-clause-shorter t c =
    let first : c.args.reader.now ≡ token_of c.in_ok-token.token ∷ c.next.new.self = grind arith in
    any_ok c.value_of_token.result (omega (arith, ap length first))

pub read-returns-clause-again : goal.read-returns-clause-again
read-returns-clause-again t c refused =
    absurd (token_again (data_of (token_of c.in_ok-token.token)) c.value_of_token.result c.value_of_token.ensures refused)

pub read-returns-clause-err : goal.read-returns-clause-err
read-returns-clause-err t c refused =
    let first : c.args.reader.now ≡ token_of c.in_ok-token.token ∷ c.next.new.self = grind arith in
    let token = token_of c.in_ok-token.token in
    let is = ap (λ k. converted of_json (value c.args.depth k)) first
    ∙ by_itself c.args.depth token c.next.new.self (sym c.if-begins_list.ensures.value) (sym c.if-begins_object.ensures.value) in
    token_refused (data_of token) c.value_of_token.result c.next.new.self _ c.value_of_token.ensures is refused

pub read_items-items-init : goal.read_items-items-init
read_items-items-init t c =
    let all = converted of_items (items (value c.args.depth) (length c.args.reader.now) c.args.reader.now) in (
      length c.args.reader.now,
      omega arith,
      no_items,
      none_before all,
      c.requires,
      omega arith,
    )

pub read_items-returns-in_err-item-clause-err : goal.read_items-returns-in_err-item-clause-err
read_items-returns-in_err-item-clause-err t c refused =
    let p = value c.args.depth in
    let l = c.items in
    let n = l.invariant.0 in
    let going : (after_end_array l.reader ≡ None) × (c.take_end_array.new.self ≡ l.reader) = grind arith in
    l.invariant.3 ∙ ap (parse_map (join_items l.invariant.2)) (item_refused p n l.reader going.0 (rw (← going.1) (c.read.ensures.err (grind arith))))

pub read_items-items-preserved : goal.read_items-items-preserved
read_items-items-preserved t c =
    let p = value c.args.depth in
    let l = c.items in
    let n = l.invariant.0 in
    let ds = l.invariant.2 in
    let going : (after_end_array l.reader ≡ None) × (c.take_end_array.new.self ≡ l.reader) = grind arith in
    let done = c.in_ok-item.ensures in
    let level = c.args.level in
    let v = c.in_ok-item.item in
    let r = c.read.new.reader in
    let d = done.ok.0 in
    let less : length r < length l.reader = rw (← going.1) done.shorter in
    let turn = item_read p n l.reader r d (omega (arith, l.invariant.1)) going.0 (rw (← going.1) done.ok.1) in
    let same : add_item (trim_items level ds) (view v) ≡ trim_items level (add_item ds d) =
    ap (add_item (trim_items level ds)) done.ok.2 ∙ sym (trim-add_item level ds d) in (
      n - 1,
      omega (arith, l.invariant.1),
      add_item ds d,
      l.invariant.3 ∙ ap (parse_map (join_items ds)) turn ∙ one_more_item ds d (converted of_items (items p (n - 1) r)),
      subst (λ es. IsShort es c.add_to_list.new.list) same (c.in_ok-add_to_list.ensures (trim_items level ds) l.invariant.4),
      omega (arith, l.invariant.5),
    )

pub read_items-returns-in_err-texts-clause-err : goal.read_items-returns-in_err-texts-clause-err
read_items-returns-in_err-texts-clause-err t c refused =
    let p = value c.args.depth in
    let l = c.items in
    let n = l.invariant.0 in
    let ds = l.invariant.2 in
    let going : (after_end_array l.reader ≡ None) × (c.take_end_array.new.self ≡ l.reader) = grind arith in
    let done = c.in_ok-item.ensures in
    let r = c.read.new.reader in
    let d = done.ok.0 in
    let less : length r < length l.reader = rw (← going.1) done.shorter in
    let turn = item_read p n l.reader r d (omega (arith, l.invariant.1)) going.0 (rw (← going.1) done.ok.1) in
    let enough : length r ≤ n - 1 = omega (arith, l.invariant.1) in
    l.invariant.3 ∙ ap (parse_map (join_items ds)) (turn ∙ ap (parse_map (item d)) (c.skip_items.ensures.err (grind arith) (n - 1) enough))

pub read_items-returns-then-is_settled-clause-ok : goal.read_items-returns-then-is_settled-clause-ok
read_items-returns-then-is_settled-clause-ok t c =
    let p = value c.args.depth in
    let l = c.items in
    let n = l.invariant.0 in
    let ds = l.invariant.2 in
    let going : (after_end_array l.reader ≡ None) × (c.take_end_array.new.self ≡ l.reader) = grind arith in
    let done = c.in_ok-item.ensures in
    let r = c.read.new.reader in
    let d = done.ok.0 in
    let more = add_item ds d in
    let less : length r < length l.reader = rw (← going.1) done.shorter in
    let turn = item_read p n l.reader r d (omega (arith, l.invariant.1)) going.0 (rw (← going.1) done.ok.1) in
    let enough : length r ≤ n - 1 = omega (arith, l.invariant.1) in
    let level = c.args.level in
    let same : add_item (trim_items level ds) (view c.in_ok-item.item) ≡ trim_items level more =
    ap (add_item (trim_items level ds)) done.ok.2 ∙ sym (trim-add_item level ds d) in
    let short = subst (λ es. IsShort es c.add_to_list.new.list) same (c.in_ok-add_to_list.ensures (trim_items level ds) l.invariant.4) in
    let left = c.in_ok-texts.ensures.ok in
    let texts : c.in_ok-texts.texts ≡ are_texts (trim_items level left.0) = left.2 ∙ sym (trim-are_texts level left.0) in (
      join_items more left.0,
      l.invariant.3 ∙ ap (parse_map (join_items ds)) turn ∙ one_more_item ds d (converted of_items (items p (n - 1) r))
          ∙ ap (parse_map (join_items more)) (left.1 (n - 1) enough),
      settled_list c.add_to_list.new.list c.settle.new.list c.in_ok-texts.texts c.settle.ensures.texts c.settle.ensures.nodes c.settle.ensures.items
          ∙ ap (final_list c.add_to_list.new.list) texts
          ∙ c.if-is_settled.ensures refl (trim_items level more) (trim_items level left.0) short
          ∙ ap short_list (sym (trim-join_items level more left.0)),
    )

pub read_items-returns-clause-ok : goal.read_items-returns-clause-ok
read_items-returns-clause-ok t c =
    let p = value c.args.depth in
    let l = c.items in
    let n = l.invariant.0 in
    let ds = l.invariant.2 in
    let r = c.take_end_array.new.self in (
      ds,
      l.invariant.3 ∙ ap (parse_map (join_items ds)) (items_over p n l.reader r l.invariant.1 (grind arith)) ∙ ap (λ es. Some (es, r)) (join-no_items ds),
      list_kept (trim_items c.args.level ds) l.found l.invariant.4,
    )

pub read_members-members-init : goal.read_members-members-init
read_members-members-init t c =
    let made = c.requires in
    let few = ap (λ es. exceeds c.args.level (length es)) made.none ∙ none_exceed c.args.level in
    (length c.args.reader.now, omega arith, no_members, refl, made.short c.args.level, few, omega arith, λ _. made.whole)

pub read_members-returns-in_err-name-clause-err : goal.read_members-returns-in_err-name-clause-err
read_members-returns-in_err-name-clause-err t c refused =
    let p = value c.args.depth in
    let l = c.members in
    let n = l.invariant.0 in
    let old = l.invariant.2 in
    l.invariant.3 ∙ key_refused p old n l.reader c.in_err-name.ensures.value

pub read_members-returns-in_err-member-clause-err : goal.read_members-returns-in_err-member-clause-err
read_members-returns-in_err-member-clause-err t c refused =
    let p = value c.args.depth in
    let l = c.members in
    let n = l.invariant.0 in
    let old = l.invariant.2 in
    let k = c.in-Some.name.now in
    let s = c.next_key.new.self in
    let named : read_key l.reader ≡ Some (Some k, s) = grind arith in
    l.invariant.3 ∙ member_refused p old n k l.reader s named (c.read.ensures.err (grind arith))

pub read_members-members-preserved : goal.read_members-members-preserved
read_members-members-preserved t c =
    let p = value c.args.depth in
    let l = c.members in
    let n = l.invariant.0 in
    let old = l.invariant.2 in
    let k = c.in-Some.name.now in
    let s = c.next_key.new.self in
    let named : read_key l.reader ≡ Some (Some k, s) = grind arith in
    let done = c.in_ok-member.ensures in
    let v = c.in_ok-member.member in
    let r = c.read.new.reader in
    let d = done.ok.0 in
    let less = read_key-shorter l.reader (Some k) s named in
    let lesser = done.shorter in (
      n - 1,
      omega (arith, l.invariant.1),
      put k d old,
      l.invariant.3 ∙ member_read p old n k l.reader s r d (omega (arith, l.invariant.1)) named done.ok.1,
      kept_put c.args.level c.below.result k d (view v) _ _ old c.below.ensures done.ok.2 l.invariant.4 c.in_ok-add_member.ensures.short,
      ap (exceeds c.args.level) (sym c.len.ensures.len) ∙ sym c.if-exceeds.ensures,
      omega (arith, l.invariant.6),
      λ all. c.in_ok-add_member.ensures.whole all (l.invariant.7 all),
    )

pub read_members-returns-in_err-skip_members-clause-err : goal.read_members-returns-in_err-skip_members-clause-err
read_members-returns-in_err-skip_members-clause-err t c refused =
    let p = value c.args.depth in
    let l = c.members in
    let n = l.invariant.0 in
    let old = l.invariant.2 in
    let k = c.in-Some.name.now in
    let s = c.next_key.new.self in
    let named : read_key l.reader ≡ Some (Some k, s) = grind arith in
    let done = c.in_ok-member.ensures in
    let r = c.read.new.reader in
    let d = done.ok.0 in
    let less = read_key-shorter l.reader (Some k) s named in
    let lesser = done.shorter in
    let enough : length r ≤ n - 1 = omega (arith, l.invariant.1, less, lesser) in
    l.invariant.3 ∙ member_read p old n k l.reader s r d (omega (arith, l.invariant.1, less, lesser)) named done.ok.1
    ∙ c.skip_members.ensures.err (grind arith) (put k d old) (n - 1) enough

pub read_members-returns-then-exceeds-clause-ok : goal.read_members-returns-then-exceeds-clause-ok
read_members-returns-then-exceeds-clause-ok t c =
    let p = value c.args.depth in
    let l = c.members in
    let n = l.invariant.0 in
    let old = l.invariant.2 in
    let k = c.in-Some.name.now in
    let s = c.next_key.new.self in
    let named : read_key l.reader ≡ Some (Some k, s) = grind arith in
    let done = c.in_ok-member.ensures in
    let v = c.in_ok-member.member in
    let r = c.read.new.reader in
    let d = done.ok.0 in
    let less = read_key-shorter l.reader (Some k) s named in
    let lesser = done.shorter in
    let enough : length r ≤ n - 1 = omega (arith, l.invariant.1, less, lesser) in
    let level = c.args.level in
    let object = c.add_member.new.object in
    let same : IsShortObject level (trim_members (below level) (put k d old)) object =
    kept_put level c.below.result k d (view v) _ _ old c.below.ensures done.ok.2 l.invariant.4 c.in_ok-add_member.ensures.short in
    let many : exceeds level (length object.members.entries) ≡ true = ap (exceeds level) (sym c.len.ensures.len) ∙ sym c.if-exceeds.ensures in
    let read = l.invariant.3 ∙ member_read p old n k l.reader s r d (omega (arith, l.invariant.1, less, lesser)) named done.ok.1 in
    settled_members level object (put k d old) _ _ _ read same many (c.in_ok-skip_members.ensures.ok (put k d old) (n - 1) enough)

pub read_members-returns-in-Some-close_object-clause-ok : goal.read_members-returns-in-Some-close_object-clause-ok
read_members-returns-in-Some-close_object-clause-ok t c =
    let p = value c.args.depth in
    let l = c.members in
    let n = l.invariant.0 in
    let old = l.invariant.2 in (
      old,
      l.invariant.3 ∙ members_over p old n l.reader c.next_key.new.self l.invariant.1 (grind arith),
      c.in-Some-close_object.ensures.value (trim_members (below c.args.level) old) l.invariant.4 l.invariant.5,
    )
