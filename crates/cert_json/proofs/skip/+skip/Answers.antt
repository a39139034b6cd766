use Rattle.std.proofs.Common.{◌≡◌, ◌-◌, ◌<◌, ◌&&◌, [], refl, ◌∷◌, length, Some, None, sym, ap, ◌∙◌, arith}
use Rattle.json.specs.Json.{parse_map, after_end_array, read_key, items, value}
use Rattle.json.specs.Reads.{token_of}
use Rattle.json.proofs.Grammar.{value_is, read_key-shorter}
use Rattle.serde_json.specs.Data.{array, object, no_items, no_members, put}
use Rattle.serde_json.specs.Read.{of_json, of_items, converted}
use Rattle.cert_json.specs.Lists.{join_items, add_item}
use Rattle.cert_json.specs.Tokens.{data_of}
use Rattle.cert_json.proofs.Turns.{item_read, item_refused, items_over, member_read, member_refused, key_refused}
use Rattle.cert_json.proofs.Turns.{members_over, list_ends, list_goes_on}
use Rattle.cert_json.proofs.ListLaws.{join-no_items, none_before, one_more_item, texts_on}
use Rattle.cert_json.proofs.Opened.{list_opens, object_opens, by_itself, any_ok, text_read, text_refused}
use Rattle.cert_json.proofs.ObjectLaws.{put-members_len}
use Rattle.cert_json.proofs.skip.+skip.Goals as goal

pub skip_from-returns-then-begins_list-clause-ok : goal.skip_from-returns-then-begins_list-clause-ok
skip_from-returns-then-begins_list-clause-ok t c =
    let ts = c.args.reader.now in
    let opened = list_opens c.args.depth (token_of c.args.token) ts (sym c.if-begins_list.ensures.value) in
    let found = c.in_ok-skip_items.ensures.ok in
    (array found.0, opened ∙ ap (parse_map array) (found.1 (length ts) (omega arith)), refl)

pub skip_from-returns-in_err-skip_items-clause-err : goal.skip_from-returns-in_err-skip_items-clause-err
skip_from-returns-in_err-skip_items-clause-err t c refused =
    let ts = c.args.reader.now in
    list_opens c.args.depth (token_of c.args.token) ts (sym c.if-begins_list.ensures.value)
    ∙ ap (parse_map array) (c.skip_items.ensures.err (grind arith) (length ts) (omega arith))

pub skip_from-returns-then-begins_object-clause-ok : goal.skip_from-returns-then-begins_object-clause-ok
skip_from-returns-then-begins_object-clause-ok t c =
    let ts = c.args.reader.now in
    let opened = object_opens c.args.depth (token_of c.args.token) ts (sym c.if-begins_object.ensures.value) in
    let found = c.in_ok-skip_members.ensures.ok no_members (length ts) (omega arith) in
    (object found.0, opened ∙ ap (parse_map object) found.1, refl)

pub skip_from-returns-in_err-skip_members-clause-err : goal.skip_from-returns-in_err-skip_members-clause-err
skip_from-returns-in_err-skip_members-clause-err t c refused =
    let ts = c.args.reader.now in
    object_opens c.args.depth (token_of c.args.token) ts (sym c.if-begins_object.ensures.value)
    ∙ ap (parse_map object) (c.skip_members.ensures.err (grind arith) no_members (length ts) (omega arith))

pub skip_from-returns-clause-ok : goal.skip_from-returns-clause-ok
skip_from-returns-clause-ok t c =
    let token = token_of c.args.token in
    let ts = c.args.reader.now in
    text_read c.is_text.result (data_of token) ts _ c.is_text.ensures
    (by_itself c.args.depth token ts (sym c.if-begins_list.ensures.value) (sym c.if-begins_object.ensures.value))

pub skip_from-returns-clause-shorter : goal.skip_from-returns-clause-shorter
skip_from-returns-clause-shorter t c = any_ok c.is_text.result (omega arith)

pub skip_from-returns-clause-err : goal.skip_from-returns-clause-err
skip_from-returns-clause-err t c refused =
    let token = token_of c.args.token in
    let ts = c.args.reader.now in
    text_refused (data_of token) c.is_text.result ts _ c.is_text.ensures
    (by_itself c.args.depth token ts (sym c.if-begins_list.ensures.value) (sym c.if-begins_object.ensures.value)) refused

pub skip_members-returns-in_err-next_key-clause-err : goal.skip_members-returns-in_err-next_key-clause-err
skip_members-returns-in_err-next_key-clause-err t c refused old n enough =
    let l = c.members in
    let i = l.invariant.0 old n enough in
    i.3 ∙ key_refused (value c.args.depth) i.2 i.0 l.reader c.in_err-next_key.ensures.value

pub skip_items-items-init : goal.skip_items-items-init
skip_items-items-init t c =
    (no_items, λ n enough. (n, enough, none_before (converted of_items (items (value c.args.depth) n c.args.reader.now))), refl, omega arith)

pub skip_items-returns-in_err-token-clause-err : goal.skip_items-returns-in_err-token-clause-err
skip_items-returns-in_err-token-clause-err t c refused n enough =
    let p = value c.args.depth in
    let l = c.items in
    let i = l.invariant.1 n enough in
    let empty : l.reader ≡ [] = grind arith in
    i.2 ∙ ap (parse_map (join_items l.invariant.0))
    (item_refused p i.0 l.reader (ap after_end_array empty) (ap (converted of_json) (ap p empty ∙ value_is c.args.depth [])))

pub skip_items-returns-in_err-is_text-clause-err : goal.skip_items-returns-in_err-is_text-clause-err
skip_items-returns-in_err-is_text-clause-err t c refused n enough =
    let p = value c.args.depth in
    let l = c.items in
    let i = l.invariant.1 n enough in
    let ts = c.next.new.self in
    let first : l.reader ≡ token_of c.in_ok-token.token ∷ ts = grind arith in
    let going : after_end_array l.reader ≡ None = ap after_end_array first ∙ list_goes_on _ ts (sym c.if-is_end.ensures) in
    let none : converted of_json (p l.reader) ≡ None = ap (λ k. converted of_json (p k)) first ∙ c.skip_from.ensures.err (grind arith) in
    i.2 ∙ ap (parse_map (join_items l.invariant.0)) (item_refused p i.0 l.reader going none)

pub skip_items-items-preserved : goal.skip_items-items-preserved
skip_items-items-preserved t c =
    let p = value c.args.depth in
    let l = c.items in
    let ds = l.invariant.0 in
    let ts = c.next.new.self in
    let first : l.reader ≡ token_of c.in_ok-token.token ∷ ts = grind arith in
    let going : after_end_array l.reader ≡ None = ap after_end_array first ∙ list_goes_on _ ts (sym c.if-is_end.ensures) in
    let done = c.in_ok-is_text.ensures in
    let r = c.skip_from.new.reader in
    let d = done.ok.0 in
    let read : converted of_json (p l.reader) ≡ Some (d, r) = ap (λ k. converted of_json (p k)) first ∙ done.ok.1 in
    let less : length r < length l.reader = omega (arith, ap length first, done.shorter) in (
      add_item ds d,
      λ n enough.
          let i = l.invariant.1 n enough in
          let turn = item_read p i.0 l.reader r d (omega (arith, less, i.1)) going read in
          (i.0 - 1, omega (arith, less, i.1), i.2 ∙ ap (parse_map (join_items ds)) turn ∙ one_more_item ds d (converted of_items (items p (i.0 - 1) r))),
      texts_on ds d l.texts _ l.invariant.2 (ap (λ t. l.texts && t) done.ok.2),
      omega (arith, less, l.invariant.3),
    )

pub skip_items-returns-then-is_end-clause-ok : goal.skip_items-returns-then-is_end-clause-ok
skip_items-returns-then-is_end-clause-ok t c =
    let p = value c.args.depth in
    let l = c.items in
    let ds = l.invariant.0 in
    let r = c.next.new.self in
    let first : l.reader ≡ token_of c.in_ok-token.token ∷ r = grind arith in
    let ends : after_end_array l.reader ≡ Some r = ap after_end_array first ∙ list_ends _ r (sym c.if-is_end.ensures) in (
      ds,
      λ n enough.
          let i = l.invariant.1 n enough in
          i.2 ∙ ap (parse_map (join_items ds)) (items_over p i.0 l.reader r i.1 ends) ∙ ap (λ es. Some (es, r)) (join-no_items ds),
      l.invariant.2,
    )

pub skip_members-members-init : goal.skip_members-members-init
skip_members-members-init t c = (λ old n enough. (n, enough, old, refl, omega arith), omega arith)

pub skip_members-returns-in_err-token-clause-err : goal.skip_members-returns-in_err-token-clause-err
skip_members-returns-in_err-token-clause-err t c refused old n enough =
    let p = value c.args.depth in
    let l = c.members in
    let i = l.invariant.0 old n enough in
    let s = c.next_key.new.self in
    let named : read_key l.reader ≡ Some (Some c.in-Some.field-0.now, s) = grind arith in
    let empty : s ≡ [] = grind arith in
    i.3 ∙ member_refused p i.2 i.0 c.in-Some.field-0.now l.reader s named (ap (converted of_json) (ap p empty ∙ value_is c.args.depth []))

pub skip_members-returns-in_err-skip_from-clause-err : goal.skip_members-returns-in_err-skip_from-clause-err
skip_members-returns-in_err-skip_from-clause-err t c refused old n enough =
    let p = value c.args.depth in
    let l = c.members in
    let i = l.invariant.0 old n enough in
    let s = c.next_key.new.self in
    let named : read_key l.reader ≡ Some (Some c.in-Some.field-0.now, s) = grind arith in
    let first : s ≡ token_of c.in_ok-token.token ∷ c.next.new.self = grind arith in
    let none : converted of_json (p s) ≡ None = ap (λ k. converted of_json (p k)) first ∙ c.skip_from.ensures.err (grind arith) in
    i.3 ∙ member_refused p i.2 i.0 c.in-Some.field-0.now l.reader s named none

pub skip_members-members-preserved : goal.skip_members-members-preserved
skip_members-members-preserved t c =
    let p = value c.args.depth in
    let l = c.members in
    let k = c.in-Some.field-0.now in
    let s = c.next_key.new.self in
    let named : read_key l.reader ≡ Some (Some k, s) = grind arith in
    let first : s ≡ token_of c.in_ok-token.token ∷ c.next.new.self = grind arith in
    let done = c.in_ok-skip_from.ensures in
    let r = c.skip_from.new.reader in
    let d = done.ok.0 in
    let read : converted of_json (p s) ≡ Some (d, r) = ap (λ k. converted of_json (p k)) first ∙ done.ok.1 in
    let less = read_key-shorter l.reader (Some k) s named in
    let lesser : length r < length s = omega (arith, ap length first, done.shorter) in (
      λ old n enough.
          let i = l.invariant.0 old n enough in (
            i.0 - 1,
            omega (arith, i.1, less, lesser),
            put k d i.2,
            i.3 ∙ member_read p i.2 i.0 k l.reader s r d (omega (arith, i.1, less, lesser)) named read,
            omega (arith, i.4, put-members_len k d i.2),
          ),
      omega (arith, l.invariant.1, less, lesser),
    )

pub skip_members-returns-clause-ok : goal.skip_members-returns-clause-ok
skip_members-returns-clause-ok t c old n enough =
    let l = c.members in
    let i = l.invariant.0 old n enough in
    (i.2, i.3 ∙ members_over (value c.args.depth) i.2 i.0 l.reader c.next_key.new.self i.1 (grind arith), i.4)
