-- The text of a value is read as this value.
use Rattle.std.proofs.Common.{◌≡◌, ℕ, ◌≤◌, List, [], Some, Less, Greater, subst, option_map, option_and_then, refl, sym, ap, ◌∙◌, arith, append-nil}
use Rattle.std.specs.Ordering.{nat_cmp}
use Rattle.std.specs.Cmp.Lexicographic.{slice_cmp}
use Rattle.json.specs.Json as json
use Rattle.json.specs.Lex.{tokens}
use Rattle.json.specs.Tree as tree
use Rattle.json.specs.Print.{IsNumber}
use Rattle.json.proofs.Printed.Decimals.{IsNumber-decimal}
use Rattle.json.proofs.Printed.Tokens.{tokens-print}
use Rattle.json.proofs.Printed.Trees.{value-json_tokens, ArePrintable-json_tokens}
use Rattle.serde_json.specs.Data.{Num, unsigned, negative, float, Data, null, boolean, number, string, array, object, Items, no_items, item, Members}
use Rattle.serde_json.specs.Data.{no_members, member, put, depth, items_depth, members_depth}
use Rattle.serde_json.specs.Read.{number_of, of_json, of_items, of_members, read}
use Rattle.serde_json.specs.Written.{number_text, outline, items_outline, members_outline, compact_text}
use Rattle.serde_json.proofs.Numbers.{number_of-decimal}
use Rattle.serde_json.proofs.Texts.{print-outline}
use Rattle.search_laws.specs.Orderly.{IsBefore, KeysRise, IsCount, IsOrderly, AreOrderly, MembersAreOrderly}
use Rattle.search_laws.proofs.Putting.{turned}

-- ---- members, one after another

abbrev joined : Members → Members → Members
joined no_members ms = ms
joined (member k d ks) ms = member k d (joined ks ms)

joined_none : (ms : Members) → joined ms no_members ≡ ms
joined_none no_members = refl
joined_none (member k d ms) = ap (member k d) (joined_none ms)

joined_more : (done : Members) (k : List ℕ) (d : Data) (ms : Members) → joined (joined done (member k d no_members)) ms ≡ joined done (member k d ms)
joined_more no_members k d ms = refl
joined_more (member l e done) k d ms = ap (member l e) (joined_more done k d ms)

before_it : (l : List ℕ) (done : Members) (k : List ℕ) (d : Data) (ms : Members) → IsBefore l (joined done (member k d ms)) → slice_cmp nat_cmp l k ≡ Less
before_it l no_members k d ms h = h.0
before_it l (member x e done) k d ms h = before_it l done k d ms h.1

-- a key behind those before it goes last
goes_last : (done : Members) (k : List ℕ) (d : Data) (ms : Members) → KeysRise (joined done (member k d ms))
    → put k d done ≡ joined done (member k d no_members)
goes_last no_members k d ms h = refl
goes_last (member l e done) k d ms h =
    let above : slice_cmp nat_cmp k l ≡ Greater = turned l k Less (before_it l done k d ms h.0) in
    rw above (ap (member l e) (goes_last done k d ms h.1))

-- ---- values

number_back : (n : Num) → IsCount n → option_map number (number_of (number_text n)) ≡ Some (number n)
number_back (unsigned n) h = ap (option_map number) (number_of-decimal n h)
number_back (negative z) h = absurd h
number_back (float x) h = absurd h

mutual
  back : (d : Data) → IsOrderly d → of_json (outline d) ≡ Some d
  back null h = refl
  back (boolean b) h = refl
  back (number n) h = number_back n h
  back (string s) h = refl
  back (array ds) h = ap (option_map array) (items_back ds h)
  back (object ms) h = ap (option_map object) (members_back ms no_members h.1 h.0)

  items_back : (ds : Items) → AreOrderly ds → of_items (items_outline ds) ≡ Some ds
  items_back no_items h = refl
  items_back (item d ds) h = ap (option_and_then (λ x. option_map (item x) (of_items (items_outline ds)))) (back d h.0)
      ∙ ap (option_map (item d)) (items_back ds h.1)

  members_back : (ms done : Members) → MembersAreOrderly ms → KeysRise (joined done ms) → of_members (members_outline ms) done ≡ Some (joined done ms)
  members_back no_members done h r = ap Some (sym (joined_none done))
  members_back (member k d ms) done h r =
      let more = joined_more done k d ms in
      ap (option_and_then (λ x. of_members (members_outline ms) (put k x done))) (back d h.1) ∙ ap (of_members (members_outline ms)) (goes_last done k d ms r)
      ∙ members_back ms (joined done (member k d no_members)) h.2 (subst KeysRise (sym more) r) ∙ ap Some more

number_printed : (n : Num) → IsCount n → IsNumber (number_text n)
number_printed (unsigned n) h = IsNumber-decimal n h
number_printed (negative z) h = absurd h
number_printed (float x) h = absurd h

mutual
  numbers : (d : Data) → IsOrderly d → tree.HasNumbers (outline d)
  numbers null h = tt
  numbers (boolean b) h = tt
  numbers (number n) h = number_printed n h
  numbers (string s) h = tt
  numbers (array ds) h = items_numbers ds h
  numbers (object ms) h = members_numbers ms h.1

  items_numbers : (ds : Items) → AreOrderly ds → tree.ItemsHaveNumbers (items_outline ds)
  items_numbers no_items h = tt
  items_numbers (item d ds) h = (numbers d h.0, items_numbers ds h.1)

  members_numbers : (ms : Members) → MembersAreOrderly ms → tree.MembersHaveNumbers (members_outline ms)
  members_numbers no_members h = tt
  members_numbers (member k d ms) h = (numbers d h.1, members_numbers ms h.2)

mutual
  shallow : (d : Data) → tree.depth (outline d) ≤ depth d
  shallow null = omega arith
  shallow (boolean b) = omega arith
  shallow (number n) = omega arith
  shallow (string s) = omega arith
  shallow (array ds) = omega (arith, items_shallow ds)
  shallow (object ms) = omega (arith, members_shallow ms)

  items_shallow : (ds : Items) → tree.items_depth (items_outline ds) ≤ items_depth ds
  items_shallow no_items = omega arith
  items_shallow (item d ds) = omega (arith, shallow d, items_shallow ds)

  members_shallow : (ms : Members) → tree.members_depth (members_outline ms) ≤ members_depth ms
  members_shallow no_members = omega arith
  members_shallow (member k d ms) = omega (arith, shallow d, members_shallow ms)

pub read_again : (d : Data) → IsOrderly d → depth d ≤ 127 → read (compact_text d) ≡ Some d
read_again d h low =
    let j = outline d in
    let lexed : tokens (compact_text d) ≡ tree.json_tokens j = ap tokens (sym (print-outline d))
    ∙ tokens-print (tree.json_tokens j) (ArePrintable-json_tokens j (numbers d h)) in
    ap (λ o. option_and_then of_json (option_and_then (λ p. json.if_last p.0 p.1) o))
    (ap (json.value 127) (lexed ∙ sym (append-nil (tree.json_tokens j))) ∙ value-json_tokens j 127 [] (omega (arith, shallow d, low))) ∙ back d h
