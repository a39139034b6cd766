-- First places of names, and names that stand again.
use Rattle.std.proofs.Common.{◌≡◌, ℕ, zero, suc, ◌<◌, ◌≤◌, Bool, true, false, cond, List, [], ◌∷◌, ◌++◌, length, get_or, take, drop, refl, sym, ◌∙◌, ap, ap₂}
use Rattle.std.proofs.Common.{arith}
use Rattle.std.specs.Prelude.{Option, Some, None, option_map, map, ◌||◌}
use Rattle.std.specs.Option.{is_some, unwrap_or}
use Rattle.std.specs.List.{list_any}
use Rattle.std.specs.Str.{bytes_eq}
use Rattle.std.proofs.lemmas.Slice.Eq.{bytes_eq-Decides}
use Rattle.fs_rules.specs.declared.check.CheckRule.{CheckRule}
use Rattle.fs_rules.specs.declared.check.CheckRule.TheVariants.{TwiceNamed}
use Rattle.fs_rules.specs.declared.check.CheckFault.{CheckFault}
use Rattle.fs_rules.specs.declared.names.Declared.{Declared}
use Rattle.fs_rules.specs.MachineOfParts.{place_or_end}
use Rattle.fs_rules.specs.Rules.{at_lines, broken_where, repeated_lines, line_past_limit}
use Rattle.fs_rules.specs.FirstFault.{sooner, earliest}
use Rattle.fs_rules.specs.Places.{declared_of, declared_name_list, first_place, place_in, FindsFirst, IsTableOf}

pub earliest-append : (known : Option CheckFault) (a b : List CheckFault) → earliest known (a ++ b) ≡ earliest (earliest known a) b
earliest-append known [] b = refl
earliest-append known (f ∷ a) b = earliest-append (Some (sooner known f)) a b

place_cases : (b : Bool) (o : Option ℕ) (n p : ℕ) → p ≡ unwrap_or o n → cond b 0 (suc p) ≡ unwrap_or (cond b (Some 0) (option_map suc o)) (suc n)
place_cases true o n p e = refl
place_cases false None n p e = ap suc e
place_cases false (Some x) n p e = ap suc e

pub place_found : (ns : List (List ℕ)) (n : List ℕ) → place_or_end ns n ≡ unwrap_or (first_place ns n) (length ns)
place_found [] n = refl
place_found (m ∷ ns) n = place_cases (bytes_eq m n) (first_place ns n) (length ns) (place_or_end ns n) (place_found ns n)

push_cases : (b e : Bool) (o : Option ℕ) (n : ℕ)
    → cond b (Some 0) (option_map suc (cond (is_some o) o (cond e (Some n) None)))
    ≡ cond (is_some (cond b (Some 0) (option_map suc o))) (cond b (Some 0) (option_map suc o)) (cond e (Some (suc n)) None)
push_cases true e o n = refl
push_cases false e (Some x) n = refl
push_cases false true None n = refl
push_cases false false None n = refl

-- the place of a name after one more
pub found_push : (ns : List (List ℕ)) (m n : List ℕ)
    → first_place (ns ++ m ∷ []) n ≡ cond (is_some (first_place ns n)) (first_place ns n) (cond (bytes_eq m n) (Some (length ns)) None)
found_push [] m n = refl
found_push (k ∷ ns) m n = ap (λ o. cond (bytes_eq k n) (Some 0) (option_map suc o)) (found_push ns m n)
    ∙ push_cases (bytes_eq k n) (bytes_eq m n) (first_place ns n) (length ns)

any_cases : (b a : Bool) (o : Option ℕ) → is_some o ≡ a → is_some (cond b (Some 0) (option_map suc o)) ≡ (b || a)
any_cases true a o e = refl
any_cases false a None e = e
any_cases false a (Some x) e = e

pub found_any : (ns : List (List ℕ)) (n : List ℕ) → is_some (first_place ns n) ≡ list_any (λ m. bytes_eq m n) ns
found_any [] n = refl
found_any (m ∷ ns) n = any_cases (bytes_eq m n) (list_any (λ k. bytes_eq k n) ns) (first_place ns n) (found_any ns n)

-- the lines at which a name stands that stood before, where the names before stand in order
abbrev pub repeats : List (List ℕ) → List (ℕ × List ℕ) → List ℕ
repeats before [] = []
repeats before (n ∷ ns) = cond (is_some (first_place before n.1)) (n.0 ∷ repeats (before ++ n.1 ∷ []) ns) (repeats (before ++ n.1 ∷ []) ns)

push_any : (s t a m : Bool) → s ≡ t → a ≡ cond s true m → a ≡ (m || t)
push_any true true a true p e = e
push_any true true a false p e = e
push_any false false a true p e = e
push_any false false a false p e = e
push_any true false a m p e = cc
push_any false true a m p e = cc

some_cond : (o : Option ℕ) (b : Bool) (n : ℕ) → is_some (cond (is_some o) o (cond b (Some n) None)) ≡ cond (is_some o) true b
some_cond (Some x) b n = refl
some_cond None true n = refl
some_cond None false n = refl

pub repeats_is : (a b : List (List ℕ)) → ((n : List ℕ) → is_some (first_place a n) ≡ list_any (λ m. bytes_eq m n) b) → (ns : List (ℕ × List ℕ))
    → repeats a ns ≡ repeated_lines b ns
repeats_is a b same [] = refl
repeats_is a b same (n ∷ ns) =
    let rest : repeats (a ++ n.1 ∷ []) ns ≡ repeated_lines (n.1 ∷ b) ns =
    repeats_is (a ++ n.1 ∷ []) (n.1 ∷ b)
    (λ k. push_any (is_some (first_place a k)) (list_any (λ m. bytes_eq m k) b) (is_some (first_place (a ++ n.1 ∷ []) k)) (bytes_eq n.1 k) (same k)
    (ap is_some (found_push a n.1 k) ∙ some_cond (first_place a k) (bytes_eq n.1 k) (length a))) ns
    in
    ap₂ (λ (t : Bool) (r : List ℕ). cond t (n.0 ∷ r) r) (same n.1) rest

note_cases : (known : Option CheckFault) (rule : CheckRule) (b : Bool) (line : ℕ) (rest : List ℕ)
    → earliest known (at_lines rule (cond b (line ∷ rest) rest)) ≡ earliest (earliest known (broken_where b rule line)) (at_lines rule rest)
note_cases known rule true line rest = refl
note_cases known rule false line rest = refl

-- what is left to note after one name
pub noted_step : (known : Option CheckFault) (rule : CheckRule) (before : List (List ℕ)) (n : ℕ × List ℕ) (ns : List (ℕ × List ℕ))
    → earliest known (at_lines rule (repeats before (n ∷ ns))) ≡ earliest (earliest known (broken_where (is_some (first_place before n.1)) rule n.0))
    (at_lines rule (repeats (before ++ n.1 ∷ []) ns))
noted_step known rule before n ns = note_cases known rule (is_some (first_place before n.1)) n.0 (repeats (before ++ n.1 ∷ []) ns)

-- an item at an index, and what is before and after it
pub taken : (xs : List Declared) (i : ℕ) (x : Declared) → i < length xs → x ≡ get_or xs i x
    → declared_name_list (map declared_of (take (suc i) xs)) ≡ declared_name_list (map declared_of (take i xs)) ++ x.name ∷ []
taken [] i x h e = absurd (omega arith)
taken (y ∷ ys) zero x h e = ap (λ z. z.name ∷ []) (sym e)
taken (y ∷ ys) (suc i) x h e = ap (λ r. y.name ∷ r) (taken ys i x (omega arith) e)

pub left : (xs : List Declared) (i : ℕ) (x : Declared) → i < length xs → x ≡ get_or xs i x
    → map declared_of (drop i xs) ≡ declared_of x ∷ map declared_of (drop (suc i) xs)
left [] i x h e = absurd (omega arith)
left (y ∷ ys) zero x h e = ap (λ z. declared_of z ∷ map declared_of ys) (sym e)
left (y ∷ ys) (suc i) x h e = left ys i x (omega arith) e

pub length_taken : (xs : List Declared) (i : ℕ) → i ≤ length xs → length (declared_name_list (map declared_of (take i xs))) ≡ i
length_taken xs zero h = refl
length_taken [] (suc i) h = absurd (omega arith)
length_taken (y ∷ ys) (suc i) h = ap suc (length_taken ys i (omega arith))

pub first_past : (xs : List Declared) (i : ℕ) (x : Declared) → i < length xs → x ≡ get_or xs i x → line_past_limit i (map declared_of xs) ≡ x.line ∷ []
first_past [] i x h e = absurd (omega arith)
first_past (y ∷ ys) zero x h e = ap (λ z. z.line ∷ []) (sym e)
first_past (y ∷ ys) (suc i) x h e = first_past ys i x (omega arith) e

pub none_past : (xs : List Declared) (i : ℕ) → length xs ≤ i → line_past_limit i (map declared_of xs) ≡ []
none_past [] zero h = refl
none_past [] (suc i) h = refl
none_past (y ∷ ys) zero h = absurd (omega arith)
none_past (y ∷ ys) (suc i) h = none_past ys i (omega arith)

put_at : (b : Bool) (at_key there g : Option ℕ) (v : ℕ) → (b ≡ true → there ≡ at_key) → g ≡ cond b (Some v) there → is_some at_key ≡ false
    → g ≡ cond (is_some there) there (cond b (Some v) None)
put_at true at_key None g v same e absent = e
put_at true None (Some x) g v same e absent = cc (same refl)
put_at true (Some y) (Some x) g v same e absent = cc
put_at false at_key None g v same e absent = e
put_at false at_key (Some x) g v same e absent = e

-- a name put where it was not
pub put_new : (k m : List ℕ) → k ≡ m → (old new : List ℕ → Option ℕ) (v : ℕ) → is_some (old m) ≡ false
    → ((n : List ℕ) → new n ≡ cond (bytes_eq k n) (Some v) (old n))
    → (n : List ℕ) → new n ≡ cond (is_some (old n)) (old n) (cond (bytes_eq m n) (Some v) None)
put_new k m same old new v absent put n =
    put_at (bytes_eq m n) (old m) (old n) (new n) v (λ t. ap old (sym ((bytes_eq-Decides m n).0 t)))
    (put n ∙ ap (λ z. cond (bytes_eq z n) (Some v) (old n)) same) absent

there_at : (b : Bool) (o : Option ℕ) (v : ℕ) → (b ≡ true → is_some o ≡ true) → o ≡ cond (is_some o) o (cond b (Some v) None)
there_at b (Some x) v h = refl
there_at true None v h = absurd (cc (h refl))
there_at false None v h = refl

-- a name that was there
pub put_there : (m : List ℕ) (old : List ℕ → Option ℕ) (v : ℕ) → is_some (old m) ≡ true
    → (n : List ℕ) → old n ≡ cond (is_some (old n)) (old n) (cond (bytes_eq m n) (Some v) None)
put_there m old v h n = there_at (bytes_eq m n) (old n) v (λ t. ap (λ k. is_some (old k)) (sym ((bytes_eq-Decides m n).0 t)) ∙ h)

-- one turn over the declared names
pub index_finds : (ds : List Declared) (i : ℕ) (x : Declared) → i < length ds → x ≡ get_or ds i x → (old new : List (List ℕ × ℕ))
    → FindsFirst old (declared_name_list (map declared_of (take i ds)))
    → ((n : List ℕ) → place_in new n ≡ cond (is_some (place_in old n)) (place_in old n) (cond (bytes_eq x.name n) (Some i) None))
    → FindsFirst new (declared_name_list (map declared_of (take (suc i) ds)))
index_finds ds i x h e old new f put = record {
  finds = λ n.
      put n
      ∙ ap (λ o. cond (is_some o) o (cond (bytes_eq x.name n) (Some i) None)) (f.finds n)
      ∙ sym
      (ap (λ ns. first_place ns n) (taken ds i x h e) ∙ found_push (declared_name_list (map declared_of (take i ds))) x.name n
      ∙ ap
      (λ k. cond (is_some (first_place (declared_name_list (map declared_of (take i ds))) n)) (first_place (declared_name_list (map declared_of (take i ds))) n)
      (cond (bytes_eq x.name n) (Some k) None)) (length_taken ds i (omega arith)));
}

pub index_noted : (ds : List Declared) (i : ℕ) (x : Declared) → i < length ds → x ≡ get_or ds i x
    → (old : List (List ℕ × ℕ)) (known next all : Option CheckFault)
    → FindsFirst old (declared_name_list (map declared_of (take i ds)))
    → next ≡ earliest known (broken_where (is_some (place_in old x.name)) TwiceNamed x.line)
    → earliest known (at_lines TwiceNamed (repeats (declared_name_list (map declared_of (take i ds))) (map declared_of (drop i ds)))) ≡ all
    → earliest next (at_lines TwiceNamed (repeats (declared_name_list (map declared_of (take (suc i) ds))) (map declared_of (drop (suc i) ds)))) ≡ all
index_noted ds i x h e old known next all f n before =
    let at : next ≡ earliest known (broken_where (is_some (first_place (declared_name_list (map declared_of (take i ds))) x.name)) TwiceNamed x.line) =
    n ∙ ap (λ o. earliest known (broken_where (is_some o) TwiceNamed x.line)) (f.finds x.name)
    in
    ap₂ (λ (k : Option CheckFault) (ns : List (List ℕ)). earliest k (at_lines TwiceNamed (repeats ns (map declared_of (drop (suc i) ds))))) at
    (taken ds i x h e)
    ∙ sym (noted_step known TwiceNamed (declared_name_list (map declared_of (take i ds))) (declared_of x) (map declared_of (drop (suc i) ds)))
    ∙ ap (λ r. earliest known (at_lines TwiceNamed (repeats (declared_name_list (map declared_of (take i ds))) r))) (sym (left ds i x h e))
    ∙ before

pub earliest_three : (known : Option CheckFault) (a b c : List CheckFault) → earliest (earliest (earliest known a) b) c ≡ earliest known (a ++ (b ++ c))
earliest_three known a b c = sym (earliest-append known a (b ++ c) ∙ earliest-append (earliest known a) b c)

-- the place of a name by a table of the names
pub place_by : (t : List (List ℕ × ℕ) × ℕ) (ns : List (List ℕ)) (n : List ℕ) → IsTableOf t ns → place_or_end ns n ≡ unwrap_or (place_in t.0 n) t.1
place_by t ns n h = place_found ns n ∙ ap₂ unwrap_or (sym (h.first.finds n)) (sym h.count)

within_cases : (b : Bool) (p n : ℕ) → p ≤ n → cond b 0 (suc p) ≤ suc n
within_cases true p n h = omega arith
within_cases false p n h = omega arith

pub place_within : (ns : List (List ℕ)) (n : List ℕ) → place_or_end ns n ≤ length ns
place_within [] n = omega arith
place_within (m ∷ ns) n = within_cases (bytes_eq m n) (place_or_end ns n) (length ns) (place_within ns n)
