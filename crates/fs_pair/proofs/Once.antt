-- Each variable of both machines stands at one place, where the names of each machine differ.
use Rattle.std.proofs.Common.{◌≡◌, ℕ, zero, suc, ◌+◌, ◌<◌, ◌≤◌, ◌==◌, List, [], ◌∷◌, ◌++◌, length, map, ap, sym, refl, ◌∙◌, arith, Some, Bool, true, false}
use Rattle.std.proofs.Common.{cond, zero-add}
use Rattle.std.specs.Prelude.{not, ◌&&◌, ◌||◌, slice_get}
use Rattle.std.specs.List.{find, filter, list_any, count_by, AllByRecursion}
use Rattle.std.specs.Option.{option_to_list}
use Rattle.std.specs.Str.{bytes_eq}
use Rattle.std.proofs.lemmas.Bool.Decides.{nat_tests}
use Rattle.std.proofs.lemmas.List.Recursion.{is_count_by}
use Rattle.std.proofs.lemmas.Slice.Eq.{bytes_eq-Decides}
use Rattle.std.proofs.lemmas.Bool.{and_from, or_right, not-true}
use Rattle.fs_model.proofs.Booleans.{and_first, and_second, neither_first, neither_second, one_or_none_more}
use Rattle.fs_model.specs.SoundMachines.{IsSound, names_differ}
use Rattle.fs_model.specs.declared.parts.VarInfo.{VarInfo}
use Rattle.fs_model.specs.Machines.{Fsmd}
use Rattle.fs_model.specs.declared.sides.Side.{Side}
use Rattle.fs_model.specs.declared.sides.Side.TheVariants.{Left, Right}
use Rattle.fs_model.specs.Sides.{same_side}
use Rattle.fs_model.proofs.SameSides.{same_side_self}
use Rattle.fs_pair.specs.SidedVariables.{SidedVariable, sided_variables, same_name_and_sort, partner_among, with_partners, is_alone, all_sided_variables}
use Rattle.fs_pair.specs.Positions.{position_of, positions}
use Rattle.fs_pair.specs.Partners.{variables_on, is_position_of}
use Rattle.fs_pair.proofs.Tests.{as_often, same_name, same_back, same_both_ways}
use Rattle.fs_pair.proofs.Variables.{all_numbered}

-- whether it is variable x of a side
abbrev pub stands_at : Side → ℕ → SidedVariable → Bool
stands_at d x s = is_position_of d x s.pos

-- ---- counts
abbrev pub many : {X : Type 0} → (X → Bool) → List X → ℕ
many t [] = 0
many t (x ∷ xs) = cond (t x) 1 0 + many t xs

pub many_counts : {X : Type 0} (t : X → Bool) (xs : List X) → many t xs ≡ count_by t xs
many_counts t xs = is_count_by (many t) t refl (λ y ys. one_or_none_more (t y) (many t ys)) xs

count_append : (t : SidedVariable → Bool) (xs ys : List SidedVariable) → many t (xs ++ ys) ≡ many t xs + many t ys
count_append t [] ys = sym (zero-add (many t ys))
count_append t (x ∷ xs) ys = omega (arith, count_append t xs ys)

found_few : (t p : SidedVariable → Bool) (xs : List SidedVariable) → many t (option_to_list (find p xs)) ≤ many t xs
found_few t p [] = omega arith
found_few t p (x ∷ xs) = by_test (p x) (found_few t p xs)
  where
    by_test : (b : Bool) → many t (option_to_list (find p xs)) ≤ many t xs → many t (option_to_list (cond b (Some x) (find p xs))) ≤ cond (t x) 1 0 + many t xs
    by_test true h = omega arith
    by_test false h = omega arith

filter_step : (t g : SidedVariable → Bool) (s : SidedVariable) (xs : List SidedVariable)
    → many t (filter g (s ∷ xs)) ≡ cond (g s) (cond (t s) 1 0) 0 + many t (filter g xs)
filter_step t g s xs = by_test (g s)
  where
    by_test : (b : Bool) → many t (cond b (s ∷ filter g xs) (filter g xs)) ≡ cond b (cond (t s) 1 0) 0 + many t (filter g xs)
    by_test true = refl
    by_test false = omega arith

filter_few : (t g : SidedVariable → Bool) (xs : List SidedVariable) → many t (filter g xs) ≤ many t xs
filter_few t g [] = omega arith
filter_few t g (s ∷ xs) = by_test (g s) (filter_step t g s xs) (filter_few t g xs)
  where
    by_test : (b : Bool) → many t (filter g (s ∷ xs)) ≡ cond b (cond (t s) 1 0) 0 + many t (filter g xs) → many t (filter g xs) ≤ many t xs
        → many t (filter g (s ∷ xs)) ≤ cond (t s) 1 0 + many t xs
    by_test true e h = omega arith
    by_test false e h = omega arith

neither_way : (b : Bool) → ◌≡◌ {A = ℕ} (cond b 0 0) 0
neither_way true = refl
neither_way false = refl

sum_under : (b : Bool) (m n : ℕ) → cond b m 0 + cond b n 0 ≡ cond b (m + n) 0
sum_under true m n = refl
sum_under false m n = refl

-- where the one that is counted passes a filter, it stays
filter_count : (t g : SidedVariable → Bool) (r : SidedVariable) (xs : List SidedVariable) → AllByRecursion (λ s. t s ≡ true → s ≡ r) xs
    → many t (filter g xs) ≡ cond (g r) (many t xs) 0
filter_count t g r [] h = sym (neither_way (g r))
filter_count t g r (s ∷ xs) h =
    filter_step t g s xs
    ∙ ap (λ n. n + many t (filter g xs)) (head (t s) h.0)
    ∙ ap (λ n. cond (g r) (cond (t s) 1 0) 0 + n) (filter_count t g r xs h.1)
    ∙ sum_under (g r) (cond (t s) 1 0) (many t xs)
  where
    head : (b : Bool) → (b ≡ true → s ≡ r) → ◌≡◌ {A = ℕ} (cond (g s) (cond b 1 0) 0) (cond (g r) (cond b 1 0) 0)
    head true e = ap (λ (z : SidedVariable). cond {A = ℕ} (g z) 1 0) (e refl)
    head false e = neither_way (g s) ∙ sym (neither_way (g r))

-- ---- numbered variables of one side
at_self : (d : Side) (x y : ℕ) → (y == x) ≡ true → (same_side d d && (y == x)) ≡ true
at_self d x y h = and_from (same_side d d) (y == x) (same_side_self d) h

at_other : (d : Side) (x y : ℕ) → (y == x) ≡ false → (same_side d d && (y == x)) ≡ false
at_other d x y h = ap (λ b. b && (y == x)) (same_side_self d) ∙ h

none_of_side : (d e : Side) (x y : ℕ) (vs : List VarInfo) → same_side e d ≡ false → many (stands_at d x) (sided_variables e y vs) ≡ 0
none_of_side d e x y [] h = refl
none_of_side d e x y (v ∷ vs) h =
    ap (λ b. cond (b && (y == x)) 1 0 + many (stands_at d x) (sided_variables e (y + 1) vs)) h ∙ zero-add (many (stands_at d x) (sided_variables e (y + 1) vs))
    ∙ none_of_side d e x (y + 1) vs h

none_below : (d : Side) (x y : ℕ) (vs : List VarInfo) → x < y → many (stands_at d x) (sided_variables d y vs) ≡ 0
none_below d x y [] h = refl
none_below d x y (v ∷ vs) h =
    let f : (y == x) ≡ false = grind (arith, nat_tests) in
    ap (λ b. cond b 1 0 + many (stands_at d x) (sided_variables d (y + 1) vs)) (at_other d x y f)
    ∙ zero-add (many (stands_at d x) (sided_variables d (y + 1) vs)) ∙ none_below d x (y + 1) vs (omega arith)

one_of_side : (d : Side) (x y : ℕ) (vs : List VarInfo) → y ≤ x → x < y + length vs → many (stands_at d x) (sided_variables d y vs) ≡ 1
one_of_side d x y [] h i = absurd (omega arith)
one_of_side d x y (v ∷ vs) h i = by_test (y == x) refl (λ k. one_of_side d x (y + 1) vs k (omega arith))
  where
    by_test : (b : Bool) → (y == x) ≡ b → (y + 1 ≤ x → many (stands_at d x) (sided_variables d (y + 1) vs) ≡ 1)
        → cond (same_side d d && (y == x)) 1 0 + many (stands_at d x) (sided_variables d (y + 1) vs) ≡ 1
    by_test true e next =
        let s : y ≡ x = grind (arith, nat_tests) in
        ap (λ b. cond b 1 0 + many (stands_at d x) (sided_variables d (y + 1) vs)) (at_self d x y e) ∙ ap (λ n. 1 + n) (none_below d x (y + 1) vs (omega arith))
    by_test false e next =
        let s : y + 1 ≤ x = grind (arith, nat_tests) in
        ap (λ b. cond b 1 0 + many (stands_at d x) (sided_variables d (y + 1) vs)) (at_other d x y e)
        ∙ zero-add (many (stands_at d x) (sided_variables d (y + 1) vs)) ∙ next s

-- ---- names
abbrev pub names_of : List VarInfo → List (List ℕ)
names_of vs = map (λ v. v.name) vs

apart : (u : VarInfo) (us : List VarInfo) → names_differ (names_of (u ∷ us)) ≡ true → list_any (λ m. bytes_eq m u.name) (names_of us) ≡ false
apart u us h = not-true (list_any (λ m. bytes_eq m u.name) (names_of us))
    (and_first (not (list_any (λ m. bytes_eq m u.name) (names_of us))) (names_differ (names_of us)) h)

pub others_differ : (u : VarInfo) (us : List VarInfo) → names_differ (names_of (u ∷ us)) ≡ true → names_differ (names_of us) ≡ true
others_differ u us h = and_second (not (list_any (λ m. bytes_eq m u.name) (names_of us))) (names_differ (names_of us)) h

any_named :
    (us : List VarInfo) (j : ℕ) (v : VarInfo) (name : List ℕ) → slice_get us j ≡ Some v → v.name ≡ name
    → list_any (λ m. bytes_eq m name) (names_of us) ≡ true
any_named [] j v name e n = absurd (cc e)
any_named (u ∷ us) zero v name e n =
    let s : u ≡ v = cc e in
    let t : bytes_eq u.name name ≡ true = (bytes_eq-Decides u.name name).1 (ap (λ (z : VarInfo). z.name) s ∙ n) in
    ap (λ b. b || list_any (λ m. bytes_eq m name) (names_of us)) t
any_named (u ∷ us) (suc j) v name e n = or_right (bytes_eq u.name name) (list_any (λ m. bytes_eq m name) (names_of us)) (any_named us j v name e n)

-- a name of the rest is another one
pub another_name : (u : VarInfo) (us : List VarInfo) (j : ℕ) (v : VarInfo) → names_differ (names_of (u ∷ us)) ≡ true → slice_get us j ≡ Some v
    → v.name ≡ u.name → ⊥
another_name u us j v h e n =
    let c : true ≡ false = sym (any_named us j v u.name e n) ∙ apart u us h in
    cc c

pub own_number : (vs : List VarInfo) (i j : ℕ) (v u : VarInfo) → names_differ (names_of vs) ≡ true → slice_get vs i ≡ Some v → slice_get vs j ≡ Some u
    → v.name ≡ u.name → i ≡ j
own_number [] i j v u h e f n = absurd (cc e)
own_number (x ∷ xs) zero zero v u h e f n = refl
own_number (x ∷ xs) zero (suc j) v u h e f n = let s : x ≡ v = cc e in absurd (another_name x xs j u h f (sym n ∙ sym (ap (λ (z : VarInfo). z.name) s)))
own_number (x ∷ xs) (suc i) zero v u h e f n = let s : x ≡ u = cc f in absurd (another_name x xs i v h e (n ∙ sym (ap (λ (z : VarInfo). z.name) s)))
own_number (x ∷ xs) (suc i) (suc j) v u h e f n = ap suc (own_number xs i j v u (others_differ x xs h) e f n)

some_variable : (vs : List VarInfo) (x : ℕ) → x < length vs → (v : VarInfo) × (slice_get vs x ≡ Some v)
some_variable [] x h = absurd (omega arith)
some_variable (v ∷ vs) zero h = (v, refl)
some_variable (v ∷ vs) (suc x) h = some_variable vs x (omega arith)

-- ---- the partner that follows a variable
unlike : (w u v : VarInfo) → same_name_and_sort w u ≡ true → (v.name ≡ u.name → ⊥) → same_name_and_sort w v ≡ false
unlike w u v h n = as_often (same_name_and_sort w v) false (λ g. absurd (n (same_name w v g ∙ sym (same_name w u h)))) (λ g. absurd (cc g))

picked : (w v : VarInfo) (x y j : ℕ) (vs : List VarInfo) → names_differ (names_of vs) ≡ true → slice_get vs j ≡ Some v → x ≡ y + j
    → many (stands_at Right x) (option_to_list (partner_among (sided_variables Right y vs) w)) ≡ cond (same_name_and_sort w v) 1 0
picked w v x y j [] h e k = absurd (cc e)
picked w v x y zero (u ∷ us) h e k = by_test (same_name_and_sort w u) refl
  where
    same : u ≡ v
    same = cc e

    by_test : (b : Bool) → same_name_and_sort w u ≡ b
        → many (stands_at Right x)
        (option_to_list (cond b (Some (record { pos = record { side = Right; var = y }; variable = u })) (partner_among (sided_variables Right (y + 1) us) w)))
        ≡ cond (same_name_and_sort w v) 1 0
    by_test true t =
        let f : (y == x) ≡ true = grind (arith, nat_tests) in
        ap (λ b. cond b 1 0 + 0) f ∙ sym (ap (λ b. cond b 1 0) (sym (ap (same_name_and_sort w) same) ∙ t))
    by_test false t =
        let n : many (stands_at Right x) (option_to_list (partner_among (sided_variables Right (y + 1) us) w)) ≡ 0 =
        omega (
          arith,
          found_few (stands_at Right x) (λ s. same_name_and_sort w s.variable) (sided_variables Right (y + 1) us),
          none_below Right x (y + 1) us (omega arith),
        ) in
        n ∙ sym (ap (λ b. cond b 1 0) (sym (ap (same_name_and_sort w) same) ∙ t))
picked w v x y (suc j) (u ∷ us) h e k = by_test (same_name_and_sort w u) refl (picked w v x (y + 1) j us (others_differ u us h) e (omega arith))
  where
    by_test : (b : Bool) → same_name_and_sort w u ≡ b
        → many (stands_at Right x) (option_to_list (partner_among (sided_variables Right (y + 1) us) w)) ≡ cond (same_name_and_sort w v) 1 0
        → many (stands_at Right x)
        (option_to_list (cond b (Some (record { pos = record { side = Right; var = y }; variable = u })) (partner_among (sided_variables Right (y + 1) us) w)))
        ≡ cond (same_name_and_sort w v) 1 0
    by_test true t r =
        let f : (y == x) ≡ false = grind (arith, nat_tests) in
        ap (λ b. cond b 1 0 + 0) f ∙ sym (ap (λ b. cond b 1 0) (unlike w u v t (another_name u us j v h e)))
    by_test false t r = r

pairs_count : (t : SidedVariable → Bool) (v : VarInfo) (others ss : List SidedVariable)
    → ((w : VarInfo) → many t (option_to_list (partner_among others w)) ≡ cond (same_name_and_sort w v) 1 0)
    → many t (with_partners ss others) ≡ many t ss + many (λ s. same_name_and_sort s.variable v) ss
pairs_count t v others [] h = refl
pairs_count t v others (s ∷ ss) h =
    omega (arith, count_append t (option_to_list (partner_among others s.variable)) (with_partners ss others), h s.variable, pairs_count t v others ss h)

pairs_count_none : (t : SidedVariable → Bool) (others ss : List SidedVariable) → many t others ≡ 0 → many t (with_partners ss others) ≡ many t ss
pairs_count_none t others [] h = refl
pairs_count_none t others (s ∷ ss) h =
    omega (
      arith,
      count_append t (option_to_list (partner_among others s.variable)) (with_partners ss others),
      found_few t (λ u. same_name_and_sort s.variable u.variable) others,
      pairs_count_none t others ss h,
    )

-- ---- how many have a name and a sort
no_other : (v u : VarInfo) (y : ℕ) (us : List VarInfo) → same_name_and_sort v u ≡ true → list_any (λ m. bytes_eq m u.name) (names_of us) ≡ false
    → list_any (λ s. same_name_and_sort v s.variable) (sided_variables Left y us) ≡ false
no_other v u y [] h a = refl
no_other v u y (z ∷ us) h a =
    let differs : z.name ≡ u.name → ⊥ =
    λ n.
    (let c : true ≡ false = sym ((bytes_eq-Decides z.name u.name).1 n)
    ∙ neither_first (bytes_eq z.name u.name) (list_any (λ m. bytes_eq m u.name) (names_of us)) a in cc c) in
    ap (λ b. b || list_any (λ s. same_name_and_sort v s.variable) (sided_variables Left (y + 1) us)) (unlike v u z h differs)
    ∙ no_other v u (y + 1) us h (neither_second (bytes_eq z.name u.name) (list_any (λ m. bytes_eq m u.name) (names_of us)) a)

like_count : (v : VarInfo) (y : ℕ) (vs : List VarInfo) → names_differ (names_of vs) ≡ true
    → many (λ s. same_name_and_sort s.variable v) (sided_variables Left y vs)
    ≡ cond (list_any (λ s. same_name_and_sort v s.variable) (sided_variables Left y vs)) 1 0
like_count v y [] h = refl
like_count v y (u ∷ us) h = by_test (same_name_and_sort v u) refl (like_count v (y + 1) us (others_differ u us h))
  where
    by_test : (b : Bool) → same_name_and_sort v u ≡ b
        → many (λ s. same_name_and_sort s.variable v) (sided_variables Left (y + 1) us)
        ≡ cond (list_any (λ s. same_name_and_sort v s.variable) (sided_variables Left (y + 1) us)) 1 0
        → cond (same_name_and_sort u v) 1 0 + many (λ s. same_name_and_sort s.variable v) (sided_variables Left (y + 1) us)
        ≡ cond (same_name_and_sort v u || list_any (λ s. same_name_and_sort v s.variable) (sided_variables Left (y + 1) us)) 1 0
    by_test true t r =
        ap (λ b. cond b 1 0 + many (λ s. same_name_and_sort s.variable v) (sided_variables Left (y + 1) us)) (same_back v u t)
        ∙ ap (λ n. 1 + n) (r ∙ ap (λ b. cond b 1 0) (no_other v u (y + 1) us t (apart u us h)))
        ∙ sym (ap (λ b. cond (b || list_any (λ s. same_name_and_sort v s.variable) (sided_variables Left (y + 1) us)) 1 0) t)
    by_test false t r =
        ap (λ b. cond b 1 0 + many (λ s. same_name_and_sort s.variable v) (sided_variables Left (y + 1) us)) (same_both_ways u v ∙ t)
        ∙ zero-add (many (λ s. same_name_and_sort s.variable v) (sided_variables Left (y + 1) us))
        ∙ r
        ∙ sym (ap (λ b. cond (b || list_any (λ s. same_name_and_sort v s.variable) (sided_variables Left (y + 1) us)) 1 0) t)

one_way : (b : Bool) → cond b 1 0 + cond (not b) 1 0 ≡ 1
one_way true = refl
one_way false = refl

-- ---- both sides
left_once : (vs us : List VarInfo) (x : ℕ) → x < length vs → many (stands_at Left x) (all_sided_variables vs us) ≡ 1
left_once vs us x h =
    let t = stands_at Left x in
    let ls = sided_variables Left 0 vs in
    let rs = sided_variables Right 0 us in
    let none : many t rs ≡ 0 = none_of_side Left Right x 0 us refl in
    omega (
      arith,
      count_append t (with_partners ls rs) (filter (is_alone ls) rs),
      pairs_count_none t rs ls none,
      filter_few t (is_alone ls) rs,
      none,
      one_of_side Left x 0 vs (omega arith) (omega arith),
    )

right_once : (vs us : List VarInfo) (x : ℕ) → names_differ (names_of vs) ≡ true → names_differ (names_of us) ≡ true → x < length us
    → many (stands_at Right x) (all_sided_variables vs us) ≡ 1
right_once vs us x h g i =
    let t = stands_at Right x in
    let ls = sided_variables Left 0 vs in
    let rs = sided_variables Right 0 us in
    let w = some_variable us x i in
    let v : VarInfo = w.0 in
    let r : SidedVariable = record { pos = record { side = Right; var = x }; variable = v } in
    let only : AllByRecursion (λ s. t s ≡ true → s ≡ r) rs = all_numbered (λ s. t s ≡ true → s ≡ r) Right 0 us (λ j u e k. only_one us x j v u w.1 e k) in
    let alone : many t (filter (is_alone ls) rs) ≡ cond (is_alone ls r) 1 0 = filter_count t (is_alone ls) r rs only
    ∙ ap (λ n. cond (is_alone ls r) n 0) (one_of_side Right x 0 us (omega arith) (omega arith)) in
    omega (
      arith,
      count_append t (with_partners ls rs) (filter (is_alone ls) rs),
      pairs_count t v rs ls (λ z. picked z v x 0 x us g w.1 (sym (zero-add x))),
      none_of_side Right Left x 0 vs refl,
      like_count v 0 vs h,
      alone,
      one_way (list_any (λ s. same_name_and_sort v s.variable) ls),
    )
  where
    only_one : (us : List VarInfo) (x j : ℕ) (v u : VarInfo) → slice_get us x ≡ Some v → slice_get us j ≡ Some u → (0 + j == x) ≡ true
        → ◌≡◌ {A = SidedVariable} (record { pos = record { side = Right; var = 0 + j }; variable = u })
        (record { pos = record { side = Right; var = x }; variable = v })
    only_one us x j v u e f k =
        let n : 0 + j ≡ x = grind (arith, nat_tests) in
        let m : j ≡ x = omega arith in
        let same : u ≡ v = cc (sym f ∙ ap (slice_get us) m ∙ e) in
        λ i. record { pos = record { side = Right; var = n i }; variable = same i }

count_positions : (d : Side) (x : ℕ) (all ss : List SidedVariable) → many (λ p. is_position_of d x p.pos) (map (position_of all) ss) ≡ many (stands_at d x) ss
count_positions d x all [] = refl
count_positions d x all (s ∷ ss) = ap (λ n. cond (is_position_of d x s.pos) 1 0 + n) (count_positions d x all ss)

module _ (a b : Fsmd) (sound : IsSound a) (other : IsSound b) where
  pub once : (d : Side) (x : ℕ) → x < length (variables_on d a b) → many (stands_at d x) (all_sided_variables a.variables b.variables) ≡ 1
  once Left x h = left_once a.variables b.variables x h
  once Right x h = right_once a.variables b.variables x sound.variables_differ other.variables_differ h

  pub position_once : (d : Side) (x : ℕ) → x < length (variables_on d a b) → count_by (λ p. is_position_of d x p.pos) (positions a b) ≡ 1
  position_once d x h =
      let all = all_sided_variables a.variables b.variables in
      sym (many_counts (λ p. is_position_of d x p.pos) (positions a b)) ∙ count_positions d x all all ∙ once d x h
