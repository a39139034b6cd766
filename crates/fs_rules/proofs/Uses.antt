-- Uses of two lists together.
use Rattle.std.proofs.Common.{◌≡◌, ℕ, ◌+◌, ◌<◌, ◌≤◌, ◌==◌, length, get_or, take, drop, Bool, true, false, List, [], ◌∷◌, ◌++◌, refl, sym, ◌∙◌, ap, ap₂}
use Rattle.std.proofs.Common.{append-nil, append_assoc, arith}
use Rattle.std.specs.Prelude.{not, ◌&&◌, ◌||◌, map, Option, Some, None}
use Rattle.std.specs.Option.{is_some}
use Rattle.std.specs.List.{slice_get}
use Rattle.fs_model.specs.declared.parts.Sort.{Sort}
use Rattle.fs_model.specs.Expressions.{Guard, Assignment, Assign, ArrayWrite, Emit}
use Rattle.fs_model.specs.Renamed.{assignment_over}
use Rattle.fs_model.specs.Runs.{is_scalar, is_array, is_port}
use Rattle.std.specs.List.{list_all, list_any}
use Rattle.std.proofs.lemmas.List.{drop_all}
use Rattle.std.proofs.lemmas.Bool.{lt-ltb, le-ltb}
use Rattle.std.proofs.lemmas.Bool.Decides.{nat_tests}
use Rattle.std.proofs.lemmas.Option.{slice_get_within}
use Rattle.fs_rules.proofs.Turns.{taken_map}
use Rattle.std.proofs.lemmas.List.Folds.{list_all-append, list_any-append}
use Rattle.fs_model.proofs.Booleans.{and_swap, not_or}
use Rattle.fs_model.proofs.Lists.{map_drop_next, slice_get-none}
use Rattle.fs_model.specs.declared.parts.VarInfo.{VarInfo}
use Rattle.fs_model.specs.SoundMachines.{has_sort, other_sort_at, scalars_in_assignment, arrays_in_assignment, port_in, scalars_in_assignments}
use Rattle.fs_model.specs.SoundMachines.{arrays_in_assignments}
use Rattle.fs_model.specs.SoundMachines.{scalars_in_condition, arrays_in_condition}
use Rattle.fs_model.specs.SoundMachines.{ports_in_assignments, emits_of, emit_count, occurs, assigned_in, all_differ}
use Rattle.fs_rules.specs.Rules.{is_known}
use Rattle.fs_rules.specs.declared.rules.Uses.{Uses}
use Rattle.fs_rules.specs.Uses.{uses_of, either_of}

not_and_of_pairs : (a b c d : Bool) → (not (a && b) || not (c && d)) ≡ not ((a && c) && (b && d))
not_and_of_pairs true true c d = refl
not_and_of_pairs true false true d = refl
not_and_of_pairs true false false d = refl
not_and_of_pairs false b c d = refl

or_both : (a b c d : Bool) → ((a || b) || (c || d)) ≡ ((a || c) || (b || d))
or_both true b c d = refl
or_both false true true d = refl
or_both false true false d = refl
or_both false false c d = refl

unknown_both : (a b c d e f : Bool) → (not (a && (b && c)) || not (d && (e && f))) ≡ not ((a && d) && ((b && e) && (c && f)))
unknown_both a b c d e f = not_and_of_pairs a (b && c) d (e && f) ∙ ap (λ x. not ((a && d) && x)) (and_swap b c e f)

wrong_both : (a b c d e f : Bool) → ((a || (b || c)) || (d || (e || f))) ≡ ((a || d) || ((b || e) || (c || f)))
wrong_both a b c d e f = or_both a (b || c) d (e || f) ∙ ap (λ x. (a || d) || x) (or_both b c e f)

pub either_uses : (vs : List VarInfo) (a b c d e f : List ℕ) → either_of (uses_of vs a b c) (uses_of vs d e f) ≡ uses_of vs (a ++ d) (b ++ e) (c ++ f)
either_uses vs a b c d e f = λ k. record {
  unknown =
      (unknown_both (list_all (is_known vs) a) (list_all (is_known vs) b) (list_all (is_known vs) c) (list_all (is_known vs) d) (list_all (is_known vs) e)
      (list_all (is_known vs) f)
      ∙ ap₂ (λ (x y : Bool). not (x && y)) (sym (list_all-append (is_known vs) a d))
      (ap₂ (λ (x y : Bool). x && y) (sym (list_all-append (is_known vs) b e)) (sym (list_all-append (is_known vs) c f)))) k;
  wrong_sort =
      (wrong_both (list_any (other_sort_at is_scalar vs) a) (list_any (other_sort_at is_array vs) b) (list_any (other_sort_at is_port vs) c)
      (list_any (other_sort_at is_scalar vs) d) (list_any (other_sort_at is_array vs) e) (list_any (other_sort_at is_port vs) f)
      ∙ ap₂ (λ (x y : Bool). x || y) (sym (list_any-append (other_sort_at is_scalar vs) a d))
      (ap₂ (λ (x y : Bool). x || y) (sym (list_any-append (other_sort_at is_array vs) b e)) (sym (list_any-append (other_sort_at is_port vs) c f)))) k;
}

-- of expressions, no port is used
pub either_transition : (vs : List VarInfo) (a b d e f : List ℕ) → either_of (uses_of vs a b []) (uses_of vs d e f) ≡ uses_of vs (a ++ d) (b ++ e) f
either_transition vs a b d e f = either_uses vs a b [] d e f

pub either_expressions : (vs : List VarInfo) (a b d e : List ℕ) → either_of (uses_of vs a b []) (uses_of vs d e []) ≡ uses_of vs (a ++ d) (b ++ e) []
either_expressions vs a b d e = either_uses vs a b [] d e []

-- ---- one use

abbrev pub told : Bool → Bool → Uses
told unknown wrong = record { unknown = unknown; wrong_sort = wrong }

known_cases : (vs : List VarInfo) (x : ℕ) (o : Option VarInfo) → slice_get vs x ≡ o → is_known vs x ≡ is_some o
known_cases vs x None e = le-ltb x (length vs) (slice_get-none vs x e)
known_cases vs x (Some v) e = lt-ltb x (length vs) (slice_get_within vs x v e)

one_scalar : (k o : Bool) → told (not k) o ≡ told (not ((k && true) && (true && true))) ((o || false) || (false || false))
one_scalar true true = refl
one_scalar true false = refl
one_scalar false true = refl
one_scalar false false = refl

one_array : (k o : Bool) → told (not k) o ≡ told (not (true && ((k && true) && true))) (false || ((o || false) || false))
one_array true true = refl
one_array true false = refl
one_array false true = refl
one_array false false = refl

one_port : (k o : Bool) → told (not k) o ≡ told (not (true && (true && (k && true)))) (false || (false || (o || false)))
one_port true true = refl
one_port true false = refl
one_port false true = refl
one_port false false = refl

-- what is wrong with a use, by what stands at the place
abbrev pub use_by : (Sort → Bool) → Option VarInfo → Uses
use_by test o = told (not (is_some o)) (has_sort (λ s. not (test s)) o)

known_use : (test : Sort → Bool) (vs : List VarInfo) (x : ℕ) → use_by test (slice_get vs x) ≡ told (not (is_known vs x)) (other_sort_at test vs x)
known_use test vs x = ap (λ k. told (not k) (other_sort_at test vs x)) (sym (known_cases vs x (slice_get vs x) refl))

pub scalar_used : (vs : List VarInfo) (x : ℕ) → use_by is_scalar (slice_get vs x) ≡ uses_of vs (x ∷ []) [] []
scalar_used vs x = known_use is_scalar vs x ∙ one_scalar (is_known vs x) (other_sort_at is_scalar vs x)

pub array_used : (vs : List VarInfo) (x : ℕ) → use_by is_array (slice_get vs x) ≡ uses_of vs [] (x ∷ []) []
array_used vs x = known_use is_array vs x ∙ one_array (is_known vs x) (other_sort_at is_array vs x)

pub port_used : (vs : List VarInfo) (x : ℕ) → use_by is_port (slice_get vs x) ≡ uses_of vs [] [] (x ∷ [])
port_used vs x = known_use is_port vs x ∙ one_port (is_known vs x) (other_sort_at is_port vs x)

-- ---- uses of a part

abbrev pub assigned_uses : List VarInfo → Assignment ℕ → Uses
assigned_uses vs a = uses_of vs (scalars_in_assignment a) (arrays_in_assignment a) (port_in a)

abbrev pub all_uses : List VarInfo → List (Assignment ℕ) → Uses
all_uses vs bs = uses_of vs (scalars_in_assignments bs) (arrays_in_assignments bs) (ports_in_assignments bs)

-- of assignments behind a guard
abbrev pub guarded_uses : List VarInfo → List (Assignment ℕ) → Option (Guard ℕ) → Uses
guarded_uses vs bs g =
    uses_of vs (scalars_in_condition g ++ scalars_in_assignments bs) (arrays_in_condition g ++ arrays_in_assignments bs) (ports_in_assignments bs)

scalars_push : (bs : List (Assignment ℕ)) (a : Assignment ℕ) → scalars_in_assignments (bs ++ a ∷ []) ≡ scalars_in_assignments bs ++ scalars_in_assignment a
scalars_push [] a = append-nil (scalars_in_assignment a)
scalars_push (b ∷ bs) a = ap (λ r. scalars_in_assignment b ++ r) (scalars_push bs a)
    ∙ sym (append_assoc (scalars_in_assignment b) (scalars_in_assignments bs) (scalars_in_assignment a))

arrays_push : (bs : List (Assignment ℕ)) (a : Assignment ℕ) → arrays_in_assignments (bs ++ a ∷ []) ≡ arrays_in_assignments bs ++ arrays_in_assignment a
arrays_push [] a = append-nil (arrays_in_assignment a)
arrays_push (b ∷ bs) a = ap (λ r. arrays_in_assignment b ++ r) (arrays_push bs a)
    ∙ sym (append_assoc (arrays_in_assignment b) (arrays_in_assignments bs) (arrays_in_assignment a))

ports_push : (bs : List (Assignment ℕ)) (a : Assignment ℕ) → ports_in_assignments (bs ++ a ∷ []) ≡ ports_in_assignments bs ++ port_in a
ports_push [] a = append-nil (port_in a)
ports_push (b ∷ bs) a = ap (λ r. port_in b ++ r) (ports_push bs a) ∙ sym (append_assoc (port_in b) (ports_in_assignments bs) (port_in a))

-- one more assignment
pub uses_push : (vs : List VarInfo) (bs : List (Assignment ℕ)) (a : Assignment ℕ)
    → either_of (uses_of vs (scalars_in_assignments bs) (arrays_in_assignments bs) (ports_in_assignments bs))
    (uses_of vs (scalars_in_assignment a) (arrays_in_assignment a) (port_in a))
    ≡ uses_of vs (scalars_in_assignments (bs ++ a ∷ [])) (arrays_in_assignments (bs ++ a ∷ [])) (ports_in_assignments (bs ++ a ∷ []))
uses_push vs bs a =
    either_uses vs (scalars_in_assignments bs) (arrays_in_assignments bs) (ports_in_assignments bs) (scalars_in_assignment a)
    (arrays_in_assignment a) (port_in a)
    ∙ ap (λ x. uses_of vs x (arrays_in_assignments bs ++ arrays_in_assignment a) (ports_in_assignments bs ++ port_in a)) (sym (scalars_push bs a))
    ∙ ap₂ (uses_of vs (scalars_in_assignments (bs ++ a ∷ []))) (sym (arrays_push bs a)) (sym (ports_push bs a))

-- ---- emits

emits_push : (bs : List (Assignment (List ℕ))) (a : Assignment (List ℕ)) → emit_count (bs ++ a ∷ []) ≡ emit_count bs + emits_of a
emits_push [] a = omega arith
emits_push (b ∷ bs) a = let h = emits_push bs a in omega arith

pub emits_more : {T : Type 0} (over : T → Assignment (List ℕ)) (xs : List T) (i : ℕ) (x : T) → i < length xs → x ≡ get_or xs i x
    → emit_count (map over (take (i + 1) xs)) ≡ emit_count (map over (take i xs)) + emits_of (over x)
emits_more over xs i x h e = ap emit_count (taken_map over xs i x h e) ∙ emits_push (map over (take i xs)) (over x)

one_over : {X Y : Type 0} (f : X → Y) (a : Assignment X) → emits_of (assignment_over f a) ≡ emits_of a
one_over f (Assign x e) = refl
one_over f (ArrayWrite x i e) = refl
one_over f (Emit x e) = refl

pub emits_over : {X Y : Type 0} (f : X → Y) (bs : List (Assignment X)) → emit_count (map (assignment_over f) bs) ≡ emit_count bs
emits_over f [] = refl
emits_over f (a ∷ bs) = ap₂ (λ (x y : ℕ). x + y) (one_over f a) (emits_over f bs)

-- each number is none of those before it, of which some are known
abbrev pub are_new : (seen xs : List ℕ) → Bool
are_new seen [] = true
are_new seen (x ∷ xs) = not (occurs x seen) && are_new (seen ++ x ∷ []) xs

step_new : (o r : Bool) → (o || false) ≡ false → (not o && r) ≡ r
step_new true r h = cc
step_new false r h = refl

step_old : (o r : Bool) → (o || false) ≡ true → (not o && r) ≡ false
step_old true r h = refl
step_old false r h = cc

-- each number is none of some
abbrev all_apart : (seen xs : List ℕ) → Bool
all_apart seen xs = list_all (λ x. not (occurs x seen)) xs

apart_cases : (s o a r d : Bool) → (not s && ((a && r) && d)) ≡ ((not s && a) && (r && d))
apart_cases true o a r d = refl
apart_cases false o true r d = refl
apart_cases false o false r d = refl

one_apart : (s e : Bool) → not (s || (e || false)) ≡ (not s && not e)
one_apart true e = refl
one_apart false true = refl
one_apart false false = refl

flip : (x y : ℕ) → (x == y) ≡ (y == x)
flip x y = grind (arith, nat_tests)

apart_one : (x : ℕ) (xs : List ℕ) → list_all (λ y. not (x == y)) xs ≡ not (occurs x xs)
apart_one x [] = refl
apart_one x (y ∷ xs) = ap₂ (λ (a b : Bool). not a && b) (flip x y) (apart_one x xs) ∙ sym (not_or (y == x) (occurs x xs))

apart_push : (seen : List ℕ) (x : ℕ) (xs : List ℕ) → all_apart (seen ++ x ∷ []) xs ≡ (all_apart seen xs && list_all (λ y. not (x == y)) xs)
apart_push seen x [] = refl
apart_push seen x (y ∷ xs) =
    ap₂ (λ (a b : Bool). a && b) (ap not (list_any-append (λ z. z == y) seen (x ∷ [])) ∙ one_apart (occurs y seen) (x == y)) (apart_push seen x xs)
    ∙ and_swap (not (occurs y seen)) (not (x == y)) (all_apart seen xs) (list_all (λ z. not (x == z)) xs)

new_is : (seen xs : List ℕ) → are_new seen xs ≡ (all_apart seen xs && all_differ xs)
new_is seen [] = refl
new_is seen (x ∷ xs) =
    ap (λ r. not (occurs x seen) && r)
    (new_is (seen ++ x ∷ []) xs ∙ ap (λ a. a && all_differ xs) (apart_push seen x xs ∙ ap (λ b. all_apart seen xs && b) (apart_one x xs)))
    ∙ apart_cases (occurs x seen) false (all_apart seen xs) (not (occurs x xs)) (all_differ xs)

apart_nil : (xs : List ℕ) → all_apart [] xs ≡ true
apart_nil [] = refl
apart_nil (x ∷ xs) = apart_nil xs

pub new_differ : (xs : List ℕ) → are_new [] xs ≡ all_differ xs
new_differ xs = new_is [] xs ∙ ap (λ a. a && all_differ xs) (apart_nil xs)

one_in : (a : Assignment ℕ) (bs : List (Assignment ℕ)) → assigned_in (a ∷ bs) ≡ assigned_in (a ∷ []) ++ assigned_in bs
one_in (Assign x e) bs = refl
one_in (ArrayWrite x i e) bs = refl
one_in (Emit x e) bs = refl

pub assigned_push : (bs : List (Assignment ℕ)) (a : Assignment ℕ) → assigned_in (bs ++ a ∷ []) ≡ assigned_in bs ++ assigned_in (a ∷ [])
assigned_push [] a = refl
assigned_push (Assign x e ∷ bs) a = ap (λ r. x ∷ r) (assigned_push bs a)
assigned_push (ArrayWrite x i e ∷ bs) a = assigned_push bs a
assigned_push (Emit x e ∷ bs) a = assigned_push bs a

any_same : (p q : ℕ → Bool) → ((x : ℕ) → p x ≡ q x) → (xs : List ℕ) → list_any p xs ≡ list_any q xs
any_same p q h [] = refl
any_same p q h (x ∷ xs) = ap₂ (λ (a b : Bool). a || b) (h x) (any_same p q h xs)

none_again : (a : Assignment ℕ) (seen rest : List ℕ) → list_any (λ q. occurs q seen) (assigned_in (a ∷ [])) ≡ false
    → are_new seen (assigned_in (a ∷ []) ++ rest) ≡ are_new (seen ++ assigned_in (a ∷ [])) rest
none_again (Assign x e) seen rest h = step_new (occurs x seen) (are_new (seen ++ x ∷ []) rest) h
none_again (ArrayWrite x i e) seen rest h = ap (λ r. are_new r rest) (sym (append-nil seen))
none_again (Emit x e) seen rest h = ap (λ r. are_new r rest) (sym (append-nil seen))

some_again : (a : Assignment ℕ) (seen rest : List ℕ) → list_any (λ q. occurs q seen) (assigned_in (a ∷ [])) ≡ true
    → are_new seen (assigned_in (a ∷ []) ++ rest) ≡ false
some_again (Assign x e) seen rest h = step_old (occurs x seen) (are_new (seen ++ x ∷ []) rest) h
some_again (ArrayWrite x i e) seen rest h = cc
some_again (Emit x e) seen rest h = cc

-- one turn over assignments, where the scalars seen are those assigned before
pub record SeenTo (T : Type 0) (over : T → Assignment ℕ) (xs : List T) (i : ℕ) (has : ℕ → Bool) : Type 0 where
  pub seen : (q : ℕ) → has q ≡ occurs q (assigned_in (map over (take i xs)))
  pub rest : are_new (assigned_in (map over (take i xs))) (assigned_in (map over (drop i xs))) ≡ all_differ (assigned_in (map over xs))

pub seen_start : {T : Type 0} (over : T → Assignment ℕ) (xs : List T) (has : ℕ → Bool) → ((q : ℕ) → has q ≡ false) → SeenTo T over xs 0 has
seen_start over xs has h = record { seen = h; rest = new_differ (assigned_in (map over xs)) }

pub seen_more : {T : Type 0} (over : T → Assignment ℕ) (xs : List T) (i : ℕ) (x : T) → i < length xs → x ≡ get_or xs i x → (has more : ℕ → Bool)
    → SeenTo T over xs i has
    → false ≡ list_any has (assigned_in (over x ∷ [])) → ((q : ℕ) → more q ≡ (has q || occurs q (assigned_in (over x ∷ [])))) → SeenTo T over xs (i + 1) more
seen_more over xs i x h e has more s again put =
    let done = assigned_in (map over (take i xs)) in
    let one = assigned_in (over x ∷ []) in
    let t : assigned_in (map over (take (i + 1) xs)) ≡ done ++ one = ap assigned_in (taken_map over xs i x h e)
    ∙ assigned_push (map over (take i xs)) (over x) in
    let l : assigned_in (map over (drop i xs)) ≡ one ++ assigned_in (map over (drop (i + 1) xs)) = ap assigned_in (map_drop_next over xs i x h e)
    ∙ one_in (over x) (map over (drop (i + 1) xs)) in
    let none : list_any (λ q. occurs q done) one ≡ false = sym (any_same has (λ q. occurs q done) s.seen one) ∙ sym again in
    record {
      seen = λ q. put q ∙ ap (λ b. b || occurs q one) (s.seen q) ∙ sym (list_any-append (λ y. y == q) done one) ∙ ap (occurs q) (sym t);
      rest = ap (λ d. are_new d (assigned_in (map over (drop (i + 1) xs)))) t ∙ sym (none_again (over x) done (assigned_in (map over (drop (i + 1) xs))) none)
          ∙ ap (are_new done) (sym l) ∙ s.rest;
    }

pub seen_again : {T : Type 0} (over : T → Assignment ℕ) (xs : List T) (i : ℕ) (x : T) → i < length xs → x ≡ get_or xs i x → (has : ℕ → Bool)
    → SeenTo T over xs i has
    → true ≡ list_any has (assigned_in (over x ∷ [])) → all_differ (assigned_in (map over xs)) ≡ false
seen_again over xs i x h e has s again =
    let done = assigned_in (map over (take i xs)) in
    let one = assigned_in (over x ∷ []) in
    let l : assigned_in (map over (drop i xs)) ≡ one ++ assigned_in (map over (drop (i + 1) xs)) = ap assigned_in (map_drop_next over xs i x h e)
    ∙ one_in (over x) (map over (drop (i + 1) xs)) in
    let some : list_any (λ q. occurs q done) one ≡ true = sym (any_same has (λ q. occurs q done) s.seen one) ∙ sym again in
    sym s.rest ∙ ap (are_new done) l ∙ some_again (over x) done (assigned_in (map over (drop (i + 1) xs))) some

pub seen_all : {T : Type 0} (over : T → Assignment ℕ) (xs : List T) (i : ℕ) (has : ℕ → Bool) → length xs ≤ i → SeenTo T over xs i has
    → all_differ (assigned_in (map over xs)) ≡ true
seen_all over xs i has h s = sym s.rest ∙ ap (λ r. are_new (assigned_in (map over (take i xs))) (assigned_in (map over r))) (drop_all i xs h)
