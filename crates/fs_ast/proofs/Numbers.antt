-- Numbers in order of the text.
use Rattle.std.proofs.Common.{◌≡◌, ℕ, ◌+◌, ◌<◌, List, [], ◌∷◌, ◌++◌, length, get_or, take, sym, ◌∙◌, ap, append_assoc, append-nil, zero, suc, refl, arith}
use Rattle.std.specs.Prelude.{ℤ, Bool, true, ◌&&◌, Some, map, slice_get}
use Rattle.std.specs.List.{list_all, slice_index_or}
use Rattle.std.proofs.lemmas.List.Folds.{list_all-append}
use Rattle.std.proofs.lemmas.Bool.{and_from}
use Rattle.fs_model.proofs.Booleans.{and_first, and_second}
use Rattle.fs_model.specs.Expressions.{Assignment, Transition}
use Rattle.fs_model.specs.Machines.{State}
use Rattle.fs_model.specs.SoundMachines.{numbers_in_condition, numbers_in_assignment, numbers_in_assignments, numbers_in_transitions, numbers_in_states}
use Rattle.fs_rules.proofs.Turns.{taken_map}

pub assignments_push : (bs : List (Assignment ℕ)) (a : Assignment ℕ) → numbers_in_assignments (bs ++ a ∷ []) ≡ numbers_in_assignments bs
    ++ numbers_in_assignment a
assignments_push [] a = append-nil (numbers_in_assignment a)
assignments_push (b ∷ bs) a = ap (λ r. numbers_in_assignment b ++ r) (assignments_push bs a)
    ∙ sym (append_assoc (numbers_in_assignment b) (numbers_in_assignments bs) (numbers_in_assignment a))

abbrev pub numbers_in_transition : Transition ℕ ℕ → List ℤ
numbers_in_transition l = numbers_in_condition l.guard ++ numbers_in_assignments l.assignments

pub lines_push : (ls : List (Transition ℕ ℕ)) (l : Transition ℕ ℕ) → numbers_in_transitions (ls ++ l ∷ []) ≡ numbers_in_transitions ls
    ++ numbers_in_transition l
lines_push [] l = ap (λ r. numbers_in_condition l.guard ++ r) (append-nil (numbers_in_assignments l.assignments))
lines_push (k ∷ ls) l =
    ap (λ r. numbers_in_condition k.guard ++ (numbers_in_assignments k.assignments ++ r)) (lines_push ls l)
    ∙ ap (λ r. numbers_in_condition k.guard ++ r)
    (sym (append_assoc (numbers_in_assignments k.assignments) (numbers_in_transitions ls) (numbers_in_transition l)))
    ∙ sym (append_assoc (numbers_in_condition k.guard) (numbers_in_assignments k.assignments ++ numbers_in_transitions ls) (numbers_in_transition l))

pub states_push : (ss : List State) (s : State) → numbers_in_states (ss ++ s ∷ []) ≡ numbers_in_states ss ++ numbers_in_transitions s.transitions
states_push [] s = append-nil (numbers_in_transitions s.transitions)
states_push (t ∷ ss) s = ap (λ r. numbers_in_transitions t.transitions ++ r) (states_push ss s)
    ∙ sym (append_assoc (numbers_in_transitions t.transitions) (numbers_in_states ss) (numbers_in_transitions s.transitions))

-- numbers put at the end of those of what was done
pub put_numbers : {A B : Type 0} (all : List B → List ℤ) (one : B → List ℤ) → ((bs : List B) (b : B) → all (bs ++ b ∷ []) ≡ all bs ++ one b)
    → (g : A → B) (xs : List A) (i : ℕ) (x : A) → i < length xs → x ≡ get_or xs i x
    → (start old new : List ℤ) → new ≡ old ++ one (g x) → old ≡ start ++ all (map g (take i xs)) → new ≡ start ++ all (map g (take (i + 1) xs))
put_numbers all one push g xs i x h e start old new put before =
    put ∙ ap (λ r. r ++ one (g x)) before ∙ append_assoc start (all (map g (take i xs))) (one (g x))
    ∙ ap (λ r. start ++ r) (sym (ap all (taken_map g xs i x h e) ∙ push (map g (take i xs)) (g x)))

-- two lists that say the same item by item
pub same_at : {A B C : Type 0} (f : A → C) (g : B → C) (xs : List A) (ys : List B) → map f xs ≡ map g ys → (i : ℕ) (x : A) (d : B) → i < length ys
    → x ≡ get_or xs i x → f x ≡ g (get_or ys i d)
same_at f g xs [] e i x d h at = absurd (omega arith)
same_at f g [] (y ∷ ys) e i x d h at = absurd (cc)
same_at f g (z ∷ xs) (y ∷ ys) e zero x d h at = let first : f z ≡ g y = cc in ap f at ∙ first
same_at f g (z ∷ xs) (y ∷ ys) e (suc i) x d h at = let rest : map f xs ≡ map g ys = cc in same_at f g xs ys rest i x d (omega arith) at

-- ---- tests of numbers

pub all_both : (T U : ℤ → Bool) (xs : List ℤ) → list_all T xs ≡ true → list_all U xs ≡ true → list_all (λ n. T n && U n) xs ≡ true
all_both T U [] h i = refl
all_both T U (x ∷ xs) h i =
    and_from (T x && U x) (list_all (λ n. T n && U n) xs) (and_from (T x) (U x) (and_first (T x) (list_all T xs) h) (and_first (U x) (list_all U xs) i))
    (all_both T U xs (and_second (T x) (list_all T xs) h) (and_second (U x) (list_all U xs) i))

pub all_joined : (T : ℤ → Bool) (a b : List ℤ) → list_all T a ≡ true → list_all T b ≡ true → list_all T (a ++ b) ≡ true
all_joined T a b h i = list_all-append T a b ∙ and_from (list_all T a) (list_all T b) h i

all_front : (T : ℤ → Bool) (a b : List ℤ) → list_all T (a ++ b) ≡ true → list_all T a ≡ true
all_front T a b h = and_first (list_all T a) (list_all T b) (sym (list_all-append T a b) ∙ h)

all_back : (T : ℤ → Bool) (a b : List ℤ) → list_all T (a ++ b) ≡ true → list_all T b ≡ true
all_back T a b h = and_second (list_all T a) (list_all T b) (sym (list_all-append T a b) ∙ h)

pub state_numbers : (T : ℤ → Bool) (ss : List State) (q : ℕ) → list_all T (numbers_in_states ss) ≡ true
    → list_all T (numbers_in_transitions (slice_index_or ss q (record { name = []; transitions = [] })).transitions) ≡ true
state_numbers T [] q h = refl
state_numbers T (s ∷ ss) zero h = all_front T (numbers_in_transitions s.transitions) (numbers_in_states ss) h
state_numbers T (s ∷ ss) (suc q) h = state_numbers T ss q (all_back T (numbers_in_transitions s.transitions) (numbers_in_states ss) h)

pub transition_numbers : (T : ℤ → Bool) (ls : List (Transition ℕ ℕ)) (k : ℕ) (l : Transition ℕ ℕ) → list_all T (numbers_in_transitions ls) ≡ true
    → slice_get ls k ≡ Some l → list_all T (numbers_in_transition l) ≡ true
transition_numbers T [] k l h e = absurd (cc)
transition_numbers T (x ∷ ls) zero l h e =
    let same : x ≡ l = cc in
    let rest = all_back T (numbers_in_condition x.guard) (numbers_in_assignments x.assignments ++ numbers_in_transitions ls) h in
    ap (λ y. list_all T (numbers_in_transition y)) (sym same)
    ∙ all_joined T (numbers_in_condition x.guard) (numbers_in_assignments x.assignments)
    (all_front T (numbers_in_condition x.guard) (numbers_in_assignments x.assignments ++ numbers_in_transitions ls) h)
    (all_front T (numbers_in_assignments x.assignments) (numbers_in_transitions ls) rest)
transition_numbers T (x ∷ ls) (suc k) l h e =
    transition_numbers T ls k l
    (all_back T (numbers_in_assignments x.assignments) (numbers_in_transitions ls)
    (all_back T (numbers_in_condition x.guard) (numbers_in_assignments x.assignments ++ numbers_in_transitions ls) h)) e
