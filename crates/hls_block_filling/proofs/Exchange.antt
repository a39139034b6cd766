-- Items that share nothing may be exchanged.
use Rattle.std.proofs.Common.{◌≡◌, ℕ, List, [], ◌∷◌, ◌++◌, refl, sym, ◌∙◌, ap, ap₂, arith, Bool, true, false}
use Rattle.std.proofs.lemmas.Bool.Decides.{nat_tests}
use Rattle.std.specs.Prelude.{◌==◌, not, ◌&&◌, ◌||◌, cond, ℤ, ◌+ℤ◌, ◌-ℤ◌, ◌*ℤ◌, neg_ℤ}
use Rattle.std.specs.Ordering.{int_eq}
use Rattle.std.proofs.lemmas.Bool.{and_from}
use Rattle.fs_model.proofs.Booleans.{and_first, and_second, neither_first, neither_second, not_or_second}
use Rattle.fs_model.specs.Division.{quotient, remainder}
use Rattle.fs_model.specs.Expressions.{Expression, Number, Variable, Read, Sum, Difference, Product, Quotient, Remainder, Negative, Assignment, Assign}
use Rattle.fs_model.specs.Expressions.{ArrayWrite, Emit}
use Rattle.fs_model.specs.Stores.{Store, store_with_number, store_with_entry, store_with_emit}
use Rattle.fs_model.specs.Meaning.{value, act, act_all}
use Rattle.fs_model.specs.SoundMachines.{assigned_in, occurs}
use Rattle.hls_block_filling.specs.Items.{Item, read_in, variables_read_by, reads_of_item, changes, stored_in, emits, has_common_number, is_strict, is_weak}

-- two stores hold the same in each of these variables
abbrev pub Agree : List ℕ → Store → Store → Type 0
Agree [] s t = Unit {0}
Agree (x ∷ xs) s t = (s.scalar x ≡ t.scalar x) × (s.array x ≡ t.array x) × Agree xs s t

agree_left : (xs ys : List ℕ) (s t : Store) → Agree (xs ++ ys) s t → Agree xs s t
agree_left [] ys s t h = tt
agree_left (x ∷ xs) ys s t h = (h.0, h.1, agree_left xs ys s t h.2)

agree_right : (xs ys : List ℕ) (s t : Store) → Agree (xs ++ ys) s t → Agree ys s t
agree_right [] ys s t h = h
agree_right (x ∷ xs) ys s t h = agree_right xs ys s t h.2

same_value : (e : Expression ℕ) (s t : Store) → Agree (read_in e) s t → value e s ≡ value e t
same_value (Number n) s t h = refl
same_value (Variable x) s t h = h.0
same_value (Read x i) s t h = ap₂ (λ f v. f v) h.1 (same_value i s t h.2)
same_value (Sum a b) s t h = ap₂ (λ u v. u +ℤ v) (same_value a s t (agree_left (read_in a) (read_in b) s t h))
    (same_value b s t (agree_right (read_in a) (read_in b) s t h))
same_value (Difference a b) s t h = ap₂ (λ u v. u -ℤ v) (same_value a s t (agree_left (read_in a) (read_in b) s t h))
    (same_value b s t (agree_right (read_in a) (read_in b) s t h))
same_value (Product a b) s t h = ap₂ (λ u v. u *ℤ v) (same_value a s t (agree_left (read_in a) (read_in b) s t h))
    (same_value b s t (agree_right (read_in a) (read_in b) s t h))
same_value (Quotient a b) s t h = ap₂ quotient (same_value a s t (agree_left (read_in a) (read_in b) s t h))
    (same_value b s t (agree_right (read_in a) (read_in b) s t h))
same_value (Remainder a b) s t h = ap₂ remainder (same_value a s t (agree_left (read_in a) (read_in b) s t h))
    (same_value b s t (agree_right (read_in a) (read_in b) s t h))
same_value (Negative a) s t h = ap neg_ℤ (same_value a s t h)

same_act : (a : Assignment ℕ) (s t u : Store) → Agree (variables_read_by a) s t → act a s u ≡ act a t u
same_act (Assign x e) s t u h = ap (store_with_number u x) (same_value e s t h)
same_act (Emit x e) s t u h = ap (store_with_emit u x) (same_value e s t h)
same_act (ArrayWrite x i e) s t u h = ap₂ (store_with_entry u x) (same_value i s t (agree_left (read_in i) (read_in e) s t h))
    (same_value e s t (agree_right (read_in i) (read_in e) s t h))

-- stores that agree on what an item reads give it the same right sides and indices
pub same_acts : (a : Item) (s t u : Store) → Agree (reads_of_item a) s t → act_all a s u ≡ act_all a t u
same_acts [] s t u h = refl
same_acts (a ∷ rest) s t u h = same_acts rest s t (act a s u) (agree_right (variables_read_by a) (reads_of_item rest) s t h)
    ∙ ap (act_all rest t) (same_act a s t u (agree_left (variables_read_by a) (reads_of_item rest) s t h))

apart_first : (b c : Bool) → not (b || c) ≡ true → b ≡ false
apart_first true c h = absurd (cc)
apart_first false c h = refl

swapped : (x y z : ℕ) (v w u : ℤ) → (y == x) ≡ false → cond (z == y) w (cond (z == x) v u) ≡ cond (z == x) v (cond (z == y) w u)
swapped x y z v w u h = grind (arith, nat_tests)

spread : (x y z : ℕ) (p q : Bool) (v w u : ℤ) → (y == x) ≡ false
    → cond (z == y) (cond q w (cond (z == x) (cond p v u) u)) (cond (z == x) (cond p v u) u)
    ≡ cond (z == x) (cond p v (cond (z == y) (cond q w u) u)) (cond (z == y) (cond q w u) u)
spread x y z p q v w u h = grind (arith, nat_tests)

other : (x y : ℕ) (b : Bool) → ((y == x) || b) ≡ false → (x == y) ≡ false
other x y b h = grind (arith, nat_tests)

-- what an item does not change stays
scalar_stays : (a : Item) (x : ℕ) (s t : Store) → occurs x (changes a) ≡ false → (act_all a s t).scalar x ≡ t.scalar x
scalar_stays [] x s t h = refl
scalar_stays (Assign y e ∷ rest) x s t h =
    scalar_stays rest x s (act (Assign y e) s t) (neither_second (y == x) (occurs x (changes rest)) h)
    ∙ ap (λ b. cond b (value e s) (t.scalar x)) (other x y (occurs x (changes rest)) h)
scalar_stays (Emit y e ∷ rest) x s t h = scalar_stays rest x s (act (Emit y e) s t) (neither_second (y == x) (occurs x (changes rest)) h)
scalar_stays (ArrayWrite y i e ∷ rest) x s t h = scalar_stays rest x s (act (ArrayWrite y i e) s t) (neither_second (y == x) (occurs x (changes rest)) h)

array_stays : (a : Item) (x : ℕ) (s t : Store) → occurs x (changes a) ≡ false → (act_all a s t).array x ≡ t.array x
array_stays [] x s t h = refl
array_stays (Assign y e ∷ rest) x s t h = array_stays rest x s (act (Assign y e) s t) (neither_second (y == x) (occurs x (changes rest)) h)
array_stays (Emit y e ∷ rest) x s t h = array_stays rest x s (act (Emit y e) s t) (neither_second (y == x) (occurs x (changes rest)) h)
array_stays (ArrayWrite y i e ∷ rest) x s t h =
    array_stays rest x s (act (ArrayWrite y i e) s t) (neither_second (y == x) (occurs x (changes rest)) h)
    ∙ ap (λ b. λ j. cond b (cond (int_eq (value i s) j) (value e s) (t.array x j)) (t.array x j)) (other x y (occurs x (changes rest)) h)

-- what reads nothing that an item changes reads the same after it
pub agree_after : (a : Item) (xs : List ℕ) (s : Store) → has_common_number (changes a) xs ≡ false → Agree xs s (act_all a s s)
agree_after a [] s h = tt
agree_after a (x ∷ xs) s h =
    let here : occurs x (changes a) ≡ false = neither_first (occurs x (changes a)) (has_common_number (changes a) xs) h in (
      sym (scalar_stays a x s s here),
      sym (array_stays a x s s here),
      agree_after a xs s (neither_second (occurs x (changes a)) (has_common_number (changes a) xs) h),
    )

-- an action of one item goes past another item that assigns and writes nothing that it does
abbrev pub is_apart : Assignment ℕ → Item → Bool
is_apart (Assign x e) b = not (occurs x (assigned_in b))
is_apart (ArrayWrite x i e) b = not (occurs x (stored_in b))
is_apart (Emit x e) b = not (emits b)

assigns_swap : (x y : ℕ) (v w : ℤ) (t : Store) → (y == x) ≡ false
    → store_with_number (store_with_number t x v) y w ≡ store_with_number (store_with_number t y w) x v
assigns_swap x y v w t h = λ j. record { scalar = λ z. swapped x y z v w (t.scalar z) h j; array = t.array; port = t.port }

writes_swap : (x y : ℕ) (i k v w : ℤ) (t : Store) → (y == x) ≡ false
    → store_with_entry (store_with_entry t x i v) y k w ≡ store_with_entry (store_with_entry t y k w) x i v
writes_swap x y i k v w t h = λ j. record { scalar = t.scalar; array = λ z n. spread x y z (int_eq i n) (int_eq k n) v w (t.array z n) h j; port = t.port }

past : (a : Assignment ℕ) (b : Item) (s r t : Store) → is_apart a b ≡ true → act_all b s (act a r t) ≡ act a r (act_all b s t)
past a [] s r t h = refl
past (Assign x e) (Assign y f ∷ rest) s r t h =
    ap (act_all rest s) (assigns_swap x y (value e r) (value f s) t (apart_first (y == x) (occurs x (assigned_in rest)) h))
    ∙ past (Assign x e) rest s r (act (Assign y f) s t) (not_or_second (y == x) (occurs x (assigned_in rest)) h)
past (Assign x e) (ArrayWrite y k f ∷ rest) s r t h = past (Assign x e) rest s r (act (ArrayWrite y k f) s t) h
past (ArrayWrite x i e) (Assign y f ∷ rest) s r t h = past (ArrayWrite x i e) rest s r (act (Assign y f) s t) h
past (Assign x e) (Emit y f ∷ rest) s r t h = past (Assign x e) rest s r (act (Emit y f) s t) h
past (ArrayWrite x i e) (Emit y f ∷ rest) s r t h = past (ArrayWrite x i e) rest s r (act (Emit y f) s t) h
past (Emit x e) (Assign y f ∷ rest) s r t h = past (Emit x e) rest s r (act (Assign y f) s t) h
past (Emit x e) (ArrayWrite y k f ∷ rest) s r t h = past (Emit x e) rest s r (act (ArrayWrite y k f) s t) h
past (Emit x e) (Emit y f ∷ rest) s r t h = absurd (cc h)
past (ArrayWrite x i e) (ArrayWrite y k f ∷ rest) s r t h =
    ap (act_all rest s) (writes_swap x y (value i r) (value k s) (value e r) (value f s) t (apart_first (y == x) (occurs x (stored_in rest)) h))
    ∙ past (ArrayWrite x i e) rest s r (act (ArrayWrite y k f) s t) (not_or_second (y == x) (occurs x (stored_in rest)) h)

abbrev pub all_apart : Item → Item → Bool
all_apart [] b = true
all_apart (a ∷ rest) b = is_apart a b && all_apart rest b

pub pass : (a b : Item) (s r t : Store) → all_apart a b ≡ true → act_all b s (act_all a r t) ≡ act_all a r (act_all b s t)
pass [] b s r t h = refl
pass (a ∷ rest) b s r t h =
    pass rest b s r (act a r t) (and_second (is_apart a b) (all_apart rest b) h)
    ∙ ap (act_all rest r) (past a b s r t (and_first (is_apart a b) (all_apart rest b) h))

-- items without an edge between them
pub record Unbound (a b : Item) : Type 0 where
  pub strict : is_strict a b ≡ false
  pub weak : is_weak a b ≡ false

pub meet_nothing : (xs : List ℕ) → has_common_number [] xs ≡ false
meet_nothing [] = refl
meet_nothing (x ∷ xs) = meet_nothing xs

pub meet_first : (y : ℕ) (ys xs : List ℕ) → has_common_number (y ∷ ys) xs ≡ false → occurs y xs ≡ false
meet_first y ys [] h = refl
meet_first y ys (x ∷ xs) h = grind (arith, nat_tests, meet_first y ys xs)

pub meet_later : (y : ℕ) (ys xs : List ℕ) → has_common_number (y ∷ ys) xs ≡ false → has_common_number ys xs ≡ false
meet_later y ys [] h = refl
meet_later y ys (x ∷ xs) h = grind (arith, nat_tests, meet_later y ys xs)

emits_apart : (b c : Bool) → (b && c) ≡ false → b ≡ true → not c ≡ true
emits_apart true c h e = ap not h
emits_apart false c h e = absurd (cc e)

nothing_emits : (b : Item) (c : Bool) → (true && c) ≡ false → (emits b && c) ≡ false
nothing_emits b true h = absurd (cc h)
nothing_emits b false h = grind arith

apart_items : (a b : Item) → has_common_number (assigned_in a) (assigned_in b) ≡ false → has_common_number (stored_in a) (stored_in b) ≡ false
    → (emits a && emits b) ≡ false
    → all_apart a b ≡ true
apart_items [] b p q r = refl
apart_items (Assign x e ∷ rest) b p q r = and_from _ _ (ap not (meet_first x (assigned_in rest) (assigned_in b) p))
    (apart_items rest b (meet_later x (assigned_in rest) (assigned_in b) p) q r)
apart_items (ArrayWrite x i e ∷ rest) b p q r = and_from _ _ (ap not (meet_first x (stored_in rest) (stored_in b) q))
    (apart_items rest b p (meet_later x (stored_in rest) (stored_in b) q) r)
apart_items (Emit x e ∷ rest) b p q r = and_from _ _ (emits_apart true (emits b) r refl) (apart_items rest b p q (nothing_emits rest (emits b) r))

-- an item does the same over the store before as over the one after an item of whose changes it reads none
pub read_before : (a b : Item) (s t : Store) → is_strict a b ≡ false → act_all b s t ≡ act_all b (act_all a s s) t
read_before a b s t h = same_acts b s (act_all a s s) t (agree_after a (reads_of_item b) s (neither_first _ _ h))

unbound_by : (b c : Bool) → b ≡ false → (not b && c) ≡ false → c ≡ false
unbound_by true c e h = absurd (cc e)
unbound_by false c e h = h

-- neighbours without an edge may be exchanged
pub exchange : (a b : Item) (s : Store) → Unbound a b → act_all b (act_all a s s) (act_all a s s) ≡ act_all a (act_all b s s) (act_all b s s)
exchange a b s h =
    let apart : (has_common_number (changes b) (reads_of_item a) || has_common_number (stored_in a) (stored_in b)) ≡ false =
    unbound_by (is_strict a b) _ h.strict h.weak in
    sym (read_before a b s (act_all a s s) h.strict)
    ∙ pass a b s s s
    (apart_items a b (neither_first _ _ (neither_second _ _ h.strict)) (neither_second _ _ apart) (neither_second _ _ (neither_second _ _ h.strict)))
    ∙ same_acts a s (act_all b s s) (act_all b s s) (agree_after b (reads_of_item a) s (neither_first _ _ apart))
