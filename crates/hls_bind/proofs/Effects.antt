-- Literals and assignments over other numbers of variables, between two stores.
use Rattle.std.proofs.Common.{◌≡◌, ℕ, List, [], ◌∷◌, ◌++◌, map, ap, ap₂, sym, refl, ◌∙◌, subst, arith, Bool, true, false, ℤ}
use Rattle.std.specs.Prelude.{◌&&◌, ◌||◌, ◌==◌, cond, not}
use Rattle.std.specs.Ordering.{int_eq}
use Rattle.std.specs.List.{list_all, flat_map}
use Rattle.std.proofs.lemmas.Bool.Decides.{nat_tests}
use Rattle.std.proofs.lemmas.List.Folds.{list_all-append}
use Rattle.std.proofs.lemmas.Bool.{or_from, not-true, eqb-false, eqb-true, eq-eqb}
use Rattle.fs_model.proofs.Booleans.{and_first, and_second}
use Rattle.fs_model.specs.Expressions.{Expression, Literal, Assignment, Assign, ArrayWrite, Emit}
use Rattle.fs_model.specs.Stores.{Store}
use Rattle.fs_model.specs.Meaning.{value, literal_holds, act, act_all}
use Rattle.fs_model.specs.Renamed.{expression_over, literal_over, assignment_over}
use Rattle.fs_model.specs.SoundMachines.{scalars_in, arrays_in, arrays_in_assignment, arrays_in_assignments, assigned_in}
use Rattle.hls_bind.specs.Liveness.{read_by_assignment}
use Rattle.hls_bind.proofs.RegisterMachines.{Agree}
use Rattle.hls_bind.proofs.Over.{has, read_by_literal, in_front, in_back, first_in, Same, value_over, literal_holds_over}

turned : (x y : ℕ) → (x == y) ≡ false → (y == x) ≡ false
turned x y h = grind (arith, nat_tests)

test_by : (f : ℕ → ℕ) (x y : ℕ) (b c : Bool) → (x == y) ≡ b → (f x == f y) ≡ c → (f x ≡ f y → x ≡ y) → b ≡ c
test_by f x y true true e g apart = refl
test_by f x y false false e g apart = refl
test_by f x y true false e g apart = absurd (eqb-false (f x) (f y) g (ap f (eqb-true x y e)))
test_by f x y false true e g apart = absurd (eqb-false x y e (apart (eqb-true (f x) (f y) g)))

test_over : (f : ℕ → ℕ) (x y : ℕ) → (f x ≡ f y → x ≡ y) → (x == y) ≡ (f x == f y)
test_over f x y apart = test_by f x y (x == y) (f x == f y) refl refl apart

module _ (f : ℕ → ℕ) (bound : ℕ → Bool) where
  abbrev pub unbound : ℕ → Bool
  unbound x = not (bound x)

  unbound_by : (y x : ℕ) (ys : List ℕ) (t : Bool) → (y == x) ≡ t → unbound y ≡ true → (has ys x ≡ true → bound x ≡ false) → (t || has ys x) ≡ true
      → bound x ≡ false
  unbound_by y x ys true e h next i = subst (λ z. bound z ≡ false) (eqb-true y x e) (not-true (bound y) h)
  unbound_by y x ys false e h next i = next i

  pub unbound_in : (xs : List ℕ) (x : ℕ) → list_all unbound xs ≡ true → has xs x ≡ true → bound x ≡ false
  unbound_in [] x h i = absurd (cc i)
  unbound_in (y ∷ ys) x h i = unbound_by y x ys (y == x) refl (and_first (unbound y) (list_all unbound ys) h)
      (unbound_in ys x (and_second (unbound y) (list_all unbound ys) h)) i

  abbrev pub plain_literal : Literal ℕ → Bool
  plain_literal l = list_all unbound (arrays_in l.left ++ arrays_in l.right)

  abbrev pub plain_assignments : List (Assignment ℕ) → Bool
  plain_assignments acts = list_all unbound (arrays_in_assignments acts)

  module _ (s t : Store) (agree : Agree f bound s t) where
    -- what is read is the same on both sides
    abbrev pub Reads : List ℕ → Type 0
    Reads xs = (x : ℕ) → has xs x ≡ true → s.scalar x ≡ t.scalar (f x)

    same_in : (xs ys : List ℕ) → Reads xs → list_all unbound ys ≡ true → Same f s t xs ys
    same_in xs ys h i = record { numbers = h; entries = λ x e. agree.arrays x (unbound_in ys x i e) }

    reads_front : (a b : List ℕ) → Reads (a ++ b) → Reads a
    reads_front a b h = λ x e. h x (in_front a b x e)

    reads_back : (a b : List ℕ) → Reads (a ++ b) → Reads b
    reads_back a b h = λ x e. h x (in_back a b x e)

    all_front : (a b : List ℕ) → list_all unbound (a ++ b) ≡ true → list_all unbound a ≡ true
    all_front a b h = and_first (list_all unbound a) (list_all unbound b) (sym (list_all-append unbound a b) ∙ h)

    all_back : (a b : List ℕ) → list_all unbound (a ++ b) ≡ true → list_all unbound b ≡ true
    all_back a b h = and_second (list_all unbound a) (list_all unbound b) (sym (list_all-append unbound a b) ∙ h)

    pub literals_over : (ls : List (Literal ℕ)) → Reads (flat_map read_by_literal ls) → list_all plain_literal ls ≡ true
        → list_all (λ l. literal_holds l s) ls ≡ list_all (λ l. literal_holds l t) (map (literal_over f) ls)
    literals_over [] h i = refl
    literals_over (l ∷ ls) h i =
        ap₂ (λ (a b : Bool). a && b)
        (literal_holds_over f s t l
        (same_in (read_by_literal l) (arrays_in l.left ++ arrays_in l.right) (reads_front (read_by_literal l) (flat_map read_by_literal ls) h)
        (and_first (plain_literal l) (list_all plain_literal ls) i)))
        (literals_over ls (reads_back (read_by_literal l) (flat_map read_by_literal ls) h) (and_second (plain_literal l) (list_all plain_literal ls) i))

    value_same : (e : Expression ℕ) → Reads (scalars_in e) → list_all unbound (arrays_in e) ≡ true → value e s ≡ value (expression_over f e) t
    value_same e h i = value_over f s t e (same_in (scalars_in e) (arrays_in e) h i)

    -- ---- scalars
    assign_other : (x y : ℕ) (u v : Store) (b : ℤ) (c : Bool) → (f x == f y) ≡ c → (x == y) ≡ false → (f y ≡ f x → y ≡ x) → u.scalar x ≡ v.scalar (f x)
        → u.scalar x ≡ cond c b (v.scalar (f x))
    assign_other x y u v b true g e apart h = absurd (eqb-false x y e (sym (apart (sym (eqb-true (f x) (f y) g)))))
    assign_other x y u v b false g e apart h = h

    assign_by : (x y : ℕ) (u v : Store) (a b : ℤ) (c : Bool) → (x == y) ≡ c → a ≡ b → (f y ≡ f x → y ≡ x) → (c ≡ false → u.scalar x ≡ v.scalar (f x))
        → cond c a (u.scalar x) ≡ cond (f x == f y) b (v.scalar (f x))
    assign_by x y u v a b true e same apart h = let g : (f x == f y) ≡ true = eq-eqb (f x) (f y) (ap f (eqb-true x y e)) in rw g same
    assign_by x y u v a b false e same apart h = assign_other x y u v b (f x == f y) refl e apart (h refl)

    pub scalar_after : (acts : List (Assignment ℕ)) (u v : Store) (x : ℕ) → Reads (flat_map read_by_assignment acts)
        → list_all unbound (arrays_in_assignments acts) ≡ true → ((y : ℕ) → has (assigned_in acts) y ≡ true → f y ≡ f x → y ≡ x)
        → (has (assigned_in acts) x ≡ false → u.scalar x ≡ v.scalar (f x))
        → (act_all acts s u).scalar x ≡ (act_all (map (assignment_over f) acts) t v).scalar (f x)
    scalar_after [] u v x h i apart e = e refl
    scalar_after (Assign y e ∷ acts) u v x h i apart k =
        let same = value_same e (reads_front (scalars_in e) (flat_map read_by_assignment acts) h) (all_front (arrays_in e) (arrays_in_assignments acts) i) in
        scalar_after acts (act (Assign y e) s u) (act (assignment_over f (Assign y e)) t v) x (reads_back (scalars_in e) (flat_map read_by_assignment acts) h)
        (all_back (arrays_in e) (arrays_in_assignments acts) i)
        (λ z g. apart z (in_back (y ∷ []) (assigned_in acts) z g))
        (λ g. assign_by x y u v (value e s) (value (expression_over f e) t) (x == y) refl same (apart y (first_in y (assigned_in acts)))
        (λ n. k (or_from (y == x) (has (assigned_in acts) x) (turned x y n) g)))
    scalar_after (ArrayWrite y j e ∷ acts) u v x h i apart k =
        scalar_after acts (act (ArrayWrite y j e) s u) (act (assignment_over f (ArrayWrite y j e)) t v) x
        (reads_back (scalars_in j ++ scalars_in e) (flat_map read_by_assignment acts) h)
        (all_back (arrays_in_assignment (ArrayWrite y j e)) (arrays_in_assignments acts) i) apart k
    scalar_after (Emit y e ∷ acts) u v x h i apart k =
        scalar_after acts (act (Emit y e) s u) (act (assignment_over f (Emit y e)) t v) x (reads_back (scalars_in e) (flat_map read_by_assignment acts) h)
        (all_back (arrays_in e) (arrays_in_assignments acts) i) apart k

    -- ---- arrays
    abbrev put : Bool → ℤ → ℤ → (ℤ → ℤ) → ℤ → ℤ
    put c a b g = λ j. cond c (cond (int_eq a j) b (g j)) (g j)

    pub array_after : (acts : List (Assignment ℕ)) (u v : Store) (x : ℕ) → Reads (flat_map read_by_assignment acts)
        → list_all unbound (arrays_in_assignments acts) ≡ true → ((y : ℕ) → f x ≡ f y → x ≡ y)
        → u.array x ≡ v.array (f x) → (act_all acts s u).array x ≡ (act_all (map (assignment_over f) acts) t v).array (f x)
    array_after [] u v x h i apart e = e
    array_after (Assign y e ∷ acts) u v x h i apart k =
        array_after acts (act (Assign y e) s u) (act (assignment_over f (Assign y e)) t v) x (reads_back (scalars_in e) (flat_map read_by_assignment acts) h)
        (all_back (arrays_in_assignment (Assign y e)) (arrays_in_assignments acts) i) apart k
    array_after (ArrayWrite y j e ∷ acts) u v x h i apart k =
        let reads = reads_front (scalars_in j ++ scalars_in e) (flat_map read_by_assignment acts) h in
        let plain = all_front (arrays_in_assignment (ArrayWrite y j e)) (arrays_in_assignments acts) i in
        let inner = all_back (y ∷ []) (arrays_in j ++ arrays_in e) plain in
        let index = value_same j (reads_front (scalars_in j) (scalars_in e) reads) (all_front (arrays_in j) (arrays_in e) inner) in
        let right_side = value_same e (reads_back (scalars_in j) (scalars_in e) reads) (all_back (arrays_in j) (arrays_in e) inner) in
        array_after acts (act (ArrayWrite y j e) s u) (act (assignment_over f (ArrayWrite y j e)) t v) x
        (reads_back (scalars_in j ++ scalars_in e) (flat_map read_by_assignment acts) h)
        (all_back (arrays_in_assignment (ArrayWrite y j e)) (arrays_in_assignments acts) i) apart
        (ap (λ c. put c (value j s) (value e s) (u.array x)) (test_over f x y (apart y)) ∙ ap (λ a. put (f x == f y) a (value e s) (u.array x)) index
        ∙ ap (λ b. put (f x == f y) (value (expression_over f j) t) b (u.array x)) right_side
        ∙ ap (λ (g : ℤ → ℤ). put (f x == f y) (value (expression_over f j) t) (value (expression_over f e) t) g) k)
    array_after (Emit y e ∷ acts) u v x h i apart k =
        array_after acts (act (Emit y e) s u) (act (assignment_over f (Emit y e)) t v) x (reads_back (scalars_in e) (flat_map read_by_assignment acts) h)
        (all_back (arrays_in e) (arrays_in_assignments acts) i) apart k

    -- ---- ports
    abbrev appended : Bool → ℤ → List ℤ → List ℤ
    appended c a ps = cond c (ps ++ a ∷ []) ps

    pub port_after : (acts : List (Assignment ℕ)) (u v : Store) (x : ℕ) → Reads (flat_map read_by_assignment acts)
        → list_all unbound (arrays_in_assignments acts) ≡ true → ((y : ℕ) → f x ≡ f y → x ≡ y)
        → u.port x ≡ v.port (f x) → (act_all acts s u).port x ≡ (act_all (map (assignment_over f) acts) t v).port (f x)
    port_after [] u v x h i apart e = e
    port_after (Assign y e ∷ acts) u v x h i apart k =
        port_after acts (act (Assign y e) s u) (act (assignment_over f (Assign y e)) t v) x (reads_back (scalars_in e) (flat_map read_by_assignment acts) h)
        (all_back (arrays_in e) (arrays_in_assignments acts) i) apart k
    port_after (ArrayWrite y j e ∷ acts) u v x h i apart k =
        port_after acts (act (ArrayWrite y j e) s u) (act (assignment_over f (ArrayWrite y j e)) t v) x
        (reads_back (scalars_in j ++ scalars_in e) (flat_map read_by_assignment acts) h)
        (all_back (arrays_in_assignment (ArrayWrite y j e)) (arrays_in_assignments acts) i) apart k
    port_after (Emit y e ∷ acts) u v x h i apart k =
        let same = value_same e (reads_front (scalars_in e) (flat_map read_by_assignment acts) h) (all_front (arrays_in e) (arrays_in_assignments acts) i) in
        port_after acts (act (Emit y e) s u) (act (assignment_over f (Emit y e)) t v) x (reads_back (scalars_in e) (flat_map read_by_assignment acts) h)
        (all_back (arrays_in e) (arrays_in_assignments acts) i) apart
        (ap (λ c. appended c (value e s) (u.port x)) (test_over f x y (apart y)) ∙ ap (λ a. appended (f x == f y) a (u.port x)) same
        ∙ ap (λ (ps : List ℤ). appended (f x == f y) (value (expression_over f e) t) ps) k)
