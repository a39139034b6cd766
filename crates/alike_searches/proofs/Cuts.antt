-- Two machines are alike, one of which does in two steps what the other does in one.
use Rattle.std.proofs.Common.{◌≡◌, ℕ, zero, suc, ◌<◌, ◌≤◌, ◌==◌, arith, refl, sym, subst, ◌∙◌, inl, inr, Bool, true, false, cond, List, [], ◌∷◌, Some, None}
use Rattle.std.specs.Prelude.{slice_get}
use Rattle.std.specs.List.{list_all, slice_index_or}
use Rattle.fs_model.specs.Limits.{most_branches}
use Rattle.fs_model.specs.Expressions.{Expression, Variable, Sum, Difference, Product, Assignment, Assign, Transition}
use Rattle.fs_model.specs.Machines.{transitions_of}
use Rattle.fs_model.specs.SoundMachines.{IsSoundTransition, IsSound, branch_count, ends_open, reaches_cutpoint}
use Rattle.fs_ast.specs.Branches.{is_sound_assignment}
use Rattle.fs_cut.specs.Paths.{Point, Start, At, Done, Path, IsPath, state_of}
use Rattle.fs_cut.proofs.Listed.{path_unique}
use Rattle.cert_bisimulation.specs.PathExpressions.{PathExpression, Initial, InitialArray, InitialList, initial, path_expression, acted_all}
use Rattle.cert_bisimulation.specs.ExpressionSameness.{SameLeft}
use Rattle.cert_bisimulation.specs.Alike.{AlikePaths, AlikePoints, Alike, literals_of, left_after}
use Rattle.alike_searches.specs.SplitStates.{their_variables, difference, sum, product, product_at_once, goto, choice, in_one_step, in_two_steps, their_pairs}
use Rattle.alike_searches.proofs.OwnExpressions.{own_initial, own_literals, own_all}
use Rattle.alike_searches.proofs.Names.{same_to_twin, declare_the_same}

-- ---- both are sound

sound_goto : (n target : ℕ) (assignments : List (Assignment ℕ)) (l : Transition ℕ ℕ) (k : ℕ)
    → IsSoundTransition their_variables n (record { guard = None; target = target; assignments = assignments })
    → slice_get (goto target assignments) k ≡ Some l → IsSoundTransition their_variables n l
sound_goto n target assignments l zero s e =
    let same : record { guard = None; target = target; assignments = assignments } ≡ l = cc e in subst (IsSoundTransition their_variables n) same s
sound_goto n target assignments l (suc k) s e = absurd (cc e)

sound_choice : (n : ℕ) (l : Transition ℕ ℕ) (k : ℕ) → 0 < n → slice_get choice k ≡ Some l → IsSoundTransition their_variables n l
sound_choice n l zero h e =
    let same : slice_index_or choice 0 l ≡ l = cc e in
    subst (IsSoundTransition their_variables n) same
    (record { scalars = refl; arrays = refl; ports = refl; numbers = refl; inputs_stay = refl; assigned_once = refl; few_emits = omega arith; target_in = h })
sound_choice n l (suc k) h e =
    sound_goto n 0 (Assign 2 (Variable 4) ∷ []) l k
    (record { scalars = refl; arrays = refl; ports = refl; numbers = refl; inputs_stay = refl; assigned_once = refl; few_emits = omega arith; target_in = h }) e

pub one_step_sound : IsSound in_one_step
one_step_sound = record {
  few_variables = omega arith;
  few_states = omega arith;
  variables_differ = refl;
  variables_named = refl;
  states_named = refl;
  states_differ = refl;
  reset_in = omega arith;
  transitions_sound = transitions;
  open_last = opens;
  few_branches = few;
  cut = cuts;
}
  where
    transitions : (q : ℕ) (l : Transition ℕ ℕ) (k : ℕ) → slice_get (transitions_of in_one_step q) k ≡ Some l → IsSoundTransition their_variables 2 l
    transitions zero l k e =
        sound_goto 2 1 (difference ∷ product_at_once ∷ []) l k
        (record {
          scalars = refl;
          arrays = refl;
          ports = refl;
          numbers = refl;
          inputs_stay = refl;
          assigned_once = refl;
          few_emits = omega arith;
          target_in = omega arith;
        }) e
    transitions (suc zero) l k e = sound_choice 2 l k (omega arith) e
    transitions (suc (suc q)) l k e = absurd (cc e)

    opens : (q : ℕ) → q < 2 → ends_open (transitions_of in_one_step q) ≡ true
    opens zero h = refl
    opens (suc zero) h = refl
    opens (suc (suc q)) h = absurd (omega (arith, h))

    few : (q : ℕ) → branch_count in_one_step q ≤ most_branches
    few zero = omega arith
    few (suc zero) = omega arith
    few (suc (suc q)) = omega arith

    cuts : (q : ℕ) → q < 2 → reaches_cutpoint in_one_step 2 q ≡ true
    cuts zero h = refl
    cuts (suc zero) h = refl
    cuts (suc (suc q)) h = absurd (omega (arith, h))

pub two_steps_sound : IsSound in_two_steps
two_steps_sound = record {
  few_variables = omega arith;
  few_states = omega arith;
  variables_differ = refl;
  variables_named = refl;
  states_named = refl;
  states_differ = refl;
  reset_in = omega arith;
  transitions_sound = transitions;
  open_last = opens;
  few_branches = few;
  cut = cuts;
}
  where
    transitions : (q : ℕ) (l : Transition ℕ ℕ) (k : ℕ) → slice_get (transitions_of in_two_steps q) k ≡ Some l → IsSoundTransition their_variables 3 l
    transitions zero l k e =
        sound_goto 3 1 (difference ∷ sum ∷ []) l k
        (record {
          scalars = refl;
          arrays = refl;
          ports = refl;
          numbers = refl;
          inputs_stay = refl;
          assigned_once = refl;
          few_emits = omega arith;
          target_in = omega arith;
        }) e
    transitions (suc zero) l k e =
        sound_goto 3 2 (product ∷ []) l k
        (record {
          scalars = refl;
          arrays = refl;
          ports = refl;
          numbers = refl;
          inputs_stay = refl;
          assigned_once = refl;
          few_emits = omega arith;
          target_in = omega arith;
        }) e
    transitions (suc (suc zero)) l k e = sound_choice 3 l k (omega arith) e
    transitions (suc (suc (suc q))) l k e = absurd (cc e)

    opens : (q : ℕ) → q < 3 → ends_open (transitions_of in_two_steps q) ≡ true
    opens zero h = refl
    opens (suc zero) h = refl
    opens (suc (suc zero)) h = refl
    opens (suc (suc (suc q))) h = absurd (omega (arith, h))

    few : (q : ℕ) → branch_count in_two_steps q ≤ most_branches
    few zero = omega arith
    few (suc zero) = omega arith
    few (suc (suc zero)) = omega arith
    few (suc (suc (suc q))) = omega arith

    cuts : (q : ℕ) → q < 3 → reaches_cutpoint in_two_steps 3 q ≡ true
    cuts zero h = refl
    cuts (suc zero) h = refl
    cuts (suc (suc zero)) h = refl
    cuts (suc (suc (suc q))) h = absurd (omega (arith, h))

-- ---- their paths

abbrev first_path : (rest : List ℕ) → ℕ → Path
first_path rest q = record { from = Start; branch = 0; states = 0 ∷ rest; to = At q }

abbrev last_path : (q k : ℕ) → Path
last_path q k = record { from = At q; branch = k; states = q ∷ []; to = Done }

first_in_one : IsPath in_one_step (first_path [] 1)
first_in_one = record { point = refl; goes = λ e. cc e; numbered = omega arith; rest = []; left = refl; passes = (refl, refl) }

first_in_two : IsPath in_two_steps (first_path (1 ∷ []) 2)
first_in_two = record { point = refl; goes = λ e. cc e; numbered = omega arith; rest = 1 ∷ []; left = refl; passes = (refl, refl, (refl, refl)) }

last_in_one : (k : ℕ) → k < 2 → IsPath in_one_step (last_path 1 k)
last_in_one zero h = record { point = refl; goes = λ e. cc e; numbered = omega arith; rest = []; left = refl; passes = (refl, refl) }
last_in_one (suc zero) h = record { point = refl; goes = λ e. cc e; numbered = omega arith; rest = []; left = refl; passes = (refl, refl) }
last_in_one (suc (suc k)) h = absurd (omega (arith, h))

last_in_two : (k : ℕ) → k < 2 → IsPath in_two_steps (last_path 2 k)
last_in_two zero h = record { point = refl; goes = λ e. cc e; numbered = omega arith; rest = []; left = refl; passes = (refl, refl) }
last_in_two (suc zero) h = record { point = refl; goes = λ e. cc e; numbered = omega arith; rest = []; left = refl; passes = (refl, refl) }
last_in_two (suc (suc k)) h = absurd (omega (arith, h))

-- ---- they leave the same

-- what assignments leave is the same as itself
itself : (xs : List (Assignment ℕ)) → list_all (is_sound_assignment their_variables) xs ≡ true
    → SameLeft in_one_step in_two_steps (acted_all xs initial initial) (acted_all xs initial initial)
itself xs h =
    same_to_twin in_one_step in_two_steps refl refl (acted_all xs initial initial)
    (own_all in_one_step in_two_steps refl xs initial initial (own_initial in_one_step in_two_steps refl) (own_initial in_one_step in_two_steps refl) h)

overwritten : (c : Bool) (x z w : PathExpression) → cond c x w ≡ cond c x (cond c z w)
overwritten true x z w = refl
overwritten false x z w = refl

abbrev plus : Expression ℕ
plus = Sum (Variable 0) (Variable 1)

abbrev minus : Expression ℕ
minus = Difference (Variable 0) (Variable 1)

-- the second step overwrites t
both_steps : left_after in_one_step (first_path [] 1) ≡ left_after in_two_steps (first_path (1 ∷ []) 2)
both_steps = λ j. record {
  scalar = λ y. overwritten (y == 3) (path_expression initial (Product plus minus)) (path_expression initial plus)
      (cond (y == 4) (path_expression initial minus) (Initial y)) j;
  array = InitialArray;
  port = InitialList;
}

first_alike : AlikePaths in_one_step in_two_steps their_pairs (first_path [] 1) (first_path (1 ∷ []) 2)
first_alike = record {
  literals = refl;
  values = subst (SameLeft in_one_step in_two_steps (left_after in_one_step (first_path [] 1))) both_steps (itself (difference ∷ product_at_once ∷ []) refl);
  ends = inl (1, refl);
}

last_alike : (k : ℕ) → k < 2 → AlikePaths in_one_step in_two_steps their_pairs (last_path 1 k) (last_path 2 k)
last_alike zero h = record {
  literals = own_literals in_one_step in_two_steps refl (literals_of in_one_step (last_path 1 0)) refl;
  values = itself (Assign 2 (Variable 3) ∷ []) refl;
  ends = inr (refl, refl);
}
last_alike (suc zero) h = record {
  literals = own_literals in_one_step in_two_steps refl (literals_of in_one_step (last_path 1 1)) refl;
  values = itself (Assign 2 (Variable 4) ∷ []) refl;
  ends = inr (refl, refl);
}
last_alike (suc (suc k)) h = absurd (omega (arith, h))

-- ---- their points

-- where a path is that of a branch, what holds of that one holds of it
by_paths : (p q r s : Path) → IsPath in_one_step p → IsPath in_two_steps q → IsPath in_one_step r → IsPath in_two_steps s
    → r.from ≡ p.from → r.branch ≡ p.branch → s.from ≡ q.from → s.branch ≡ q.branch
    → AlikePaths in_one_step in_two_steps their_pairs r s → AlikePaths in_one_step in_two_steps their_pairs p q
by_paths p q r s ip iq ir is e f g h alike =
    subst (λ z. AlikePaths in_one_step in_two_steps their_pairs z q) (path_unique in_one_step r p ir ip e f)
    (subst (AlikePaths in_one_step in_two_steps their_pairs r) (path_unique in_two_steps s q is iq g h) alike)

starts_alike : AlikePoints in_one_step in_two_steps their_pairs Start Start
starts_alike = record {
  left_point = refl;
  right_point = refl;
  left_goes = λ e. cc e;
  right_goes = λ e. cc e;
  same_count = refl;
  paths = paths;
}
  where
    paths : (p q : Path) → IsPath in_one_step p → IsPath in_two_steps q → p.from ≡ Start → q.from ≡ Start → p.branch ≡ q.branch
        → AlikePaths in_one_step in_two_steps their_pairs p q
    paths p q is js e f g =
        let in_range : p.branch < 1 = subst (λ P. p.branch < branch_count in_one_step (state_of in_one_step P)) e is.numbered in
        let zero_left : 0 ≡ p.branch = omega (arith, in_range) in
        by_paths p q (first_path [] 1) (first_path (1 ∷ []) 2) is js first_in_one first_in_two (sym e) zero_left (sym f) (zero_left ∙ g) first_alike

choices_alike : AlikePoints in_one_step in_two_steps their_pairs (At 1) (At 2)
choices_alike = record {
  left_point = refl;
  right_point = refl;
  left_goes = λ e. cc e;
  right_goes = λ e. cc e;
  same_count = refl;
  paths = paths;
}
  where
    paths : (p q : Path) → IsPath in_one_step p → IsPath in_two_steps q → p.from ≡ At 1 → q.from ≡ At 2 → p.branch ≡ q.branch
        → AlikePaths in_one_step in_two_steps their_pairs p q
    paths p q is js e f g =
        let in_range : p.branch < 2 = subst (λ P. p.branch < branch_count in_one_step (state_of in_one_step P)) e is.numbered in
        by_paths p q (last_path 1 p.branch) (last_path 2 p.branch) is js (last_in_one p.branch in_range) (last_in_two p.branch in_range) (sym e) refl (sym f) g
        (last_alike p.branch in_range)

-- ---- their pairs

-- each pair is the first or the second
by_pair : (T : Point → Point → ℕ → Type 0) → T Start Start 0 → T (At 1) (At 2) 1 → (k : ℕ) (P Q : Point) → slice_get their_pairs k ≡ Some (P, Q) → T P Q k
by_pair T s c zero P Q e =
    let same : (Start, Start) ≡ (P, Q) = cc e in
    subst (λ (z : Point × Point). T z.0 z.1 0) same s
by_pair T s c (suc zero) P Q e =
    let same : (At 1, At 2) ≡ (P, Q) = cc e in
    subst (λ (z : Point × Point). T z.0 z.1 1) same c
by_pair T s c (suc (suc k)) P Q e = absurd (cc e)

-- the number of the pair in which a point of the first machine stands, and of the second
abbrev left_number : Point → ℕ
left_number Start = 0
left_number (At q) = 1
left_number Done = 2

numbers_are : (k : ℕ) (P Q : Point) → slice_get their_pairs k ≡ Some (P, Q) → (k ≡ left_number P) × (k ≡ left_number Q)
numbers_are = by_pair (λ P Q k. (k ≡ left_number P) × (k ≡ left_number Q)) (refl, refl) (refl, refl)

pub alike : Alike in_one_step in_two_steps their_pairs
alike = record {
  declare_the_same = declare_the_same in_one_step in_two_steps refl refl;
  left_once = λ i j P Q R e g. (numbers_are i P Q e).0 ∙ sym (numbers_are j P R g).0;
  right_once = λ i j P Q R e g. (numbers_are i P R e).1 ∙ sym (numbers_are j Q R g).1;
  starts = (0, refl);
  points = by_pair (λ P Q k. AlikePoints in_one_step in_two_steps their_pairs P Q) starts_alike choices_alike;
}
