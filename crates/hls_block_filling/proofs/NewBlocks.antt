-- The blocks of a machine with rows have a state for each row.
use Rattle.std.proofs.Common.{◌≡◌, ◌⊎◌, inl, inr, ℕ, zero, suc, ◌+◌, ◌<◌, ◌≤◌, refl, sym, ◌∙◌, ap, ap₂, subst, arith, Bool, true, false, List, [], ◌∷◌, ◌++◌}
use Rattle.std.proofs.Common.{map, length, Option, None, Some, eq-eqb}
use Rattle.std.specs.Prelude.{◌≢◌, eqb, ◌==◌, ◌&&◌, ◌||◌, not, cond, filter, nat_lt, slice_get}
use Rattle.std.specs.List.{range_with_len, list_any, flat_map, slice_index_or}
use Rattle.std.proofs.lemmas.Bool.Decides.{nat_tests}
use Rattle.std.proofs.lemmas.Bool.{and_from, false_from_ne_true, not-true}
use Rattle.std.proofs.lemmas.List.{map-append}
use Rattle.std.proofs.lemmas.List.FromFn.{get_or-map-range_with_len}
use Rattle.std.proofs.lemmas.Map.Steps.{le-length_from_below}
use Rattle.std.proofs.lemmas.Option.{same_Some}
use Rattle.fs_model.proofs.Booleans.{and_first, and_second, or_other}
use Rattle.fs_model.proofs.Lists.{one_element, length_map, element_at}
use Rattle.fs_model.proofs.Quantifiers.{list_any_map}
use Rattle.fs_model.specs.Expressions.{Literal, Guard, Test, Not, And, Or, Transition}
use Rattle.fs_model.specs.Machines.{State, Fsmd, transitions_of}
use Rattle.fs_model.specs.Trees.{Tree, Empty, Leaf, Node, Branch, tree_of_guard, tree_of_condition, tree_of_transitions, leaves, branches_of, negated_literal}
use Rattle.fs_model.specs.SoundMachines.{IsSound, occurs, is_cutpoint, branch_count, reaches_cutpoint, first_transition_target}
use Rattle.fs_cut.specs.Paths.{target_of}
use Rattle.fs_cut.proofs.Branches.{target_in, some_branch, first_target, few}
use Rattle.hls_block_filling.specs.Items.{Item}
use Rattle.hls_block_filling.specs.BasicBlocks.{all_states, sources, is_only, is_in_block, follows, next_state, block_from, exit_from, basic_block_at}
use Rattle.hls_block_filling.specs.BasicBlocks.{exit_of, is_inner, is_first_of_block}
use Rattle.hls_block_filling.specs.RowMachines.{Move, after_row, moves, all_moves, move_transition, transitions_by, machine_with_rows, state_at, KeepsStores}
use Rattle.hls_block_filling.specs.MachineSelections.{selected_place, transition_renumbered, IsClosedUnderTargets}
use Rattle.hls_block_filling.specs.ScheduledMachines.{is_kept, kept_states, scheduled_machine}
use Rattle.hls_block_filling.proofs.Among.{Among, passes_test, was_among, joined_from, in_range, range_within, some_of, any_of, occurs_among, among_at}
use Rattle.hls_block_filling.proofs.Trails.{member, is_source, has_source, is_the_only, follows_only, follows_in_block, follows_on, comes_before, Trail, inner}
use Rattle.hls_block_filling.proofs.Trails.{apart, next_in, enters_from, leaves_block, first_in_block, first_outer}
use Rattle.hls_block_filling.proofs.Covering.{only_among, constant_is, stands}
use Rattle.hls_block_filling.proofs.Replacing.{at, on_trail, move_state, move_in_block, move_in, not_reset, does, begins}
use Rattle.hls_block_filling.proofs.Replacing.{same_move}
use Rattle.hls_block_filling.proofs.Selecting.{at_place, same_place, place_below, lines_kept}
use Rattle.hls_block_filling.proofs.Dropping.{kept, kept_by, after_move, station_kept, moves_of, of_kept, stays, closed}
use Rattle.hls_block_filling.proofs.Ends.{cut_kept, lines_here, here_kept}

-- ---- lists of numbers
none_given : (f : ℕ → List ℕ) (a n : ℕ) → ((j : ℕ) → a ≤ j → j < a + n → f j ≡ []) → flat_map f (range_with_len a n) ≡ []
none_given f a zero h = refl
none_given f a (suc n) h =
    ap₂ (λ (xs ys : List ℕ). xs ++ ys) (h a (omega arith) (omega arith)) (none_given f (a + 1) n (λ j i k. h j (omega (arith, i)) (omega (arith, k))))

-- of numbers one gives itself, and no other anything
only_step : (f : ℕ → List ℕ) (a n k : ℕ) (t : Bool) → (k == a) ≡ t → a ≤ k → f k ≡ k ∷ []
    → ((j : ℕ) → a ≤ j → j < a + suc n → j ≢ k → f j ≡ []) → (a + 1 ≤ k → flat_map f (range_with_len (a + 1) n) ≡ k ∷ [])
    → f a ++ flat_map f (range_with_len (a + 1) n) ≡ k ∷ []
only_step f a n k true e h i o next_one =
    let same : k ≡ a = grind (arith, nat_tests) in
    ap₂ (λ (xs ys : List ℕ). xs ++ ys) (subst (λ z. f z ≡ k ∷ []) same i)
    (none_given f (a + 1) n (λ j l u. o j (omega (arith, l)) (omega (arith, u)) (λ g. omega (arith, l, g, same))))
only_step f a n k false e h i o next_one =
    let other : k ≢ a = grind (arith, nat_tests) in
    ap₂ (λ (xs ys : List ℕ). xs ++ ys) (o a (omega arith) (omega arith) (λ g. other (sym g))) (next_one (omega (arith, h, other)))

only_given : (f : ℕ → List ℕ) (a n k : ℕ) → a ≤ k → k < a + n → f k ≡ k ∷ [] → ((j : ℕ) → a ≤ j → j < a + n → j ≢ k → f j ≡ [])
    → flat_map f (range_with_len a n) ≡ k ∷ []
only_given f a zero k h i e o = absurd (omega (arith, h, i))
only_given f a (suc n) k h i e o =
    only_step f a n k (k == a) refl h e o (λ g. only_given f (a + 1) n k g (omega (arith, i)) e (λ j l u d. o j (omega (arith, l)) (omega (arith, u)) d))

range_above : (a n q : ℕ) → Among q (range_with_len a n) → a ≤ q
range_above a zero q h = absurd h
range_above a (suc n) q (inl e) = omega (arith, e)
range_above a (suc n) q (inr h) = let i : a + 1 ≤ q = range_above (a + 1) n q h in omega (arith, i)

place_step : (a k : ℕ) (zs : List ℕ) (t : Bool) → ((j : ℕ) → j < length zs → a < slice_index_or zs j 0) → k < length (cond t (a ∷ zs) zs)
    → ((j : ℕ) → j < length zs → selected_place zs (slice_index_or zs j 0) ≡ j)
    → selected_place (cond t (a ∷ zs) zs) (slice_index_or (cond t (a ∷ zs) zs) k 0) ≡ k
place_step a zero zs true up h p = let e : (a == a) ≡ true = grind (arith, nat_tests) in rw e refl
place_step a (suc j) zs true up h p =
    let i : j < length zs = omega (arith, h) in
    let u : a < slice_index_or zs j 0 = up j i in
    let e : (a == slice_index_or zs j 0) ≡ false = grind (arith, nat_tests) in
    rw e (ap suc (p j i))
place_step a k zs false up h p = p k h

-- a rising list's members stand at their places
place_filtered : (test : ℕ → Bool) (a n k : ℕ) → k < length (filter test (range_with_len a n))
    → selected_place (filter test (range_with_len a n)) (slice_index_or (filter test (range_with_len a n)) k 0) ≡ k
place_filtered test a zero k h = absurd (omega (arith, h))
place_filtered test a (suc n) k h =
    let zs = filter test (range_with_len (a + 1) n) in
    place_step a k zs (test a)
    (λ j i. (let u : a + 1 ≤ slice_index_or zs j 0 = range_above (a + 1) n (slice_index_or zs j 0) (was_among test (slice_index_or zs j 0)
    (range_with_len (a + 1) n) (member zs j 0 i)) in omega (arith, u)))
    h (λ j i. place_filtered test (a + 1) n j i)

index_of : {X : Type 0} (x : X) (xs : List X) (d : X) → Among x xs → (k : ℕ) × (k < length xs) × (slice_index_or xs k d ≡ x)
index_of x [] d h = absurd h
index_of x (y ∷ ys) d (inl e) = (0, omega arith, sym e)
index_of x (y ∷ ys) d (inr h) = let w = index_of x ys d h in (suc w.0, (let i : w.0 < length ys = w.1 in omega (arith, i)), w.2)

only_itself : (k : ℕ) → is_only k (k ∷ []) ≡ true
only_itself k = grind (arith, nat_tests)

-- ---- renumbering keeps branches, but for their targets
abbrev renumbered_tree : List ℕ → Tree → Tree
renumbered_tree keep Empty = Empty
renumbered_tree keep (Leaf a t) = Leaf a (selected_place keep t)
renumbered_tree keep (Node l y n) = Node l (renumbered_tree keep y) (renumbered_tree keep n)

abbrev renumbered_branch : List ℕ → Branch → Branch
renumbered_branch keep b = record { literals = b.literals; assignments = b.assignments; target = selected_place keep b.target }

guard_renumbered : (keep : List ℕ) (g : Guard ℕ) (y n : Tree)
    → tree_of_guard g (renumbered_tree keep y) (renumbered_tree keep n) ≡ renumbered_tree keep (tree_of_guard g y n)
guard_renumbered keep (Test l) y n = refl
guard_renumbered keep (Not c) y n = guard_renumbered keep c n y
guard_renumbered keep (And c d) y n =
    ap (λ z. tree_of_guard c z (renumbered_tree keep n)) (guard_renumbered keep d y n) ∙ guard_renumbered keep c (tree_of_guard d y n) n
guard_renumbered keep (Or c d) y n =
    ap (λ z. tree_of_guard c (renumbered_tree keep y) z) (guard_renumbered keep d y n) ∙ guard_renumbered keep c y (tree_of_guard d y n)

condition_renumbered : (keep : List ℕ) (g : Option (Guard ℕ)) (y n : Tree)
    → tree_of_condition g (renumbered_tree keep y) (renumbered_tree keep n) ≡ renumbered_tree keep (tree_of_condition g y n)
condition_renumbered keep None y n = refl
condition_renumbered keep (Some g) y n = guard_renumbered keep g y n

tree_renumbered : (keep : List ℕ) (ls : List (Transition ℕ ℕ))
    → tree_of_transitions (map (transition_renumbered keep) ls) ≡ renumbered_tree keep (tree_of_transitions ls)
tree_renumbered keep [] = refl
tree_renumbered keep (l ∷ ls) =
    ap (λ z. tree_of_condition l.guard (Leaf l.assignments (selected_place keep l.target)) z) (tree_renumbered keep ls)
    ∙ condition_renumbered keep l.guard (Leaf l.assignments l.target) (tree_of_transitions ls)

leaves_renumbered : (keep : List ℕ) (t : Tree) (way : List (Literal ℕ)) → leaves (renumbered_tree keep t) way ≡ map (renumbered_branch keep) (leaves t way)
leaves_renumbered keep Empty way = refl
leaves_renumbered keep (Leaf a t) way = refl
leaves_renumbered keep (Node l y n) way =
    ap₂ (λ (xs ys : List Branch). xs ++ ys) (leaves_renumbered keep y (way ++ l ∷ [])) (leaves_renumbered keep n (way ++ negated_literal l ∷ []))
    ∙ sym (map-append (renumbered_branch keep) (leaves y (way ++ l ∷ [])) (leaves n (way ++ negated_literal l ∷ [])))

branches_renumbered : (keep : List ℕ) (ls : List (Transition ℕ ℕ))
    → branches_of (map (transition_renumbered keep) ls) ≡ map (renumbered_branch keep) (branches_of ls)
branches_renumbered keep ls = ap (λ t. leaves t []) (tree_renumbered keep ls) ∙ leaves_renumbered keep (tree_of_transitions ls) []

-- ---- which branches lead to a state
abbrev leads : List Branch → ℕ → Bool
leads bs r = list_any (λ b. b.target == r) bs

none_step : (r q : ℕ) (b : Branch) (bs : List Branch) (t : Bool) → ((t || leads bs r) ≡ true → ⊥)
    → ((leads bs r ≡ true → ⊥) → map (λ _. q) (filter (λ c. c.target == r) bs) ≡ [])
    → map (λ _. q) (cond t (b ∷ filter (λ c. c.target == r) bs) (filter (λ c. c.target == r) bs)) ≡ []
none_step r q b bs true h n = absurd (h refl)
none_step r q b bs false h n = n h

none_lead : (r q : ℕ) (bs : List Branch) → (leads bs r ≡ true → ⊥) → map (λ _. q) (filter (λ b. b.target == r) bs) ≡ []
none_lead r q [] h = refl
none_lead r q (b ∷ bs) h = none_step r q b bs (b.target == r) h (none_lead r q bs)

one_leads : (r q : ℕ) (b : Branch) (bs : List Branch) → bs ≡ b ∷ [] → b.target ≡ r → map (λ _. q) (filter (λ c. c.target == r) bs) ≡ q ∷ []
one_leads r q b bs e f =
    let t : (b.target == r) ≡ true = grind (arith, nat_tests) in
    ap (λ (cs : List Branch). map (λ _. q) (filter (λ c. c.target == r) cs)) e ∙ rw t refl

leads_up : (keep : List ℕ) (bs : List Branch) (r : ℕ) → leads bs r ≡ true → leads (map (renumbered_branch keep) bs) (selected_place keep r) ≡ true
leads_up keep bs r h =
    let w = some_of (λ (b : Branch). b.target == r) bs h in
    let e : w.0.target ≡ r = (let f : (w.0.target == r) ≡ true = w.2 in grind (arith, nat_tests)) in
    let g : selected_place keep w.0.target ≡ selected_place keep r = ap (selected_place keep) e in
    list_any_map (λ (b : Branch). b.target == selected_place keep r) (renumbered_branch keep) bs
    ∙ any_of (λ (b : Branch). selected_place keep b.target == selected_place keep r) w.0 bs w.1 (grind (arith, nat_tests))

-- ---- moves that follow one another, and the last
target_next : (exit : ℕ) (qs : List ℕ) (rows : List Item) (j : ℕ) (x y : Move) → slice_get (moves exit qs rows) j ≡ Some x
    → slice_get (moves exit qs rows) (suc j) ≡ Some y → x.target ≡ y.state
target_next exit [] rows j x y e f = absurd (cc e)
target_next exit (q ∷ qs) [] j x y e f = absurd (cc e)
target_next exit (q ∷ []) (a ∷ rows) zero x y e f = absurd (cc f)
target_next exit (q ∷ r ∷ qs) (a ∷ []) zero x y e f = absurd (cc f)
target_next exit (q ∷ r ∷ qs) (a ∷ b ∷ rows) zero x y e f =
    let g : record { state = q; assignments = a; target = r } ≡ x = same_Some (record { state = q; assignments = a; target = r }) x e in
    let h : record { state = r; assignments = b; target = after_row exit qs rows } ≡ y =
    same_Some (record { state = r; assignments = b; target = after_row exit qs rows }) y f in
    sym (ap (λ (z : Move). z.target) g) ∙ ap (λ (z : Move). z.state) h
target_next exit (q ∷ qs) (a ∷ rows) (suc j) x y e f = target_next exit qs rows j x y e f

next_or_exit : (exit : ℕ) (qs : List ℕ) (rows : List Item) (j : ℕ) (x : Move) → slice_get (moves exit qs rows) j ≡ Some x
    → (x.target ≡ exit) ⊎ ((y : Move) × (slice_get (moves exit qs rows) (suc j) ≡ Some y) × (y.state ≡ x.target))
next_or_exit exit [] rows j x e = absurd (cc e)
next_or_exit exit (q ∷ qs) [] j x e = absurd (cc e)
next_or_exit exit (q ∷ qs) (a ∷ []) zero x e = inl (sym (ap (λ (z : Move). z.target) (same_Some (record { state = q; assignments = a; target = exit }) x e)))
next_or_exit exit (q ∷ []) (a ∷ b ∷ rows) zero x e =
    inl (sym (ap (λ (z : Move). z.target) (same_Some (record { state = q; assignments = a; target = exit }) x e)))
next_or_exit exit (q ∷ r ∷ qs) (a ∷ b ∷ rows) zero x e = inr (
  record { state = r; assignments = b; target = after_row exit qs rows },
  refl,
  ap (λ (z : Move). z.target) (same_Some (record { state = q; assignments = a; target = r }) x e),
)
next_or_exit exit (q ∷ qs) (a ∷ rows) (suc j) x e = next_or_exit exit qs rows j x e

-- the last move leads out
last_leads : (exit : ℕ) (qs : List ℕ) (rows : List Item) (j : ℕ) (x : Move) → slice_get (moves exit qs rows) j ≡ Some x
    → length (moves exit qs rows) ≡ suc j → x.target ≡ exit
last_leads exit [] rows j x e l = absurd (cc e)
last_leads exit (q ∷ qs) [] j x e l = absurd (cc e)
last_leads exit (q ∷ qs) (a ∷ []) zero x e l = sym (ap (λ (z : Move). z.target) (same_Some (record { state = q; assignments = a; target = exit }) x e))
last_leads exit (q ∷ []) (a ∷ b ∷ rows) zero x e l =
    sym (ap (λ (z : Move). z.target) (same_Some (record { state = q; assignments = a; target = exit }) x e))
last_leads exit (q ∷ r ∷ qs) (a ∷ b ∷ rows) zero x e l = absurd (omega (arith, l))
last_leads exit (q ∷ qs) (a ∷ rows) (suc j) x e l = last_leads exit qs rows j x e (omega (arith, l))

-- there are as many moves as rows
moves_count : (exit : ℕ) (qs : List ℕ) (rows : List Item) → length rows ≤ length qs → length (moves exit qs rows) ≡ length rows
moves_count exit [] [] h = refl
moves_count exit [] (a ∷ rows) h = absurd (omega (arith, h))
moves_count exit (q ∷ qs) [] h = refl
moves_count exit (q ∷ qs) (a ∷ rows) h = ap suc (moves_count exit qs rows (omega (arith, h)))

some_row : (rows : List Item) → rows ≢ [] → (k : ℕ) × (length rows ≡ suc k)
some_row [] h = absurd (h refl)
some_row (a ∷ rows) h = (length rows, refl)

-- ---- the last state of a block
module _ (m : Fsmd) (sound : IsSound m) where
  record Last (n q : ℕ) : Type 0 where
    index : ℕ
    state : ℕ
    is : slice_get (block_from m n q) index ≡ Some state
    leads_out : next_state m state ≡ exit_from m n q
    none_follows : follows m state (exit_from m n q) ≡ false
    within : state < length m.states
    in_block : is_in_block m state ≡ true

  last_step : (n q : ℕ) (t : Bool) → follows m q (next_state m q) ≡ t → q < length m.states → is_in_block m q ≡ true
      → (follows m q (next_state m q) ≡ true → Last n (next_state m q))
      → (j : ℕ) × (l : ℕ) × (slice_get (q ∷ cond t (block_from m n (next_state m q)) []) j ≡ Some l)
      × (next_state m l ≡ cond t (exit_from m n (next_state m q)) (next_state m q))
      × (follows m l (cond t (exit_from m n (next_state m q)) (next_state m q)) ≡ false) × (l < length m.states) × (is_in_block m l ≡ true)
  last_step n q true e h s next_one =
      let w = next_one e in
      (suc w.index, w.state, w.is, w.leads_out, w.none_follows, w.within, w.in_block)
  last_step n q false e h s next_one = (0, q, refl, refl, e, h, s)

  last_of : (n q : ℕ) → q < length m.states → is_in_block m q ≡ true → reaches_cutpoint m n q ≡ true → Last n q
  last_of zero q h s r = absurd (let f : is_cutpoint m q ≡ false = not-true (is_cutpoint m q) s in cc (sym f ∙ r))
  last_of (suc n) q h s r =
      let c : is_cutpoint m q ≡ false = not-true (is_cutpoint m q) s in
      let w = last_step n q (follows m q (next_state m q)) refl h s
      (λ f. last_of n (next_state m q) (next_in m sound q h) (follows_on m q (next_state m q) f)
      (subst (λ z. reaches_cutpoint m n z ≡ true) (first_target m sound q h c)
      (or_other (is_cutpoint m q) (reaches_cutpoint m n (first_transition_target (transitions_of m q))) c r))) in
      record { index = w.0; state = w.1; is = w.2; leads_out = w.3; none_follows = w.4; within = w.5; in_block = w.6 }

  -- a state that no state follows is the last
  ends_step : (n j q p : ℕ) (t : Bool) → slice_get (cond t (block_from m n (next_state m q)) []) j ≡ Some p
      → (slice_get (block_from m n (next_state m q)) j ≡ Some p
      → (exit_from m n (next_state m q) ≡ next_state m p) × (length (block_from m n (next_state m q)) ≡ suc j))
      → (cond t (exit_from m n (next_state m q)) (next_state m q) ≡ next_state m p)
      × (suc (length (cond t (block_from m n (next_state m q)) [])) ≡ suc (suc j))
  ends_step n j q p true g next_one = let w = next_one g in (w.0, ap suc w.1)
  ends_step n j q p false g next_one = absurd (cc g)

  ends_at : (n j q p : ℕ) → slice_get (block_from m n q) j ≡ Some p → follows m p (next_state m p) ≡ false
      → (exit_from m n q ≡ next_state m p) × (length (block_from m n q) ≡ suc j)
  ends_at zero zero q p g f = (ap (next_state m) (same_Some q p g), refl)
  ends_at zero (suc j) q p g f = absurd (cc g)
  ends_at (suc n) zero q p g f =
      let s : q ≡ p = same_Some q p g in
      let e : follows m q (next_state m q) ≡ false = subst (λ z. follows m z (next_state m z) ≡ false) (sym s) f in (
        ap (λ t. cond t (exit_from m n (next_state m q)) (next_state m q)) e ∙ ap (next_state m) s,
        ap (λ t. suc (length (cond t (block_from m n (next_state m q)) []))) e,
      )
  ends_at (suc n) (suc j) q p g f = ends_step n j q p (follows m q (next_state m q)) g (λ h. ends_at n j (next_state m q) p h f)

  same_last : (xs : List ℕ) (j i l p : ℕ) → length xs ≡ suc j → length xs ≡ suc i → slice_get xs j ≡ Some l → slice_get xs i ≡ Some p → p ≡ l
  same_last xs j i l p a b g h =
      let e : j ≡ i = omega (arith, a, b) in
      let k : slice_get xs i ≡ Some l = subst (λ z. slice_get xs z ≡ Some l) e g in
      cc (sym h ∙ k)

  -- the one branch of a state of a block
  one_way : (q : ℕ) → q < length m.states → is_in_block m q ≡ true → (b : Branch) × (branches_of (transitions_of m q) ≡ b ∷ [])
  one_way q h s = one_element (branches_of (transitions_of m q)) (some_branch m sound q h) (few m q (not-true (is_cutpoint m q) s))

  next_by : (q : ℕ) (b : Branch) → branches_of (transitions_of m q) ≡ b ∷ [] → next_state m q ≡ b.target
  next_by q b e = ap (λ (bs : List Branch). (slice_index_or bs 0 (record { literals = []; assignments = []; target = 0 })).target) e

  leads_next : (q r : ℕ) → q < length m.states → is_in_block m q ≡ true → leads (branches_of (transitions_of m q)) r ≡ true → next_state m q ≡ r
  leads_next q r h s e =
      let w = one_way q h s in
      let f : ((w.0.target == r) || false) ≡ true = sym (ap (λ bs. leads bs r) w.1) ∙ e in
      let g : w.0.target ≡ r = grind (arith, nat_tests) in
      next_by q w.0 w.1 ∙ g

  -- a state that does not follow the one state of a block that leads to it has another that does
  abbrev another : Fsmd → ℕ → ℕ → ℕ → Bool
  another M l e p = not (p == l) && leads (branches_of (transitions_of M p)) e

  only_one : (l e : ℕ) → l < length m.states → is_in_block m l ≡ true → next_state m l ≡ e → list_any (another m l e) (all_states m) ≡ false
      → is_only l (sources m e) ≡ true
  only_one l e h s n none =
      let w = one_way l h s in
      let t : w.0.target ≡ e = sym (next_by l w.0 w.1) ∙ n in
      let all : sources m e ≡ l ∷ [] =
      only_given (λ q. map (λ _. q) (filter (λ b. b.target == e) (branches_of (transitions_of m q)))) 0 (length m.states) l (omega arith) (omega (arith, h))
      (one_leads e l w.0 (branches_of (transitions_of m l)) w.1 t)
      (λ j i k d. none_lead e j (branches_of (transitions_of m j))
      (λ g. (let u : (j == l) ≡ false = grind (arith, nat_tests) in
      let v : another m l e j ≡ true = and_from (not (j == l)) (leads (branches_of (transitions_of m j)) e) (ap not u) g in
      let y : list_any (another m l e) (all_states m) ≡ true = any_of (another m l e) j (all_states m) (in_range 0 (length m.states) j i k) v in
      cc (sym none ∙ y)))) in
      subst (λ z. is_only l z ≡ true) (sym all) (only_itself l)

-- ---- the machine with rows
module _ (m : Fsmd) (sound : IsSound m) (rows : ℕ → List Item) (keeps : KeepsStores m rows) where
  abbrev Keep : List ℕ
  Keep = kept_states m rows

  abbrev New : Fsmd
  New = scheduled_machine m rows

  abbrev to : ℕ → ℕ
  to q = selected_place (kept_states m rows) q

  is_closed : IsClosedUnderTargets (machine_with_rows m rows) (kept_states m rows)
  is_closed = closed m sound rows keeps

  states_count : length (scheduled_machine m rows).states ≡ length (kept_states m rows)
  states_count =
      length_map
      (λ q. record {
        name = (state_at (machine_with_rows m rows) q).name;
        transitions = map (transition_renumbered Keep) (transitions_of (machine_with_rows m rows) q);
      }) Keep

  -- of a row
  has_place : (x : Move) → Among x (all_moves m rows) → occurs x.state Keep ≡ true
  has_place x h = kept m sound rows keeps x.state (move_in m sound rows keeps x h) (kept_by m sound rows keeps x x.state h refl)

  lines_moved : (x : Move) → Among x (all_moves m rows) → transitions_of New (to x.state) ≡ transition_renumbered Keep (move_transition x) ∷ []
  lines_moved x h = lines_kept (machine_with_rows m rows) Keep is_closed x.state (has_place x h)
      ∙ ap (map (transition_renumbered Keep)) (does m sound rows keeps x h).0

  abbrev branch_of_move : Move → Branch
  branch_of_move x = record { literals = []; assignments = x.assignments; target = to x.target }

  branches_moved : (x : Move) → Among x (all_moves m rows) → branches_of (transitions_of New (to x.state)) ≡ branch_of_move x ∷ []
  branches_moved x h = ap branches_of (lines_moved x h)

  next_moved : (x : Move) → Among x (all_moves m rows) → next_state New (to x.state) ≡ to x.target
  next_moved x h =
      ap (λ (bs : List Branch). (slice_index_or bs 0 (record { literals = []; assignments = []; target = 0 })).target) (branches_moved x h)

  in_block_by : (p r c : ℕ) → p ≢ r → c ≡ 1 → not ((p == r) || nat_lt 1 c) ≡ true
  in_block_by p r c d e = let f : (p == r) ≡ false = grind (arith, nat_tests) in rw (f, e) refl

  in_block_moved : (x : Move) → Among x (all_moves m rows) → is_in_block New (to x.state) ≡ true
  in_block_moved x h =
      in_block_by (to x.state) (to m.reset) (branch_count New (to x.state))
      (λ e. not_reset m sound rows keeps x.state (move_in_block m sound rows keeps x h) (same_place Keep x.state m.reset (has_place x h) is_closed.reset e))
      (ap (λ (bs : List Branch). length bs) (branches_moved x h))

  in_new : (q : ℕ) → occurs q Keep ≡ true → to q < length New.states
  in_new q k = omega (arith, place_below Keep q k, states_count)

  -- of a state that is in no block
  branches_kept : (q p : ℕ) → q < length m.states → is_in_block m q ≡ false
      → transitions_of New p ≡ map (transition_renumbered Keep) (transitions_of (machine_with_rows m rows) q)
      → branches_of (transitions_of New p) ≡ map (renumbered_branch Keep) (branches_of (transitions_of m q))
  branches_kept q p h s e = ap branches_of (e ∙ ap (map (transition_renumbered Keep)) (stays m sound rows keeps q h s))
      ∙ branches_renumbered Keep (transitions_of m q)

  -- where a branch leads to a state
  record LedFrom (p t : ℕ) : Type 0 where
    state : ℕ
    within : state < length m.states
    here : occurs state Keep ≡ true
    place : to state ≡ p
    how : ((is_in_block m state ≡ false) × Among state (sources m t)) ⊎ ((x : Move) × Among x (all_moves m rows) × (x.state ≡ state) × (x.target ≡ t))

  led_by_other : (q t : ℕ) → q < length m.states → is_in_block m q ≡ false → occurs t Keep ≡ true
      → leads (map (renumbered_branch Keep) (branches_of (transitions_of m q))) (to t) ≡ true → Among q (sources m t)
  led_by_other q t h s k e =
      let w = some_of (λ (b : Branch). to b.target == to t) (branches_of (transitions_of m q))
      (sym (list_any_map (λ (b : Branch). b.target == to t) (renumbered_branch Keep) (branches_of (transitions_of m q))) ∙ e) in
      let b : Branch = w.0 in
      let i = index_of b (branches_of (transitions_of m q)) (record { literals = []; assignments = []; target = 0 }) w.1 in
      let at_target : target_of m q i.0 ≡ b.target = ap (λ (c : Branch). c.target) i.2 in
      let from : Among q (sources m b.target) = is_source m q i.0 b.target h i.1 at_target in
      let inside : b.target < length m.states = subst (λ z. z < length m.states) at_target (target_in m sound q i.0 i.1) in
      let there : occurs b.target Keep ≡ true = station_kept m sound rows keeps b.target (inside, enters_from m sound q b.target s from) in
      let same : to b.target ≡ to t = (let f : (to b.target == to t) ≡ true = w.2 in grind (arith, nat_tests)) in
      subst (λ z. Among q (sources m z)) (same_place Keep b.target t there k same) from

  led_from : (p t : ℕ) → p < length New.states → occurs t Keep ≡ true → leads (branches_of (transitions_of New p)) (to t) ≡ true → LedFrom p t
  led_from p t h k e =
      let i : p < length Keep = omega (arith, h, states_count) in
      let q : ℕ = slice_index_or Keep p 0 in
      let o : occurs q Keep ≡ true = here_kept m sound rows keeps p i in
      let w = of_kept m sound rows keeps q o in
      let place : to q ≡ p = place_filtered (is_kept m rows) 0 (length m.states) p i in
      let how = elim w.kind as (λ _. ((is_in_block m q ≡ false) × Among q (sources m t))
      ⊎ ((x : Move) × Among x (all_moves m rows) × (x.state ≡ q) × (x.target ≡ t))) [
        | inl s ↦ inl (
          s,
          led_by_other q t w.within s k
              (sym (ap (λ bs. leads bs (to t)) (branches_kept q p w.within s (lines_here m sound rows keeps p i))) ∙ e),
        )
        | inr x ↦ inr (
          x.0,
          x.1,
          x.2,
          (let f : leads (branches_of (transitions_of New (to x.0.state))) (to t) ≡ true =
              subst (λ z. leads (branches_of (transitions_of New z)) (to t) ≡ true) (sym (ap (selected_place Keep) x.2 ∙ place)) e in
              let g : ((to x.0.target == to t) || false) ≡ true = sym (ap (λ bs. leads bs (to t)) (branches_moved x.0 x.1)) ∙ f in
              let s : to x.0.target ≡ to t = grind (arith, nat_tests) in
              same_place Keep x.0.target t (after_move m sound rows keeps x.0 x.1) k s),
        )
      ] in
      record { state = q; within = w.within; here = o; place = place; how = how }

  -- the block in which a row stands
  block_at_reach : (h : ℕ) → h < length m.states → is_first_of_block m h ≡ true → (exit_of m h < length m.states) × (is_inner m (exit_of m h) ≡ false)
  block_at_reach h i f = leaves_block m sound (length m.states) h i (first_in_block m h f) (sound.cut h i)

  abbrev moves_at : ℕ → List Move
  moves_at h = moves (exit_of m h) (basic_block_at m h) (rows h)

  of_block : (h j : ℕ) (x : Move) → h < length m.states → is_first_of_block m h ≡ true → slice_get (moves_at h) j ≡ Some x → Among x (all_moves m rows)
  of_block h j x i f e = moves_of m sound rows keeps h i f x (among_at (moves_at h) j x e)

  trail_of : (h j : ℕ) (x : Move) → h < length m.states → is_first_of_block m h ≡ true → slice_get (moves_at h) j ≡ Some x → Trail m h j x.state
  trail_of h j x i f e = subst (λ z. Trail m h z x.state) (let g : 0 + j ≡ j = omega arith in g)
      (on_trail m sound rows keeps x (record { head = h; within = i; first = f; place = j; is = e }))

  -- one row leads to the next alone
  inner_at : (h j : ℕ) (y : Move) → h < length m.states → is_first_of_block m h ≡ true → slice_get (moves_at h) (suc j) ≡ Some y → is_inner m y.state ≡ true
  inner_at h j y i f e = let w = trail_of h (suc j) y i f e in inner m w.0 y.state w.2 w.3

  one_leader : (h j : ℕ) (x y : Move) → h < length m.states → is_first_of_block m h ≡ true → slice_get (moves_at h) j ≡ Some x
      → slice_get (moves_at h) (suc j) ≡ Some y → (w : Move) → Among w (all_moves m rows) → w.target ≡ y.state → w ≡ x
  one_leader h j x y i f e g w a t =
      let p = at m sound rows keeps w a in
      elim (next_or_exit (exit_of m p.head) (basic_block_at m p.head) (rows p.head) p.place w p.is) as (λ _. w ≡ x) [
        | inl out ↦ (let u : is_inner m y.state ≡ false = subst (λ z. is_inner m z ≡ false) (sym out ∙ t) (block_at_reach p.head p.within p.first).1 in
            absurd (let v : is_inner m y.state ≡ true = inner_at h j y i f g in cc (sym u ∙ v)))
        | inr z ↦ (let k = trail_of p.head (suc p.place) z.0 p.within p.first z.1 in
            let d = apart m (suc p.place) (suc j) p.head h y.state (first_outer m p.head p.first) (first_outer m h f)
            (subst (λ q. Trail m p.head (suc p.place) q) (z.2 ∙ t) k) (trail_of h (suc j) y i f g) in
            let n : p.place ≡ j = (let q : suc p.place ≡ suc j = d.1 in omega (arith, q)) in
            same_move x w (slice_get (moves_at h) j) e
            (subst (λ q. slice_get (moves_at h) q ≡ Some w) n (subst (λ q. slice_get (moves_at q) p.place ≡ Some w) d.0 p.is)))
      ]

  leader_is : (h j : ℕ) (x y : Move) → h < length m.states → is_first_of_block m h ≡ true → slice_get (moves_at h) j ≡ Some x
      → slice_get (moves_at h) (suc j) ≡ Some y → (p : ℕ) → p < length New.states → leads (branches_of (transitions_of New p)) (to y.state) ≡ true
      → p ≡ to x.state
  leader_is h j x y i f e g p l k =
      let w = led_from p y.state l (has_place y (of_block h (suc j) y i f g)) k in
      elim w.how as (λ _. p ≡ to x.state) [
        | inl s ↦ (let u : is_inner m y.state ≡ false = enters_from m sound w.state y.state s.0 s.1 in
            absurd (let v : is_inner m y.state ≡ true = inner_at h j y i f g in cc (sym u ∙ v)))
        | inr z ↦ (let q : z.0 ≡ x = one_leader h j x y i f e g z.0 z.1 z.3 in
            sym w.place ∙ ap (selected_place Keep) (sym z.2 ∙ ap (λ (v : Move). v.state) q))
      ]

  follows_next : (h j : ℕ) (x y : Move) → h < length m.states → is_first_of_block m h ≡ true → slice_get (moves_at h) j ≡ Some x
      → slice_get (moves_at h) (suc j) ≡ Some y → follows New (to x.state) (to y.state) ≡ true
  follows_next h j x y i f e g =
      let a = of_block h j x i f e in
      let b = of_block h (suc j) y i f g in
      let t : to x.target ≡ to y.state = ap (selected_place Keep) (target_next (exit_of m h) (basic_block_at m h) (rows h) j x y e g) in
      let all : sources New (to y.state) ≡ to x.state ∷ [] =
      only_given (λ q. map (λ _. q) (filter (λ c. c.target == to y.state) (branches_of (transitions_of New q)))) 0 (length New.states) (to x.state)
      (omega arith) (let k : to x.state < length New.states = in_new x.state (has_place x a) in omega (arith, k))
      (one_leads (to y.state) (to x.state) (branch_of_move x) (branches_of (transitions_of New (to x.state))) (branches_moved x a) t)
      (λ p n u d. none_lead (to y.state) p (branches_of (transitions_of New p)) (λ k. d (leader_is h j x y i f e g p (omega (arith, u)) k))) in
      and_from (is_in_block New (to x.state) && is_in_block New (to y.state)) (is_only (to x.state) (sources New (to y.state)))
      (and_from (is_in_block New (to x.state)) (is_in_block New (to y.state)) (in_block_moved x a) (in_block_moved y b))
      (subst (λ z. is_only (to x.state) z ≡ true) (sym all) (only_itself (to x.state)))

  -- ---- the state to which a block leads does not follow its last row
  in_block_kept : (e : ℕ) → e < length m.states → occurs e Keep ≡ true → is_in_block New (to e) ≡ true → is_in_block m e ≡ true
  in_block_kept e h k s = tested (is_in_block m e) refl
    where
      tested : (t : Bool) → is_in_block m e ≡ t → t ≡ true
      tested true u = refl
      tested false u = absurd (let c : is_cutpoint New (to e) ≡ true = cut_kept m sound rows keeps e h k u in
          let d : is_cutpoint New (to e) ≡ false = not-true (is_cutpoint New (to e)) s in cc (sym d ∙ c))

  last_row : (h : ℕ) → h < length m.states → is_first_of_block m h ≡ true → (j : ℕ) × (x : Move) × (slice_get (moves_at h) j ≡ Some x)
      × (x.target ≡ exit_of m h)
  last_row h i f =
      let r = some_row (rows h) (keeps.some h i f) in
      let n : length (moves_at h) ≡ suc r.0 = moves_count (exit_of m h) (basic_block_at m h) (rows h) (keeps.no_more h i f) ∙ r.1 in
      let x = element_at (moves_at h) r.0 (omega (arith, n)) in
      (r.0, x.0, x.1, last_leads (exit_of m h) (basic_block_at m h) (rows h) r.0 x.0 x.1 n)

  -- what leads to the exit of a block in the new machine, where that follows the last row
  module _ (h j : ℕ) (x : Move) (i : h < length m.states) (f : is_first_of_block m h ≡ true) (e : slice_get (moves_at h) j ≡ Some x)
      (follow : follows New (to x.state) (to (exit_of m h)) ≡ true) where
    abbrev out : ℕ
    out = exit_of m h

    out_here : occurs out Keep ≡ true
    out_here = station_kept m sound rows keeps out (block_at_reach h i f)

    leaves_block_where_not_in : is_in_block m out ≡ true
    leaves_block_where_not_in = in_block_kept out (block_at_reach h i f).0 out_here (follows_on New (to x.state) (to out) follow)

    from_row : (q : ℕ) → occurs q Keep ≡ true → Among (to q) (sources New (to out)) → q ≡ x.state
    from_row q k s =
        same_place Keep q x.state k (has_place x (of_block h j x i f e))
        (is_the_only (to x.state) (to q) (sources New (to out)) (follows_only New (to x.state) (to out) follow) s)

    other_source : (l p : ℕ) → l < length m.states → is_in_block m l ≡ true → next_state m l ≡ out → p < length m.states → is_in_block m p ≡ false
        → leads (branches_of (transitions_of m p)) out ≡ true → ⊥
    other_source l p a b c d s k =
        let kept_p : occurs p Keep ≡ true = kept m sound rows keeps p d (not_in_block s) in
        let same : transitions_of New (to p) ≡ map (transition_renumbered Keep) (transitions_of (machine_with_rows m rows) p) =
        lines_kept (machine_with_rows m rows) Keep is_closed p kept_p in
        let up : leads (branches_of (transitions_of New (to p))) (to out) ≡ true =
        ap (λ bs. leads bs (to out)) (branches_kept p (to p) d s same) ∙ leads_up Keep (branches_of (transitions_of m p)) out k in
        let q : p ≡ x.state = from_row p kept_p (has_source New (to p) (to out) (in_new p kept_p) up) in
        let u : is_in_block m p ≡ true = subst (λ z. is_in_block m z ≡ true) (sym q) (move_in_block m sound rows keeps x (of_block h j x i f e)) in
        cc (sym s ∙ u)
      where
        not_in_block : is_in_block m p ≡ false → is_kept m rows p ≡ true
        not_in_block u = rw u refl

    same_block : (g : ℕ) → g < length m.states → is_first_of_block m g ≡ true → exit_of m g ≡ out → g ≡ h
    same_block g a b c =
        let w = last_row g a b in
        let y : Move = w.1 in
        let among_y = of_block g w.0 y a b w.2 in
        let t : to y.target ≡ to out = ap (selected_place Keep) (w.3 ∙ c) in
        let has : 0 < branch_count New (to y.state) =
        (let n : branch_count New (to y.state) ≡ 1 = ap (λ (bs : List Branch). length bs) (branches_moved y among_y) in omega (arith, n)) in
        let s : Among (to y.state) (sources New (to out)) = is_source New (to y.state) 0 (to out) (in_new y.state (has_place y among_y)) has
        (next_moved y among_y ∙ t) in
        let q : y.state ≡ x.state = from_row y.state (has_place y among_y) s in
        (apart m w.0 j g h x.state (first_outer m g b) (first_outer m h f)
        (subst (λ z. Trail m g w.0 z) q (trail_of g w.0 y a b w.2)) (trail_of h j x i f e)).0

    in_block_source : (w : Last m sound (length m.states) h) (p : ℕ) → p < length m.states → is_in_block m p ≡ true
        → leads (branches_of (transitions_of m p)) out ≡ true → p ≡ w.state
    in_block_source w p d s k =
        let n : next_state m p ≡ out = leads_next m sound p out d s k in
        let b : branch_count m w.state ≡ 1 = ap (λ (bs : List Branch). length bs) (one_way m sound w.state w.within w.in_block).1 in
        tested (follows m p out) refl n b
      where
        tested : (t : Bool) → follows m p out ≡ t → next_state m p ≡ out → branch_count m w.state ≡ 1 → p ≡ w.state
        tested true u n b = sym (comes_before m p w.state 0 out w.within (omega (arith, b)) w.leads_out u)
        tested false u n b =
            let a = stands m sound p d s in
            let v : follows m p (next_state m p) ≡ false = subst (λ z. follows m p z ≡ false) (sym n) u in
            let ends = ends_at m sound (length m.states) a.index a.first p a.is v in
            let g : a.first ≡ h = same_block a.first a.within a.starts (ends.0 ∙ n) in
            let here : slice_get (basic_block_at m h) a.index ≡ Some p = subst (λ z. slice_get (basic_block_at m z) a.index ≡ Some p) g a.is in
            let size : length (basic_block_at m h) ≡ suc a.index = subst (λ z. length (basic_block_at m z) ≡ suc a.index) g ends.1 in
            let z : follows m w.state (next_state m w.state) ≡ false = subst (λ q. follows m w.state q ≡ false) (sym w.leads_out) w.none_follows in
            let last = ends_at m sound (length m.states) w.index h w.state w.is z in
            same_last m sound (basic_block_at m h) w.index a.index w.state p last.1 size w.is here

    only_source : (w : Last m sound (length m.states) h) → list_any (another m sound m w.state out) (all_states m) ≡ false
    only_source w =
        false_from_ne_true (list_any (another m sound m w.state out) (all_states m))
        (λ u. (let p = some_of (another m sound m w.state out) (all_states m) u in
        let d : p.0 < 0 + length m.states = range_within 0 (length m.states) p.0 p.1 in
        let other : not (p.0 == w.state) ≡ true = and_first (not (p.0 == w.state)) (leads (branches_of (transitions_of m p.0)) out) p.2 in
        let k : leads (branches_of (transitions_of m p.0)) out ≡ true =
        and_second (not (p.0 == w.state)) (leads (branches_of (transitions_of m p.0)) out) p.2 in
        let differ : (p.0 == w.state) ≡ false = not-true (p.0 == w.state) other in
        by_kind (is_in_block m p.0) p.0 refl (omega (arith, d)) k differ))
      where
        by_kind : (t : Bool) → (p : ℕ) → is_in_block m p ≡ t → p < length m.states → leads (branches_of (transitions_of m p)) out ≡ true
            → (p == w.state) ≡ false → ⊥
        by_kind true p s d k u = (let q : p ≡ w.state = in_block_source w p d s k in grind (arith, nat_tests))
        by_kind false p s d k u = other_source w.state p w.within w.in_block w.leads_out d s k

    never : ⊥
    never =
        let w = last_of m sound (length m.states) h i (first_in_block m h f) (sound.cut h i) in
        let only : is_only w.state (sources m out) ≡ true = only_one m sound w.state out w.within w.in_block w.leads_out (only_source w) in
        let follows_last : follows m w.state out ≡ true = and_from (is_in_block m w.state && is_in_block m out) (is_only w.state (sources m out))
        (and_from (is_in_block m w.state) (is_in_block m out) w.in_block leaves_block_where_not_in) only in
        let none : follows m w.state out ≡ false = w.none_follows in
        cc (sym none ∙ follows_last)

  none_follow : (h j : ℕ) (x : Move) → h < length m.states → is_first_of_block m h ≡ true → slice_get (moves_at h) j ≡ Some x
      → follows New (to x.state) (to (exit_of m h)) ≡ false
  none_follow h j x i f e = false_from_ne_true (follows New (to x.state) (to (exit_of m h))) (never h j x i f e)

  -- ---- the block of a first state
  block_length : (n r h j : ℕ) (x : Move) → h < length m.states → is_first_of_block m h ≡ true → slice_get (moves_at h) j ≡ Some x
      → length (moves_at h) ≡ suc (j + r) → r ≤ n → length (block_from New n (to x.state)) ≡ suc r
  block_length zero zero h j x i f e l u = refl
  block_length (suc n) zero h j x i f e l u =
      let t : x.target ≡ exit_of m h = last_leads (exit_of m h) (basic_block_at m h) (rows h) j x e (omega (arith, l)) in
      let next : next_state New (to x.state) ≡ to (exit_of m h) = next_moved x (of_block h j x i f e) ∙ ap (selected_place Keep) t in
      let none : follows New (to x.state) (next_state New (to x.state)) ≡ false =
      subst (λ z. follows New (to x.state) z ≡ false) (sym next) (none_follow h j x i f e) in
      ap (λ t. suc (length (cond t (block_from New n (next_state New (to x.state))) []))) none
  block_length zero (suc r) h j x i f e l u = absurd (omega (arith, u))
  block_length (suc n) (suc r) h j x i f e l u =
      let y = element_at (moves_at h) (suc j) (omega (arith, l)) in
      let next : next_state New (to x.state) ≡ to y.0.state = next_moved x (of_block h j x i f e)
      ∙ ap (selected_place Keep) (target_next (exit_of m h) (basic_block_at m h) (rows h) j x y.0 e y.1) in
      let goes_on : follows New (to x.state) (next_state New (to x.state)) ≡ true =
      subst (λ z. follows New (to x.state) z ≡ true) (sym next) (follows_next h j x y.0 i f e y.1) in
      ap (λ t. suc (length (cond t (block_from New n (next_state New (to x.state))) []))) goes_on
      ∙ ap (λ z. suc (length (block_from New n z))) next
      ∙ ap suc (block_length n r h (suc j) y.0 i f y.1 (omega (arith, l)) (omega (arith, u)))

  -- a state keeps its name
  pub name_kept : (q : ℕ) → q < length m.states → is_first_of_block m q ≡ true → (state_at New (to q)).name ≡ (state_at m q).name
  name_kept q i f =
      let o : occurs q Keep ≡ true = station_kept m sound rows keeps q (i, first_outer m q f) in
      ap (λ (x : State). x.name)
      (at_place
      (λ k. record {
        name = (state_at (machine_with_rows m rows) k).name;
        transitions = map (transition_renumbered Keep) (transitions_of (machine_with_rows m rows) k);
      }) Keep q
      (record { name = []; transitions = [] }) o)
      ∙ ap (λ (x : State). x.name)
      (get_or-map-range_with_len (λ k. record { name = (state_at m k).name; transitions = transitions_by (all_moves m rows) k (transitions_of m k) }) 0
      (length m.states) q q (record { name = []; transitions = [] }) i (omega arith))

  -- there are no more rows than states that are kept
  state_in : (ms : List Move) (k : ℕ) (z : Move) → slice_get ms k ≡ Some z → slice_index_or (map (λ (y : Move). y.state) ms) k 0 ≡ z.state
  state_in [] k z e = absurd (cc e)
  state_in (y ∷ ms) zero z e = ap (λ (v : Move). v.state) (same_Some y z e)
  state_in (y ∷ ms) (suc k) z e = state_in ms k z e

  among_states : (ms : List Move) (x : Move) → Among x ms → Among x.state (map (λ (y : Move). y.state) ms)
  among_states [] x h = absurd h
  among_states (y ∷ ms) x (inl e) = inl (ap (λ (v : Move). v.state) e)
  among_states (y ∷ ms) x (inr h) = inr (among_states ms x h)

  among_kept : (q : ℕ) → occurs q Keep ≡ true → Among q Keep
  among_kept q h =
      let w = some_of (λ (y : ℕ). y == q) Keep h in
      let e : w.0 ≡ q = (let f : (w.0 == q) ≡ true = w.2 in grind (arith, nat_tests)) in
      subst (λ z. Among z Keep) e w.1

  module _ (h : ℕ) (i : h < length m.states) (f : is_first_of_block m h ≡ true) where
    abbrev states_at : List ℕ
    states_at = map (λ (y : Move). y.state) (moves_at h)

    own_place : (q : ℕ) (x : Move) → slice_get (moves_at h) q ≡ Some x → selected_place states_at x.state ≡ q
    own_place q x e =
        let o : occurs x.state states_at ≡ true = occurs_among x.state states_at (among_states (moves_at h) x (among_at (moves_at h) q x e)) in
        let k : ℕ = selected_place states_at x.state in
        let l : k < length states_at = place_below states_at x.state o in
        let z = element_at (moves_at h) k (omega (arith, l, length_map (λ (y : Move). y.state) (moves_at h))) in
        let s : z.0.state ≡ x.state = sym (state_in (moves_at h) k z.0 z.1) ∙ own_at o in
        (apart m k q h h x.state (first_outer m h f) (first_outer m h f)
        (subst (λ v. Trail m h k v) s (trail_of h k z.0 i f z.1)) (trail_of h q x i f e)).1
      where
        map_same : (ks : List ℕ) → map (λ v. v) ks ≡ ks
        map_same [] = refl
        map_same (k ∷ ks) = ap (λ (r : List ℕ). k ∷ r) (map_same ks)

        own_at : occurs x.state states_at ≡ true → slice_index_or states_at (selected_place states_at x.state) 0 ≡ x.state
        own_at o = ap (λ ks. slice_index_or ks (selected_place states_at x.state) 0) (sym (map_same states_at)) ∙ at_place (λ v. v) states_at x.state 0 o

    few_rows : length (moves_at h) ≤ length Keep
    few_rows =
        let n : length (moves_at h) ≤ length (map (selected_place states_at) Keep) =
        le-length_from_below (map (selected_place states_at) Keep) (length (moves_at h))
        (λ q u. (let x = element_at (moves_at h) q u in
        let a = of_block h q x.0 i f x.1 in
        list_any_map (eqb q) (selected_place states_at) Keep
        ∙ any_of (λ k. eqb q (selected_place states_at k)) x.0.state Keep (among_kept x.0.state (has_place x.0 a))
        (eq-eqb q (selected_place states_at x.0.state) (sym (own_place q x.0 x.1))))) in
        omega (arith, n, length_map (selected_place states_at) Keep)

    starts_with : (x : Move) → slice_get (moves_at h) 0 ≡ Some x → h ≡ x.state
    starts_with x e =
        let block = begins m sound rows keeps (length m.states) h in
        same_Some h x.state
        (sym (ap (λ qs. slice_get qs 0) block.1) ∙ move_state (exit_of m h) (basic_block_at m h) (rows h) 0 x e)

    pub has_rows : length (basic_block_at New (to h)) ≡ length (rows h)
    has_rows =
        let r = some_row (rows h) (keeps.some h i f) in
        let n : length (moves_at h) ≡ suc r.0 = moves_count (exit_of m h) (basic_block_at m h) (rows h) (keeps.no_more h i f) ∙ r.1 in
        let x = element_at (moves_at h) 0 (omega (arith, n)) in
        ap (λ q. length (basic_block_at New (to q))) (starts_with x.0 x.1)
        ∙ block_length (length New.states) r.0 h 0 x.0 i f x.1 (omega (arith, n)) (omega (arith, n, few_rows, states_count)) ∙ sym r.1

    -- what leads to the first state of a block
    leads_there : (p r : ℕ) → follows New p r ≡ true → leads (branches_of (transitions_of New p)) r ≡ true
    leads_there p r g =
        let w = joined_from (λ s. map (λ b. s) (filter (λ b. b.target == r) (branches_of (transitions_of New s)))) p (all_states New)
        (only_among p (sources New r) (follows_only New p r g)) in
        let c = constant_is w.0 p (filter (λ (b : Branch). b.target == r) (branches_of (transitions_of New w.0))) w.2 in
        subst (λ z. leads (branches_of (transitions_of New z)) r ≡ true) (sym c.0)
        (any_of (λ (b : Branch). b.target == r) c.1 (branches_of (transitions_of New w.0))
        (was_among (λ (b : Branch). b.target == r) c.1 (branches_of (transitions_of New w.0)) c.2)
        (passes_test (λ (b : Branch). b.target == r) c.1 (branches_of (transitions_of New w.0)) c.2))

    not_by_row : (z : Move) → Among z (all_moves m rows) → z.target ≡ h → follows New (to z.state) (to h) ≡ true → ⊥
    not_by_row z a t g =
        let p = at m sound rows keeps z a in
        elim (next_or_exit (exit_of m p.head) (basic_block_at m p.head) (rows p.head) p.place z p.is) as (λ _. ⊥) [
          | inl e ↦ (let none : follows New (to z.state) (to (exit_of m p.head)) ≡ false = none_follow p.head p.place z p.within p.first p.is in
              let some : follows New (to z.state) (to (exit_of m p.head)) ≡ true = subst (λ q. follows New (to z.state) (to q) ≡ true) (sym t ∙ e) g in
              cc (sym none ∙ some))
          | inr y ↦ (let u : is_inner m h ≡ true = subst (λ q. is_inner m q ≡ true) (y.2 ∙ t) (inner_at p.head p.place y.0 p.within p.first y.1) in
              let v : is_inner m h ≡ false = first_outer m h f in
              cc (sym v ∙ u))
        ]

    first_here : occurs h Keep ≡ true
    first_here = station_kept m sound rows keeps h (i, first_outer m h f)

    none_before_it : (p : ℕ) → p < length New.states → follows New p (to h) ≡ true → ⊥
    none_before_it p l g =
        let w = led_from p h l first_here (leads_there p (to h) g) in
        elim w.how as (λ _. ⊥) [
          | inl s ↦ (let u : is_in_block m w.state ≡ true = in_block_kept w.state w.within w.here
              (subst (λ z. is_in_block New z ≡ true) (sym w.place) (follows_in_block New p (to h) g)) in
              let v : is_in_block m w.state ≡ false = s.0 in
              cc (sym v ∙ u))
          | inr z ↦ not_by_row z.0 z.1 z.3
              (subst (λ q. follows New q (to h) ≡ true) (sym (ap (selected_place Keep) z.2 ∙ w.place)) g)
        ]

    pub is_first : is_first_of_block New (to h) ≡ true
    is_first =
        let r = some_row (rows h) (keeps.some h i f) in
        let n : length (moves_at h) ≡ suc r.0 = moves_count (exit_of m h) (basic_block_at m h) (rows h) (keeps.no_more h i f) ∙ r.1 in
        let x = element_at (moves_at h) 0 (omega (arith, n)) in
        let s : is_in_block New (to h) ≡ true =
        subst (λ q. is_in_block New (to q) ≡ true) (sym (starts_with x.0 x.1)) (in_block_moved x.0 (of_block h 0 x.0 i f x.1)) in
        let inside : is_inner New (to h) ≡ false = false_from_ne_true (is_inner New (to h))
        (λ u. (let p = some_of (λ p. follows New p (to h)) (all_states New) u in
        let d : p.0 < 0 + length New.states = range_within 0 (length New.states) p.0 p.1 in
        none_before_it p.0 (omega (arith, d)) p.2)) in
        and_from (is_in_block New (to h)) (not (is_inner New (to h))) s (ap not inside)
