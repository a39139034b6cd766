-- From each state of a scheduled machine a cutpoint comes.
use Rattle.std.proofs.Common.{◌≡◌, inl, inr, ℕ, zero, suc, ◌+◌, ◌<◌, refl, sym, ◌∙◌, ap, subst, arith, Bool, true, false, List, [], ◌∷◌, map, length, Option}
use Rattle.std.proofs.Common.{Some, None}
use Rattle.std.specs.Prelude.{◌==◌, ◌||◌, cond, nat_lt, slice_get}
use Rattle.std.specs.List.{slice_index_or}
use Rattle.std.proofs.lemmas.Bool.Decides.{nat_tests}
use Rattle.std.proofs.lemmas.Bool.{not-false, not-true}
use Rattle.fs_ast.proofs.Leaves.{length_leaves}
use Rattle.fs_ast.proofs.Kept.{passes_no_cutpoint}
use Rattle.fs_model.proofs.Booleans.{or_other}
use Rattle.fs_model.specs.Expressions.{Guard, Test, Not, And, Or, Transition}
use Rattle.fs_model.specs.Machines.{State, Fsmd, transitions_of}
use Rattle.fs_model.specs.Trees.{Tree, Leaf, tree_of_guard, tree_of_condition, tree_of_transitions, branches_of, count_leaves}
use Rattle.fs_model.specs.SoundMachines.{IsSound, occurs, ends_open, is_cutpoint, branch_count, reaches_cutpoint, first_transition_target}
use Rattle.fs_rules.specs.Rules.{after_steps, IsEndless}
use Rattle.fs_cut.proofs.Branches.{first_target}
use Rattle.hls_block_filling.specs.Items.{Item}
use Rattle.hls_block_filling.specs.BasicBlocks.{all_states, is_in_block, follows, next_state, exit_from, basic_block_at, exit_of, is_inner}
use Rattle.hls_block_filling.specs.BasicBlocks.{is_first_of_block, firsts}
use Rattle.hls_block_filling.specs.RowMachines.{Move, after_row, moves, state_at, machine_with_rows, KeepsStores}
use Rattle.hls_block_filling.specs.MachineSelections.{selected_place, transition_renumbered, IsClosedUnderTargets}
use Rattle.hls_block_filling.specs.ScheduledMachines.{kept_states, scheduled_machine}
use Rattle.hls_block_filling.proofs.Among.{Among, occurs_among, joined_from, passes_test, was_among, range_within}
use Rattle.hls_block_filling.proofs.Trails.{member, next_in, follows_on, Station, leaves_block, first_in_block}
use Rattle.hls_block_filling.proofs.Replacing.{Does, does, begins, both_of}
use Rattle.hls_block_filling.proofs.Selecting.{lines_kept}
use Rattle.hls_block_filling.proofs.Dropping.{station_kept, moves_of, Kind, of_kept, stays, closed}

-- some steps by first transitions lead from one state to another
pub record Comes (M : Fsmd) (q r : ℕ) : Type 0 where
  pub steps : ℕ
  pub there : after_steps M steps q ≡ r

steps_add : (M : Fsmd) (n k q : ℕ) → after_steps M (n + k) q ≡ after_steps M k (after_steps M n q)
steps_add M zero k q = ap (λ z. after_steps M z q) (let e : 0 + k ≡ k = omega arith in e)
steps_add M (suc n) k q = ap (λ z. after_steps M z q) (let e : suc n + k ≡ suc (n + k) = omega arith in e)
    ∙ steps_add M n k (first_transition_target (transitions_of M q))

come_on : (M : Fsmd) (q r t : ℕ) → Comes M q r → Comes M r t → Comes M q t
come_on M q r t a b = record { steps = a.steps + b.steps; there = steps_add M a.steps b.steps q ∙ ap (after_steps M b.steps) a.there ∙ b.there }

move_comes : (M : Fsmd) (x : Move) → Does M x → Comes M x.state x.target
move_comes M x d = record { steps = 1; there = ap first_transition_target d.0 }

-- from the state of each move of a block its exit comes
block_comes : (M : Fsmd) (exit : ℕ) (qs : List ℕ) (rows : List Item) → ((x : Move) → Among x (moves exit qs rows) → Does M x) → (x : Move)
    → Among x (moves exit qs rows) → Comes M x.state exit
block_comes M exit [] rows d x h = absurd h
block_comes M exit (q ∷ qs) [] d x h = absurd h
block_comes M exit (q ∷ qs) (a ∷ []) d x (inl e) = let y : Move = record { state = q; assignments = a; target = exit } in
    subst (λ (z : Move). Comes M z.state exit) (sym e) (move_comes M y (d y (inl refl)))
block_comes M exit (q ∷ []) (a ∷ b ∷ rows) d x (inl e) = let y : Move = record { state = q; assignments = a; target = exit } in
    subst (λ (z : Move). Comes M z.state exit) (sym e) (move_comes M y (d y (inl refl)))
block_comes M exit (q ∷ r ∷ qs) (a ∷ b ∷ rows) d x (inl e) =
    let y : Move = record { state = q; assignments = a; target = r } in
    let w : Move = record { state = r; assignments = b; target = after_row exit qs rows } in
    subst (λ (z : Move). Comes M z.state exit) (sym e)
    (come_on M q r exit (move_comes M y (d y (inl refl))) (block_comes M exit (r ∷ qs) (b ∷ rows) (λ z g. d z (inr g)) w (inl refl)))
block_comes M exit (q ∷ qs) (a ∷ rows) d x (inr h) = block_comes M exit qs rows (λ z g. d z (inr g)) x h

-- ---- renumbering keeps the number of branches
same_formula : (g : Guard ℕ) (y n y' n' : Tree) → count_leaves y ≡ count_leaves y' → count_leaves n ≡ count_leaves n'
    → count_leaves (tree_of_guard g y n) ≡ count_leaves (tree_of_guard g y' n')
same_formula (Test l) y n y' n' e f = omega (arith, e, f)
same_formula (Not c) y n y' n' e f = same_formula c n y n' y' f e
same_formula (And c d) y n y' n' e f = same_formula c (tree_of_guard d y n) n (tree_of_guard d y' n') n' (same_formula d y n y' n' e f) f
same_formula (Or c d) y n y' n' e f = same_formula c y (tree_of_guard d y n) y' (tree_of_guard d y' n') e (same_formula d y n y' n' e f)

same_guard : (g : Option (Guard ℕ)) (y n y' n' : Tree) → count_leaves y ≡ count_leaves y' → count_leaves n ≡ count_leaves n'
    → count_leaves (tree_of_condition g y n) ≡ count_leaves (tree_of_condition g y' n')
same_guard None y n y' n' e f = e
same_guard (Some g) y n y' n' e f = same_formula g y n y' n' e f

same_count : (keep : List ℕ) (ls : List (Transition ℕ ℕ))
    → count_leaves (tree_of_transitions (map (transition_renumbered keep) ls)) ≡ count_leaves (tree_of_transitions ls)
same_count keep [] = refl
same_count keep (l ∷ ls) = same_guard l.guard (Leaf l.assignments (selected_place keep l.target)) (tree_of_transitions (map (transition_renumbered keep) ls))
    (Leaf l.assignments l.target) (tree_of_transitions ls) refl (same_count keep ls)

pub same_branches : (keep : List ℕ) (ls : List (Transition ℕ ℕ)) → length (branches_of (map (transition_renumbered keep) ls)) ≡ length (branches_of ls)
same_branches keep ls = length_leaves (tree_of_transitions (map (transition_renumbered keep) ls)) [] ∙ same_count keep ls
    ∙ sym (length_leaves (tree_of_transitions ls) [])

target_renumbered : (keep : List ℕ) (ls : List (Transition ℕ ℕ)) → ends_open ls ≡ true
    → first_transition_target (map (transition_renumbered keep) ls) ≡ selected_place keep (first_transition_target ls)
target_renumbered keep [] e = absurd (cc e)
target_renumbered keep (l ∷ ls) e = refl

first_among : (ls : List (Transition ℕ ℕ)) → ends_open ls ≡ true → (l : Transition ℕ ℕ) × (slice_get ls 0 ≡ Some l) × (first_transition_target ls ≡ l.target)
first_among [] e = absurd (cc e)
first_among (l ∷ ls) e = (l, refl, refl)

cut_cases : (a b x y : Bool) → y ≡ x → (a ≡ true → b ≡ true) → (a || x) ≡ true → (b || y) ≡ true
cut_cases true b x y e f h = let i : b ≡ true = f refl in rw i refl
cut_cases false true x y e f h = refl
cut_cases false false x y e f h = e ∙ h

cut_by : (m : Fsmd) (q p r k c : ℕ) → c ≡ k → (q ≡ m.reset → p ≡ r) → ((q == m.reset) || nat_lt 1 k) ≡ true → ((p == r) || nat_lt 1 c) ≡ true
cut_by m q p r k c e f h = cut_cases (q == m.reset) (p == r) (nat_lt 1 k) (nat_lt 1 c) (ap (nat_lt 1) e)
    (λ g. (let i : q ≡ m.reset = grind (arith, nat_tests) in let j : p ≡ r = f i in grind (arith, nat_tests))) h

at_index : {X : Type 0} (f : ℕ → X) (xs : List ℕ) (p : ℕ) (d : X) → p < length xs → slice_index_or (map f xs) p d ≡ f (slice_index_or xs p 0)
at_index f [] p d h = absurd (omega (arith, h))
at_index f (x ∷ xs) zero d h = refl
at_index f (x ∷ xs) (suc p) d h = at_index f xs p d (omega (arith, h))

module _ (m : Fsmd) (sound : IsSound m) (rows : ℕ → List Item) (keeps : KeepsStores m rows) where
  abbrev Keep : List ℕ
  Keep = kept_states m rows

  abbrev Old : Fsmd
  Old = machine_with_rows m rows

  is_closed : IsClosedUnderTargets (machine_with_rows m rows) (kept_states m rows)
  is_closed = closed m sound rows keeps

  -- the steps of the renumbered machine are those of the other
  step_kept : (n q : ℕ) → occurs q Keep ≡ true → (after_steps (scheduled_machine m rows) n (selected_place Keep q) ≡ selected_place Keep (after_steps Old n q))
      × (occurs (after_steps Old n q) Keep ≡ true)
  step_kept zero q h = (refl, h)
  step_kept (suc n) q h =
      let o : ends_open (transitions_of Old q) ≡ true = is_closed.goes_on q h in
      let f = first_among (transitions_of Old q) o in
      let k : occurs (first_transition_target (transitions_of Old q)) Keep ≡ true =
      subst (λ z. occurs z Keep ≡ true) (sym f.2) (is_closed.leads q f.0 0 h f.1) in
      let t : first_transition_target (transitions_of (scheduled_machine m rows) (selected_place Keep q))
      ≡ selected_place Keep (first_transition_target (transitions_of Old q)) = ap first_transition_target (lines_kept Old Keep is_closed q h)
      ∙ target_renumbered Keep (transitions_of Old q) o in
      let rest = step_kept n (first_transition_target (transitions_of Old q)) k in
      (ap (after_steps (scheduled_machine m rows) n) t ∙ rest.0, rest.1)

  -- a state that is in no block is a cutpoint
  pub cut_kept : (q : ℕ) → q < length m.states → occurs q Keep ≡ true → is_in_block m q ≡ false
      → is_cutpoint (scheduled_machine m rows) (selected_place Keep q) ≡ true
  cut_kept q h k e =
      let c : is_cutpoint m q ≡ true = not-false (is_cutpoint m q) e in
      let b : branch_count (scheduled_machine m rows) (selected_place Keep q) ≡ branch_count m q =
      ap (λ ls. length (branches_of ls)) (lines_kept Old Keep is_closed q k ∙ ap (map (transition_renumbered Keep)) (stays m sound rows keeps q h e))
      ∙ same_branches Keep (transitions_of m q) in
      cut_by m q (selected_place Keep q) (selected_place Keep m.reset) (branch_count m q)
      (branch_count (scheduled_machine m rows) (selected_place Keep q)) b (λ d. ap (selected_place Keep) d) c

  nearer : (N q : ℕ) → q < length m.states → is_in_block m q ≡ true → reaches_cutpoint m (suc N) q ≡ true → reaches_cutpoint m N (next_state m q) ≡ true
  nearer N q h e r =
      let c : is_cutpoint m q ≡ false = not-true (is_cutpoint m q) e in
      subst (λ z. reaches_cutpoint m N z ≡ true) (first_target m sound q h c)
      (or_other (is_cutpoint m q) (reaches_cutpoint m N (first_transition_target (transitions_of m q))) c r)

  -- the exit of a block is nearer to a cutpoint
  exit_step : (n q N : ℕ) (t : Bool) → follows m q (next_state m q) ≡ t → reaches_cutpoint m N (next_state m q) ≡ true
      → (follows m q (next_state m q) ≡ true → (k : ℕ) × (k < N) × (reaches_cutpoint m k (exit_from m n (next_state m q)) ≡ true))
      → (k : ℕ) × (k < suc N) × (reaches_cutpoint m k (cond t (exit_from m n (next_state m q)) (next_state m q)) ≡ true)
  exit_step n q N true e r w = let d = w e in (d.0, (let i : d.0 < N = d.1 in omega (arith, i)), d.2)
  exit_step n q N false e r w = (N, omega arith, r)

  exit_nearer : (n N q : ℕ) → q < length m.states → is_in_block m q ≡ true → reaches_cutpoint m N q ≡ true
      → (k : ℕ) × (k < N) × (reaches_cutpoint m k (exit_from m n q) ≡ true)
  exit_nearer n zero q h e r = absurd (let f : is_cutpoint m q ≡ false = not-true (is_cutpoint m q) e in cc (sym f ∙ r))
  exit_nearer zero (suc N) q h e r = (N, omega arith, nearer N q h e r)
  exit_nearer (suc n) (suc N) q h e r = exit_step n q N (follows m q (next_state m q)) refl (nearer N q h e r)
      (λ f. exit_nearer n N (next_state m q) (next_in m sound q h) (follows_on m q (next_state m q) f) (nearer N q h e r))

  -- a state that is in no block comes
  pub record Cut (q : ℕ) : Type 0 where
    pub state : ℕ
    pub comes : Comes Old q state
    pub within : state < length m.states
    pub kept : occurs state Keep ≡ true
    pub cut : is_in_block m state ≡ false

  cut_from : (q r : ℕ) → Comes Old q r → Cut r → Cut q
  cut_from q r c w = record { state = w.state; comes = come_on Old q r w.state c w.comes; within = w.within; kept = w.kept; cut = w.cut }

  own_move :
      (q : ℕ) (bs : List Item) → rows q ≡ bs → q < length m.states → is_first_of_block m q ≡ true
      → (x : Move) × Among x (moves (exit_of m q) (basic_block_at m q) (rows q)) × (x.state ≡ q)
  own_move q [] e h f = absurd (keeps.some q h f e)
  own_move q (a ∷ rest) e h f =
      let block = begins m sound rows keeps (length m.states) q in
      let x : Move = record { state = q; assignments = a; target = after_row (exit_of m q) block.0 rest } in (
        x,
        subst (λ z. Among x (moves (exit_of m q) (basic_block_at m q) z)) (sym e)
            (subst (λ z. Among x (moves (exit_of m q) z (a ∷ rest))) (sym block.1) (inl refl)),
        refl,
      )

  exit_comes :
      (q : ℕ) → q < length m.states → is_first_of_block m q ≡ true → (x : Move) → Among x (moves (exit_of m q) (basic_block_at m q) (rows q))
      → Comes Old x.state (exit_of m q)
  exit_comes q h f x w = block_comes Old (exit_of m q) (basic_block_at m q) (rows q)
      (λ y g. does m sound rows keeps y (moves_of m sound rows keeps q h f y g)) x w

  first_comes : (q : ℕ) → q < length m.states → is_first_of_block m q ≡ true → Comes Old q (exit_of m q)
  first_comes q h f = let x = own_move q (rows q) refl h f in subst (λ z. Comes Old z (exit_of m q)) x.2 (exit_comes q h f x.0 x.1)

  at_exit : (q : ℕ) → q < length m.states → is_in_block m q ≡ true → Station m sound (exit_of m q)
  at_exit q h e = leaves_block m sound (length m.states) q h e (sound.cut q h)

  station_step : (b N q : ℕ) (t : Bool) → is_in_block m q ≡ t → N < suc b → Station m sound q → reaches_cutpoint m N q ≡ true
      → ((k r : ℕ) → k < b → Station m sound r → reaches_cutpoint m k r ≡ true → Cut r) → Cut q
  station_step b N q false e i w r next_one = record {
    state = q;
    comes = record { steps = 0; there = refl };
    within = w.0;
    kept = station_kept m sound rows keeps q w;
    cut = e;
  }
  station_step b N q true e i w r next_one =
      let f : is_first_of_block m q ≡ true = both_of (is_in_block m q) (is_inner m q) e w.1 in
      let d = exit_nearer (length m.states) N q w.0 e r in
      let j : d.0 < N = d.1 in
      cut_from q (exit_of m q) (first_comes q w.0 f) (next_one d.0 (exit_of m q) (omega (arith, i, j)) (at_exit q w.0 e) d.2)

  station_cut : (b N q : ℕ) → N < b → Station m sound q → reaches_cutpoint m N q ≡ true → Cut q
  station_cut zero N q i w r = absurd (omega (arith, i))
  station_cut (suc b) N q i w r = station_step b N q (is_in_block m q) refl i w r (λ k t j v g. station_cut b k t j v g)

  any_station : (q : ℕ) → Station m sound q → Cut q
  any_station q w = station_cut (suc (length m.states)) (length m.states) q (omega arith) w (sound.cut q w.0)

  kept_cut_by : (q : ℕ) → q < length m.states → occurs q Keep ≡ true → Kind m sound rows keeps q → Cut q
  kept_cut_by q h o (inl e) = record { state = q; comes = record { steps = 0; there = refl }; within = h; kept = o; cut = e }
  kept_cut_by q h o (inr x) =
      let w = joined_from (λ k. moves (exit_of m k) (basic_block_at m k) (rows k)) x.0 (firsts m) x.1 in
      let f : is_first_of_block m w.0 ≡ true = passes_test (is_first_of_block m) w.0 (all_states m) w.1 in
      let j : w.0 < 0 + length m.states = range_within 0 (length m.states) w.0 (was_among (is_first_of_block m) w.0 (all_states m) w.1) in
      let i : w.0 < length m.states = omega (arith, j) in
      cut_from q (exit_of m w.0) (subst (λ z. Comes Old z (exit_of m w.0)) x.2 (exit_comes w.0 i f x.0 w.2))
      (any_station (exit_of m w.0) (at_exit w.0 i (first_in_block m w.0 f)))

  kept_cut : (q : ℕ) → occurs q Keep ≡ true → Cut q
  kept_cut q o = let w = of_kept m sound rows keeps q o in kept_cut_by q w.within o w.kind

  -- ---- in the renumbered machine
  pub lines_here : (p : ℕ) → p < length Keep → transitions_of (scheduled_machine m rows) p
      ≡ map (transition_renumbered Keep) (transitions_of Old (slice_index_or Keep p 0))
  lines_here p h = ap (λ (x : State). x.transitions)
      (at_index (λ q. record { name = (state_at Old q).name; transitions = map (transition_renumbered Keep) (transitions_of Old q) }) Keep p
      (record { name = []; transitions = [] }) h)

  pub here_kept : (p : ℕ) → p < length Keep → occurs (slice_index_or Keep p 0) Keep ≡ true
  here_kept p h = occurs_among (slice_index_or Keep p 0) Keep (member Keep p 0 h)

  pub nowhere_endless : (p : ℕ) → p < length Keep → IsEndless (scheduled_machine m rows) p → ⊥
  nowhere_endless p h e =
      let q : ℕ = slice_index_or Keep p 0 in
      let o : ends_open (transitions_of Old q) ≡ true = is_closed.goes_on q (here_kept p h) in
      let f = first_among (transitions_of Old q) o in
      let t : ℕ = first_transition_target (transitions_of Old q) in
      let k : occurs t Keep ≡ true = subst (λ z. occurs z Keep ≡ true) (sym f.2) (is_closed.leads q f.0 0 (here_kept p h) f.1) in
      let g : first_transition_target (transitions_of (scheduled_machine m rows) p) ≡ selected_place Keep t = ap first_transition_target (lines_here p h)
      ∙ target_renumbered Keep (transitions_of Old q) o in
      let c = kept_cut t k in
      let there : after_steps (scheduled_machine m rows) (suc c.comes.steps) p ≡ selected_place Keep c.state =
      ap (after_steps (scheduled_machine m rows) c.comes.steps) g
      ∙ (step_kept c.comes.steps t k).0 ∙ ap (selected_place Keep) c.comes.there in
      let yes_cut : is_cutpoint (scheduled_machine m rows) (after_steps (scheduled_machine m rows) (suc c.comes.steps) p) ≡ true =
      subst (λ z. is_cutpoint (scheduled_machine m rows) z ≡ true) (sym there) (cut_kept c.state c.within c.kept c.cut) in
      let no_cut : is_cutpoint (scheduled_machine m rows) (after_steps (scheduled_machine m rows) (suc c.comes.steps) p) ≡ false =
      passes_no_cutpoint (scheduled_machine m rows) p e (suc c.comes.steps) in
      cc (sym no_cut ∙ yes_cut)
