-- Nothing leads to a state of a block that has no row.
use Rattle.std.proofs.Common.{◌≡◌, ◌⊎◌, inl, inr, ℕ, zero, suc, ◌+◌, ◌<◌, refl, sym, ◌∙◌, ap, subst, arith, Bool, true, false, List, [], ◌∷◌, ◌++◌, length}
use Rattle.std.proofs.Common.{Option, Some, None}
use Rattle.std.specs.Prelude.{◌==◌, ◌||◌, ◌&&◌, not, slice_get}
use Rattle.std.specs.Option.{is_none}
use Rattle.std.specs.List.{list_any}
use Rattle.std.proofs.lemmas.Bool.Decides.{nat_tests}
use Rattle.std.proofs.lemmas.Bool.{or_left, or_right}
use Rattle.std.proofs.lemmas.Option.{same_Some}
use Rattle.fs_model.specs.Expressions.{Literal, Guard, Test, Not, And, Or, Transition}
use Rattle.fs_model.specs.Machines.{Fsmd, transitions_of}
use Rattle.fs_model.specs.Runs.{SameBehaviour}
use Rattle.fs_model.specs.Trees.{Tree, Empty, Leaf, Node, Branch, tree_of_guard, tree_of_condition, tree_of_transitions, leaves, negated_literal}
use Rattle.fs_model.proofs.Behaviour.{transitive}
use Rattle.fs_model.specs.SoundMachines.{IsSound, ends_open, occurs}
use Rattle.hls_block_filling.specs.Items.{Item}
use Rattle.hls_block_filling.specs.BasicBlocks.{all_states, is_in_block, basic_block_at, exit_of, is_inner, is_first_of_block, firsts}
use Rattle.hls_block_filling.specs.RowMachines.{Move, after_row, moves, all_moves, move_transition, machine_with_rows, KeepsStores}
use Rattle.hls_block_filling.specs.MachineSelections.{IsClosedUnderTargets}
use Rattle.hls_block_filling.specs.ScheduledMachines.{is_kept, kept_states, scheduled_machine}
use Rattle.hls_block_filling.proofs.Among.{Among, passes_test, was_among, stays_among, joined_from, in_joined, in_range, range_within, some_of, any_of}
use Rattle.hls_block_filling.proofs.Among.{occurs_among}
use Rattle.hls_block_filling.proofs.Trails.{has_source, Station, enters_from, leaves_block, first_in_block}
use Rattle.hls_block_filling.proofs.Selecting.{selected_behaves}
use Rattle.hls_block_filling.proofs.Replacing.{both_of, not_found, Does, lines_replaced, does, move_in, move_in_block, at_reset, begins}
use Rattle.hls_block_filling.proofs.Replacing.{replaced_behaves}

-- ---- each transition has a branch
abbrev goes_to : ℕ → Tree → Bool
goes_to r Empty = false
goes_to r (Leaf actions target) = target == r
goes_to r (Node l y n) = goes_to r y || goes_to r n

any_step : (b c d : Bool) → (b || c) ≡ true → (c ≡ true → d ≡ true) → (b || d) ≡ true
any_step true c d e f = refl
any_step false c d e f = f e

any_left : {X : Type 0} (p : X → Bool) (xs ys : List X) → list_any p xs ≡ true → list_any p (xs ++ ys) ≡ true
any_left p [] ys e = absurd (cc e)
any_left p (x ∷ xs) ys e = any_step (p x) (list_any p xs) (list_any p (xs ++ ys)) e (any_left p xs ys)

any_right : {X : Type 0} (p : X → Bool) (xs ys : List X) → list_any p ys ≡ true → list_any p (xs ++ ys) ≡ true
any_right p [] ys e = e
any_right p (x ∷ xs) ys e = or_right (p x) (list_any p (xs ++ ys)) (any_right p xs ys e)

any_both : {X : Type 0} (p : X → Bool) (xs ys : List X) (b c : Bool) → (b || c) ≡ true → (b ≡ true → list_any p xs ≡ true) → (c ≡ true → list_any p ys ≡ true)
    → list_any p (xs ++ ys) ≡ true
any_both p xs ys true c e f g = any_left p xs ys (f refl)
any_both p xs ys false c e f g = any_right p xs ys (g e)

-- a formula's tree goes where either of the trees below it goes
abbrev GoesBoth : ℕ → Guard ℕ → Type 0
GoesBoth r g = ((y n : Tree) → goes_to r y ≡ true → goes_to r (tree_of_guard g y n) ≡ true)
    × ((y n : Tree) → goes_to r n ≡ true → goes_to r (tree_of_guard g y n) ≡ true)

goes_both : (r : ℕ) (g : Guard ℕ) → GoesBoth r g
goes_both r (Test l) = ((λ y n e. or_left (goes_to r y) (goes_to r n) e), (λ y n e. or_right (goes_to r y) (goes_to r n) e))
goes_both r (Not c) = let h = goes_both r c in ((λ y n e. h.1 n y e), (λ y n e. h.0 n y e))
goes_both r (And c d) =
    let h = goes_both r c in
    let k = goes_both r d in
    ((λ y n e. h.0 (tree_of_guard d y n) n (k.0 y n e)), (λ y n e. h.1 (tree_of_guard d y n) n e))
goes_both r (Or c d) =
    let h = goes_both r c in
    let k = goes_both r d in
    ((λ y n e. h.0 y (tree_of_guard d y n) e), (λ y n e. h.1 y (tree_of_guard d y n) (k.1 y n e)))

goes_here : (r : ℕ) (g : Option (Guard ℕ)) (y n : Tree) → goes_to r y ≡ true → goes_to r (tree_of_condition g y n) ≡ true
goes_here r None y n e = e
goes_here r (Some g) y n e = (goes_both r g).0 y n e

goes_on : (r : ℕ) (g : Guard ℕ) (y n : Tree) → goes_to r n ≡ true → goes_to r (tree_of_condition (Some g) y n) ≡ true
goes_on r g y n e = (goes_both r g).1 y n e

in_leaves : (r : ℕ) (t : Tree) (way : List (Literal ℕ)) → goes_to r t ≡ true → list_any (λ b. b.target == r) (leaves t way) ≡ true
in_leaves r Empty way e = absurd (cc e)
in_leaves r (Leaf actions target) way e = or_left (target == r) false e
in_leaves r (Node l y n) way e = any_both (λ (b : Branch). b.target == r) (leaves y (way ++ l ∷ [])) (leaves n (way ++ negated_literal l ∷ [])) (goes_to r y)
    (goes_to r n) e (in_leaves r y (way ++ l ∷ [])) (in_leaves r n (way ++ negated_literal l ∷ []))

later_blocks : (r : ℕ) (g : Option (Guard ℕ)) (y n : Tree) (b : Bool) → (not (is_none g) && b) ≡ true → (b ≡ true → goes_to r n ≡ true)
    → goes_to r (tree_of_condition g y n) ≡ true
later_blocks r None y n b e h = absurd (cc e)
later_blocks r (Some g) y n b e h = goes_on r g y n (h e)

some_block :
    (ls : List (Transition ℕ ℕ)) (k : ℕ) (l : Transition ℕ ℕ) → ends_open ls ≡ true → slice_get ls k ≡ Some l
    → goes_to l.target (tree_of_transitions ls) ≡ true
some_block [] k l o e = absurd (cc e)
some_block (x ∷ ls) zero l o e =
    let f : x ≡ l = same_Some x l e in
    goes_here l.target x.guard (Leaf x.assignments x.target) (tree_of_transitions ls)
    (let g : x.target ≡ l.target = ap (λ (z : Transition ℕ ℕ). z.target) f in grind (arith, nat_tests))
some_block (x ∷ []) (suc k) l o e = absurd (cc e)
some_block (x ∷ y ∷ ls) (suc k) l o e = later_blocks l.target x.guard (Leaf x.assignments x.target) (tree_of_transitions (y ∷ ls))
    (ends_open (y ∷ ls)) o (λ f. some_block (y ∷ ls) k l f e)

-- ---- where moves lead
-- to the state of another move, or out of the block
first_leads : (exit q : ℕ) (qs : List ℕ) (a : Item) (rows : List Item) (x : Move) → x ≡ record { state = q; assignments = a; target = after_row exit qs rows }
    → (x.target ≡ exit) ⊎ ((y : Move) × Among y (moves exit (q ∷ qs) (a ∷ rows)) × (y.state ≡ x.target))
first_leads exit q qs a [] x e = inl (ap (λ (z : Move). z.target) e)
first_leads exit q [] a (b ∷ rows) x e = inl (ap (λ (z : Move). z.target) e)
first_leads exit q (r ∷ qs) a (b ∷ rows) x e =
    inr (record { state = r; assignments = b; target = after_row exit qs rows }, inr (inl refl), sym (ap (λ (z : Move). z.target) e))

leads_to : (exit : ℕ) (qs : List ℕ) (rows : List Item) (x : Move) → Among x (moves exit qs rows)
    → (x.target ≡ exit) ⊎ ((y : Move) × Among y (moves exit qs rows) × (y.state ≡ x.target))
leads_to exit [] rows x h = absurd h
leads_to exit (q ∷ qs) [] x h = absurd h
leads_to exit (q ∷ qs) (a ∷ rows) x (inl e) = first_leads exit q qs a rows x e
leads_to exit (q ∷ qs) (a ∷ rows) x (inr h) =
    elim (leads_to exit qs rows x h) as (λ _. (x.target ≡ exit) ⊎ ((y : Move) × Among y (moves exit (q ∷ qs) (a ∷ rows)) × (y.state ≡ x.target))) [
      | inl e ↦ inl e
      | inr w ↦ inr (w.0, inr w.1, w.2)
    ]

only_there : (x : Move) (k : ℕ) (l : Transition ℕ ℕ) → slice_get (move_transition x ∷ []) k ≡ Some l → l.target ≡ x.target
only_there x zero l e = ap (λ (z : Transition ℕ ℕ). z.target) (sym (same_Some (move_transition x) l e))
only_there x (suc k) l e = absurd (cc e)

module _ (m : Fsmd) (sound : IsSound m) (rows : ℕ → List Item) (keeps : KeepsStores m rows) where
  abbrev pub Keep : List ℕ
  Keep = kept_states m rows

  pub kept : (q : ℕ) → q < length m.states → is_kept m rows q ≡ true → occurs q Keep ≡ true
  kept q h e = occurs_among q Keep (stays_among (is_kept m rows) q (all_states m) e (in_range 0 (length m.states) q (omega arith) (omega arith)))

  pub moves_of : (q : ℕ) → q < length m.states → is_first_of_block m q ≡ true → (x : Move) → Among x (moves (exit_of m q) (basic_block_at m q) (rows q))
      → Among x (all_moves m rows)
  moves_of q h f x w = in_joined (λ k. moves (exit_of m k) (basic_block_at m k) (rows k)) x q (firsts m)
      (stays_among (is_first_of_block m) q (all_states m) f (in_range 0 (length m.states) q (omega arith) (omega arith))) w

  pub kept_by : (x : Move) (q : ℕ) → Among x (all_moves m rows) → x.state ≡ q → is_kept m rows q ≡ true
  kept_by x q h e = or_right (not (is_in_block m q)) (list_any (λ y. y.state == q) (all_moves m rows))
      (any_of (λ (y : Move). y.state == q) x (all_moves m rows) h (grind (arith, nat_tests)))

  first_move : (q : ℕ) (ls : List Item) → rows q ≡ ls → q < length m.states → is_first_of_block m q ≡ true
      → (x : Move) × Among x (all_moves m rows) × (x.state ≡ q)
  first_move q [] e h f = absurd (keeps.some q h f e)
  first_move q (a ∷ rest) e h f =
      let block = begins m sound rows keeps (length m.states) q in
      let x : Move = record { state = q; assignments = a; target = after_row (exit_of m q) block.0 rest } in (
        x,
        moves_of q h f x
            (subst (λ z. Among x (moves (exit_of m q) (basic_block_at m q) z)) (sym e)
            (subst (λ z. Among x (moves (exit_of m q) z (a ∷ rest))) (sym block.1) (inl refl))),
        refl,
      )

  station_by : (q : ℕ) (t : Bool) → is_in_block m q ≡ t → Station m sound q → is_kept m rows q ≡ true
  station_by q true e w = let x = first_move q (rows q) refl w.0 (both_of (is_in_block m q) (is_inner m q) e w.1) in kept_by x.0 q x.1 x.2
  station_by q false e w = or_left (not (is_in_block m q)) (list_any (λ y. y.state == q) (all_moves m rows)) (ap not e)

  pub station_kept : (q : ℕ) → Station m sound q → occurs q Keep ≡ true
  station_kept q w = kept q w.0 (station_by q (is_in_block m q) refl w)

  -- a state that is kept has a row, or is in no block
  abbrev pub Kind : ℕ → Type 0
  Kind q = (is_in_block m q ≡ false) ⊎ ((x : Move) × Among x (all_moves m rows) × (x.state ≡ q))

  kind_by : (q : ℕ) (b : Bool) → is_in_block m q ≡ b → (not b || list_any (λ y. y.state == q) (all_moves m rows)) ≡ true → Kind q
  kind_by q false e h = inl e
  kind_by q true e h = let w = some_of (λ (y : Move). y.state == q) (all_moves m rows) h in
      inr (w.0, w.1, (let f : w.0.state ≡ q = grind (arith, nat_tests, w.2) in f))

  pub record IsKept (q : ℕ) : Type 0 where
    pub within : q < length m.states
    pub kind : Kind q

  pub of_kept : (q : ℕ) → occurs q Keep ≡ true → IsKept q
  of_kept q h =
      let w = some_of (λ (y : ℕ). y == q) Keep h in
      let e : w.0 ≡ q = grind (arith, nat_tests, w.2) in
      let a : Among q Keep = subst (λ z. Among z Keep) e w.1 in
      let i : q < 0 + length m.states = range_within 0 (length m.states) q (was_among (is_kept m rows) q (all_states m) a) in
      record { within = omega (arith, i); kind = kind_by q (is_in_block m q) refl (passes_test (is_kept m rows) q (all_states m) a) }

  pub stays : (q : ℕ) → q < length m.states → is_in_block m q ≡ false → transitions_of (machine_with_rows m rows) q ≡ transitions_of m q
  stays q h e =
      lines_replaced m sound rows keeps q h
      ∙ not_found (all_moves m rows) q (transitions_of m q)
      (λ x w g. let u : is_in_block m q ≡ true = subst (λ z. is_in_block m z ≡ true) g (move_in_block m sound rows keeps x w) in absurd (cc (sym e ∙ u)))

  only_at : (x : Move) (ls : List (Transition ℕ ℕ)) (k : ℕ) (l : Transition ℕ ℕ) → ls ≡ move_transition x ∷ [] → slice_get ls k ≡ Some l → l.target ≡ x.target
  only_at x ls k l e f = only_there x k l (subst (λ z. slice_get z k ≡ Some l) e f)

  pub after_move : (x : Move) → Among x (all_moves m rows) → occurs x.target Keep ≡ true
  after_move x h =
      let w = joined_from (λ q. moves (exit_of m q) (basic_block_at m q) (rows q)) x (firsts m) h in
      let q : ℕ = w.0 in
      let f : is_first_of_block m q ≡ true = passes_test (is_first_of_block m) q (all_states m) w.1 in
      let j : q < 0 + length m.states = range_within 0 (length m.states) q (was_among (is_first_of_block m) q (all_states m) w.1) in
      let i : q < length m.states = omega (arith, j) in
      elim (leads_to (exit_of m q) (basic_block_at m q) (rows q) x w.2) as (λ _. occurs x.target Keep ≡ true) [
        | inl e ↦ subst (λ z. occurs z Keep ≡ true) (sym e)
            (station_kept (exit_of m q) (leaves_block m sound (length m.states) q i (first_in_block m q f) (sound.cut q i)))
        | inr y ↦ (let g : Among y.0 (all_moves m rows) = moves_of q i f y.0 y.1 in
            subst (λ z. occurs z Keep ≡ true) y.2 (kept y.0.state (move_in m sound rows keeps y.0 g) (kept_by y.0 y.0.state g refl)))
      ]

  leads_by : (q : ℕ) (l : Transition ℕ ℕ) (k : ℕ) → q < length m.states → Kind q → slice_get (transitions_of (machine_with_rows m rows) q) k ≡ Some l
      → occurs l.target Keep ≡ true
  leads_by q l k h (inl e) f =
      let g : slice_get (transitions_of m q) k ≡ Some l = subst (λ z. slice_get z k ≡ Some l) (stays q h e) f in
      station_kept l.target (
        (sound.transitions_sound q l k g).target_in,
        enters_from m sound q l.target e
            (has_source m q l.target h
            (in_leaves l.target (tree_of_transitions (transitions_of m q)) [] (some_block (transitions_of m q) k l (sound.open_last q h) g))),
      )
  leads_by q l k h (inr x) f =
      let d : Does (machine_with_rows m rows) x.0 = does m sound rows keeps x.0 x.1 in
      subst (λ z. occurs z Keep ≡ true)
      (sym
      (only_at x.0 (transitions_of (machine_with_rows m rows) q) k l
      (subst (λ z. transitions_of (machine_with_rows m rows) z ≡ move_transition x.0 ∷ []) x.2 d.0) f))
      (after_move x.0 x.1)

  open_by : (q : ℕ) → q < length m.states → Kind q → ends_open (transitions_of (machine_with_rows m rows) q) ≡ true
  open_by q h (inl e) = subst (λ z. ends_open z ≡ true) (sym (stays q h e)) (sound.open_last q h)
  open_by q h (inr x) =
      let d : Does (machine_with_rows m rows) x.0 = does m sound rows keeps x.0 x.1 in
      subst (λ z. ends_open z ≡ true) (sym (subst (λ z. transitions_of (machine_with_rows m rows) z ≡ move_transition x.0 ∷ []) x.2 d.0)) refl

  pub closed : IsClosedUnderTargets (machine_with_rows m rows) Keep
  closed = record {
    reset = station_kept m.reset (at_reset m sound rows keeps);
    leads = λ q l k h e. (let w = of_kept q h in leads_by q l k w.within w.kind e);
    goes_on = λ q h. (let w = of_kept q h in open_by q w.within w.kind);
  }

pub scheduled_behaves : (m : Fsmd) (rows : ℕ → List Item) → IsSound m → KeepsStores m rows → SameBehaviour m (scheduled_machine m rows)
scheduled_behaves m rows sound keeps =
    transitive m (machine_with_rows m rows) (scheduled_machine m rows) (replaced_behaves m sound rows keeps)
    (selected_behaves (machine_with_rows m rows) (kept_states m rows) (closed m sound rows keeps))
