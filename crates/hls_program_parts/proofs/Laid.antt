-- Where the states of a block stand in a machine, and how a run goes through them.
use Rattle.std.proofs.Common.{◌≡◌, ℕ, zero, suc, ◌+◌, ◌≤◌, List, [], ◌∷◌, ap, sym, refl, ◌∙◌, subst, arith, Some, Bool, true, false}
use Rattle.std.specs.Prelude.{◌≢◌}
use Rattle.fs_model.specs.Expressions.{Guard, Assignment, Transition}
use Rattle.fs_model.specs.Machines.{Fsmd, transitions_of}
use Rattle.fs_model.specs.Stores.{Store}
use Rattle.fs_model.specs.Meaning.{holds, act, act_all, transition_taken}
use Rattle.fs_model.specs.Runs.{ReachesReset}
use Rattle.hls_program_parts.specs.Programs.{Block, End, Do, If, While}
use Rattle.hls_program_parts.specs.ProgramMeaning.{Does, nothing, assigns, takes_yes, takes_no, stops, repeats}
use Rattle.hls_program_parts.specs.Compiled.{count, first, always, where_holds}

module _ (m : Fsmd) (at : ℕ → ℕ) where
  -- a state that isn't the reset state, with these transitions
  pub record Stands (n : ℕ) (ls : List (Transition ℕ ℕ)) : Type 0 where
    pub inner : at n ≢ m.reset
    pub has : transitions_of m (at n) ≡ ls

  -- the states of a block of which n is the first number and k is what follows its end
  abbrev pub Laid : Block ℕ → (n k : ℕ) → Type 0
  Laid End n k = Unit {0}
  Laid (Do line a rest) n k = Stands n (always (at (first rest (suc n) k)) (a ∷ []) ∷ []) × Laid rest (suc n) k
  Laid (If line g on_yes on_no rest) n k =
      let other = suc n + count on_yes in
      let after = other + count on_no in
      let next = first rest after k in
      Stands n (where_holds g (at (first on_yes (suc n) next)) ∷ always (at (first on_no other next)) [] ∷ [])
      × Laid on_yes (suc n) next × Laid on_no other next × Laid rest after k
  Laid (While line g body rest) n k =
      let after = suc n + count body in
      Stands n (where_holds g (at (first body (suc n) n)) ∷ always (at (first rest after k)) [] ∷ []) × Laid body (suc n) n × Laid rest after k

  -- a run from a place
  pub record From (q : ℕ) (s e : Store) : Type 0 where
    pub steps : ℕ
    pub returns : ReachesReset m steps q s e

  -- a step by the transition taken, in front of a run
  by_step : (n : ℕ) (ls : List (Transition ℕ ℕ)) (l : Transition ℕ ℕ) (s e : Store) → Stands n ls → transition_taken ls s ≡ Some l
      → From l.target (act_all l.assignments s s) e → From (at n) s e
  by_step n ls l s e h taken f = record {
    steps = suc f.steps;
    returns = (
      h.inner,
      record {
        state = l.target;
        store = act_all l.assignments s s;
        step = record { transition = l; taken = ap (λ (k : List (Transition ℕ ℕ)). transition_taken k s) h.has ∙ taken; target = refl; store = refl };
        after = f.returns;
      },
    );
  }

  pub up : {b : Block ℕ} {s t : Store} → Does b s t → (n k : ℕ) → Laid b n k → (e : Store) → From (at k) t e → From (at (first b n k)) s e
  up (nothing s) n k h e f = f
  up (assigns line a d) n k h e f = by_step n _ _ _ e h.0 refl (up d (suc n) k h.1 e f)
  up (takes_yes line g t d c) n k h e f = by_step n _ (where_holds g _) _ e h.0 (rw t refl) (up d _ _ h.1 e (up c _ k h.3 e f))
  up (takes_no line g t d c) n k h e f = by_step n _ (always _ []) _ e h.0 (rw t refl) (up d _ _ h.2 e (up c _ k h.3 e f))
  up (stops line g t c) n k h e f = by_step n _ (always _ []) _ e h.0 (rw t refl) (up c _ k h.2 e f)
  up (repeats line g t d c) n k h e f = by_step n _ (where_holds g _) _ e h.0 (rw t refl) (up d _ n h.1 e (up c n k h e f))

  -- a block is done by a run from its first place, and so many steps are left from what follows its end
  pub record Done (b : Block ℕ) (k : ℕ) (s e : Store) (most : ℕ) : Type 0 where
    pub store : Store
    pub does : Does b s store
    pub left : ℕ
    pub few : left ≤ most
    pub returns : ReachesReset m left (at k) store e

  -- what is left of a run of c steps after the step by the transition taken
  record Next (l : Transition ℕ ℕ) (s e : Store) (c : ℕ) : Type 0 where
    left : ℕ
    fewer : suc left ≤ c
    returns : ReachesReset m left l.target (act_all l.assignments s s) e

  next_of : (n : ℕ) (ls : List (Transition ℕ ℕ)) (l : Transition ℕ ℕ) (s e : Store) (c : ℕ) → Stands n ls → transition_taken ls s ≡ Some l
      → ReachesReset m c (at n) s e → Next l s e c
  next_of n ls l s e zero h taken r = absurd (h.inner r.0)
  next_of n ls l s e (suc c) h taken r =
      let w = r.1 in
      let same : w.step.transition ≡ l = cc (sym w.step.taken ∙ ap (λ (k : List (Transition ℕ ℕ)). transition_taken k s) h.has ∙ taken) in
      let to : w.state ≡ l.target = w.step.target ∙ ap (λ (k : Transition ℕ ℕ). k.target) same in
      let by : w.store ≡ act_all l.assignments s s = w.step.store ∙ ap (λ (k : Transition ℕ ℕ). act_all k.assignments s s) same in
      record {
        left = c;
        fewer = omega arith;
        returns = subst (λ (u : Store). ReachesReset m c l.target u e) by (subst (λ (q : ℕ). ReachesReset m c q w.store e) to w.after);
      }

  none_left : (n : ℕ) (ls : List (Transition ℕ ℕ)) (s e : Store) (c : ℕ) → Stands n ls → c ≤ 0 → ReachesReset m c (at n) s e → ⊥
  none_left n ls s e zero h few r = h.inner r.0
  none_left n ls s e (suc c) h few r = omega (arith, few)

  -- runs of at most so many steps can be taken apart
  abbrev Downs : ℕ → Type 0
  Downs most = (b : Block ℕ) (n k : ℕ) → Laid b n k → (s e : Store) (c : ℕ) → c ≤ most → ReachesReset m c (at (first b n k)) s e → Done b k s e c

  do_down : (line : ℕ) (a : Assignment ℕ) (rest : Block ℕ) (n k most : ℕ) → Downs most → Laid (Do line a rest) n k → (s e : Store) (c : ℕ) → c ≤ suc most
      → ReachesReset m c (at n) s e → Done (Do line a rest) k s e c
  do_down line a rest n k most ih h s e c few r =
      let x = next_of n _ (always _ (a ∷ [])) s e c h.0 refl r in
      let z = ih rest (suc n) k h.1 (act a s s) e x.left (omega (arith, few, x.fewer)) x.returns in
      record { store = z.store; does = assigns line a z.does; left = z.left; few = omega (arith, z.few, x.fewer); returns = z.returns }

  if_down : (line : ℕ) (g : Guard ℕ) (y f rest : Block ℕ) (n k most : ℕ) → Downs most → Laid (If line g y f rest) n k → (s e : Store) (c : ℕ) → c ≤ suc most
      → ReachesReset m c (at n) s e → (t : Bool) → holds g s ≡ t → Done (If line g y f rest) k s e c
  if_down line g y f rest n k most ih h s e c few r true t =
      let x = next_of n _ (where_holds g _) s e c h.0 (rw t refl) r in
      let d = ih y _ _ h.1 s e x.left (omega (arith, few, x.fewer)) x.returns in
      let z = ih rest _ k h.3 d.store e d.left (omega (arith, few, x.fewer, d.few)) d.returns in
      record { store = z.store; does = takes_yes line g t d.does z.does; left = z.left; few = omega (arith, z.few, d.few, x.fewer); returns = z.returns }
  if_down line g y f rest n k most ih h s e c few r false t =
      let x = next_of n _ (always _ []) s e c h.0 (rw t refl) r in
      let d = ih f _ _ h.2 s e x.left (omega (arith, few, x.fewer)) x.returns in
      let z = ih rest _ k h.3 d.store e d.left (omega (arith, few, x.fewer, d.few)) d.returns in
      record { store = z.store; does = takes_no line g t d.does z.does; left = z.left; few = omega (arith, z.few, d.few, x.fewer); returns = z.returns }

  while_down : (line : ℕ) (g : Guard ℕ) (body rest : Block ℕ) (n k most : ℕ) → Downs most → Laid (While line g body rest) n k → (s e : Store) (c : ℕ)
      → c ≤ suc most → ReachesReset m c (at n) s e → (t : Bool) → holds g s ≡ t → Done (While line g body rest) k s e c
  while_down line g body rest n k most ih h s e c few r true t =
      let x = next_of n _ (where_holds g _) s e c h.0 (rw t refl) r in
      let d = ih body _ n h.1 s e x.left (omega (arith, few, x.fewer)) x.returns in
      let z = ih (While line g body rest) n k h d.store e d.left (omega (arith, few, x.fewer, d.few)) d.returns in
      record { store = z.store; does = repeats line g t d.does z.does; left = z.left; few = omega (arith, z.few, d.few, x.fewer); returns = z.returns }
  while_down line g body rest n k most ih h s e c few r false t =
      let x = next_of n _ (always _ []) s e c h.0 (rw t refl) r in
      let z = ih rest _ k h.2 s e x.left (omega (arith, few, x.fewer)) x.returns in
      record { store = z.store; does = stops line g t z.does; left = z.left; few = omega (arith, z.few, x.fewer); returns = z.returns }

  pub down : (most : ℕ) → Downs most
  down zero End n k h s e c few r = record { store = s; does = nothing s; left = c; few = omega arith; returns = r }
  down zero (Do line a rest) n k h s e c few r = absurd (none_left n _ s e c h.0 few r)
  down zero (If line g y f rest) n k h s e c few r = absurd (none_left n _ s e c h.0 few r)
  down zero (While line g body rest) n k h s e c few r = absurd (none_left n _ s e c h.0 few r)
  down (suc most) End n k h s e c few r = record { store = s; does = nothing s; left = c; few = omega arith; returns = r }
  down (suc most) (Do line a rest) n k h s e c few r = do_down line a rest n k most (down most) h s e c few r
  down (suc most) (If line g y f rest) n k h s e c few r = if_down line g y f rest n k most (down most) h s e c few r (holds g s) refl
  down (suc most) (While line g body rest) n k h s e c few r = while_down line g body rest n k most (down most) h s e c few r (holds g s) refl
