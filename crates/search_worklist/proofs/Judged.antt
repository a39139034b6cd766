-- What trials tell of moves, and the step that is next.
use Rattle.std.proofs.Common.{◌≡◌, ℕ, suc, ◌+◌, ◌-◌, ◌<◌, ◌≤◌, refl, sym, ◌∙◌, ap, ap₂, subst, arith, Bool, true, false, cond, List, [], ◌∷◌, ◌++◌, length}
use Rattle.std.proofs.Common.{Some, None, Ok, Err}
use Rattle.std.proofs.lemmas.List.Sums.{sum_by-append, sum_by-cons, sum_by-set, get_or-le-sum_by}
use Rattle.std.proofs.lemmas.Option.{slice_get_within, get_or_from_slice_get}
use Rattle.std.proofs.lemmas.Bool.Decides.{nat_tests}
use Rattle.std.specs.Prelude.{nat_lt, nat_le, Option, Result, slice_get}
use Rattle.fs_cut.specs.Paths.{Point, Path}
use Rattle.fs_cut.specs.Covers.{paths_of}
use Rattle.fs_pair.specs.declared.positions.Position.{Position}
use Rattle.nf_terms.specs.Computed.{Computed, Done, Wide, Large, Answers}
use Rattle.nf_terms.specs.declared.stop.NfStop.{NfStop}
use Rattle.nf_terms.specs.declared.stop.NfStop.TheVariants as stop
use Rattle.fs_model.specs.declared.sides.Side.{Side}
use Rattle.nf_rel.specs.Literals.{is_refuted}
use Rattle.sym_paths.specs.Execution.{Post, end_of, arrive}
use Rattle.sym_facts.specs.Facts.{Fact, size_of_fact, vector_of}
use Rattle.sym_facts.specs.Entailment.{Missing, entails, is_nothing}
use Rattle.propagate.specs.Joins.{join}
use Rattle.propagate.specs.Rebases.{rebase}
use Rattle.propagate.specs.Modes.{WideAt, LargeAt}
use Rattle.propagate.specs.View.{IsStopAt}
use Rattle.cert_model.specs.Lawful.{most_nodes}
use Rattle.search_tables.specs.declared.moves.Move.{Move}
use Rattle.search_tables.specs.declared.outcome.Obstacle.{Obstacle}
use Rattle.search_tables.specs.declared.outcome.Obstacle.TheVariants as obstacle
use Rattle.search_tables.specs.declared.outcome.Budget.{Budget}
use Rattle.search_tables.specs.declared.outcome.Budget.TheVariants.{Nodes, Units}
use Rattle.search_tables.specs.SearchTables.{MachinePair, positions_of, SearchNode, Table, units, most_units, Unknown, Known, node_target, with_fact, WideEvent}
use Rattle.search_tables.specs.SearchTables.{arrival}
use Rattle.search_tables.specs.SearchTables.{LargeEvent, MoveEffect, Keeps, Changes, Meets, Exceeds, within_units, add_node, weaken_node, keep_or_join}
use Rattle.search_tables.specs.SearchTables.{look_up_target, effect_of_arrival, PathPair, effect}
use Rattle.search_tables.specs.Next.{mode_at, path_at, next_by, or_next, next_move}
use Rattle.search_tables.specs.Legal.{difference_in}
use Rattle.search_tables.proofs.Forming.{known_in}
use Rattle.search_waiting.specs.declared.item.Item.{Item}
use Rattle.search_places.specs.NodeRecords.{NodeRecord, node_with_fact, table_of}
use Rattle.search_waiting.specs.ItemOrder.{IsLeastWaiting}
use Rattle.search_worklist.specs.declared.trial.TableChange.{TableChange}
use Rattle.search_worklist.specs.declared.trial.Trial.{Trial}
use Rattle.search_worklist.specs.declared.trial.Trial.TheVariants as tried
use Rattle.search_worklist.specs.declared.turns.Step.TheVariants as step
use Rattle.search_worklist.specs.SearchEnds.{EndsSo}
use Rattle.search_places.specs.Moves.{path_in, paths_at}
use Rattle.search_worklist.specs.NodeUpdates.{put_by, put_fact, change_table}
use Rattle.search_worklist.specs.Trials.{GivesChange, GivesTrial, IsMet, TellsChange, TellsTrial, Tries, TriesAt}
use Rattle.search_worklist.specs.Turns.{IsNext, IsObstacleAt, IsMoveAt}
use Rattle.search_worklist.specs.Waiting.{IsWaiting}
use Rattle.search_places.proofs.Moved.{again}
use Rattle.search_worklist.proofs.Least.{Comes, mode_next, move_next}
use Rattle.search_worklist.proofs.Finished.{same_record}

-- ---- numbers of units
abbrev sum_within : (rest more : ℕ) → Option ℕ
sum_within rest more = cond (nat_le (rest + more) most_units) (Some (rest + more)) None

pub sum_taken : (rest more u : ℕ) (U : Table) → Some u ≡ sum_within rest more → rest + more ≡ units U → (within_units U ≡ Changes U) × (u ≡ units U)
sum_taken rest more u U e s = by_test (nat_le (rest + more) most_units) refl e
  where
    by_test : (b : Bool) → nat_le (rest + more) most_units ≡ b → Some u ≡ cond b (Some (rest + more)) None → (within_units U ≡ Changes U) × (u ≡ units U)
    by_test true t h =
        let same : nat_le (units U) most_units ≡ true = ap (λ n. nat_le n most_units) (sym s) ∙ t in
        let is : u ≡ rest + more = cc h in
        (ap (λ b. cond b (Changes U) (Exceeds Units)) same, is ∙ s)
    by_test false t h = absurd (cc h)

abbrev no_sum : Option ℕ
no_sum = None

pub sum_refused : (rest more : ℕ) (U : Table) → no_sum ≡ sum_within rest more → rest + more ≡ units U → within_units U ≡ Exceeds Units
sum_refused rest more U e s = by_test (nat_le (rest + more) most_units) refl e
  where
    by_test : (b : Bool) → nat_le (rest + more) most_units ≡ b → no_sum ≡ cond b (Some (rest + more)) None → within_units U ≡ Exceeds Units
    by_test true t h = absurd (cc h)
    by_test false t h =
        let same : nat_le (units U) most_units ≡ false = ap (λ n. nat_le n most_units) (sym s) ∙ t in
        ap (λ b. cond b (Changes U) (Exceeds Units)) same

units_added : (T : Table) (n : SearchNode) → units T + size_of_fact n.fact ≡ units (T ++ n ∷ [])
units_added T n =
    let a = sum_by-append (λ (k : SearchNode). size_of_fact k.fact) T (n ∷ []) in
    let b = sum_by-cons (λ (k : SearchNode). size_of_fact k.fact) n [] in
    omega (arith, a, b)

units_set : (T : Table) (k : ℕ) (n : SearchNode) (f : Fact) → slice_get T k ≡ Some n
    → units (with_fact T k n f) + size_of_fact n.fact ≡ units T + size_of_fact f
units_set T k n f g =
    let s = sum_by-set (λ (a : SearchNode). size_of_fact a.fact) T k (record { left = n.left; right = n.right; fact = f }) n (slice_get_within T k n g) in
    subst (λ (a : SearchNode). units (with_fact T k n f) + size_of_fact a.fact ≡ units T + size_of_fact f) (get_or_from_slice_get T k n n g) s

pub part_le : (T : Table) (k : ℕ) (n : SearchNode) → slice_get T k ≡ Some n → size_of_fact n.fact ≤ units T
part_le T k n g = subst (λ (a : SearchNode). size_of_fact a.fact ≤ units T) (get_or_from_slice_get T k n n g)
    (get_or-le-sum_by (λ (a : SearchNode). size_of_fact a.fact) T k n (slice_get_within T k n g))

-- ---- effects
module _ (ps : List Position) (T : Table) (P Q : Point) (post : Post) where
  abbrev pub effect_there : MoveEffect
  effect_there = look_up_target ps T P Q post (node_target T P Q)

  -- no node stands there
  module _ (absent : node_target T P Q ≡ Unknown) where
    put_last : (f : Fact) → put_fact T P Q f ≡ T ++ node_with_fact P Q f ∷ []
    put_last f = ap (put_by T P Q f) absent

    pub put_last_units : (f : Fact) (n : ℕ) → n ≡ units T → n + size_of_fact f ≡ units (put_fact T P Q f)
    put_last_units f n e = ap (λ k. k + size_of_fact f) e ∙ units_added T (node_with_fact P Q f) ∙ sym (ap units (put_last f))

    pub full : most_nodes ≤ length T → effect_there ≡ Exceeds Nodes
    full h =
        let test : nat_lt (length T) most_nodes ≡ false = grind (arith, nat_tests) in
        ap (look_up_target ps T P Q post) absent ∙ ap (λ b. cond b (add_node T P Q (rebase post ps)) (Exceeds Nodes)) test

    rebased : length T < most_nodes → (c : Computed Fact) → rebase post ps ≡ c → effect_there ≡ add_node T P Q c
    rebased h c e =
        let test : nat_lt (length T) most_nodes ≡ true = grind (arith, nat_tests) in
        ap (look_up_target ps T P Q post) absent ∙ ap (λ b. cond b (add_node T P Q (rebase post ps)) (Exceeds Nodes)) test ∙ ap (add_node T P Q) e

    pub rebase_stops : length T < most_nodes → (s : NfStop) → Answers (Err s) (rebase post ps) → IsMet s effect_there
    rebase_stops h (stop.Wide l r) e = rebased h (Wide l r) e
    rebase_stops h (stop.Large u d) e = rebased h (Large u d) e
    rebase_stops h stop.NoMemory e = tt

    pub rebase_gives : length T < most_nodes → (f : Fact) → rebase post ps ≡ Done f → within_units (put_fact T P Q f) ≡ effect_there
    rebase_gives h f e = ap within_units (put_last f) ∙ sym (rebased h (Done f) e)

  -- node k is the first that stands there
  module _ (k : ℕ) (n : SearchNode) (there : node_target T P Q ≡ Known k n) where
    pub stands_in : slice_get T k ≡ Some n
    stands_in =
        let j = known_in P Q 0 T k n there in
        let at : k ≡ j.0 = omega (arith, j.1) in
        ap (slice_get T) at ∙ j.2

    put_known : (f : Fact) → put_fact T P Q f ≡ with_fact T k n f
    put_known f = ap (put_by T P Q f) there

    pub put_known_units : (f : Fact) (u s : ℕ) → u ≡ units T → s ≡ size_of_fact n.fact → (u - s) + size_of_fact f ≡ units (put_fact T P Q f)
    put_known_units f u s e d =
        let a = units_set T k n f stands_in in
        let b = part_le T k n stands_in in
        let c : (u - s) + size_of_fact f ≡ units (with_fact T k n f) = omega (arith, a, b, e, d) in
        c ∙ sym (ap units (put_known f))

    compared_is : (c : Computed Missing) → entails post n.fact ≡ c → effect_there ≡ keep_or_join T k n post c
    compared_is c e = ap (look_up_target ps T P Q post) there ∙ ap (keep_or_join T k n post) e

    pub compare_stops : (s : NfStop) → Answers (Err s) (entails post n.fact) → IsMet s effect_there
    compare_stops (stop.Wide l r) e = compared_is (Wide l r) e
    compare_stops (stop.Large u d) e = compared_is (Large u d) e
    compare_stops stop.NoMemory e = tt

    module _ (x : Missing) (missing : entails post n.fact ≡ Done x) (something : is_nothing x ≡ false) where
      joined_is : (c : Computed Fact) → join n.fact post x ≡ c → effect_there ≡ weaken_node T k n c
      joined_is c e = compared_is (Done x) missing ∙ ap (λ b. cond b Keeps (weaken_node T k n (join n.fact post x))) something ∙ ap (weaken_node T k n) e

      pub join_stops : (s : NfStop) → Answers (Err s) (join n.fact post x) → IsMet s effect_there
      join_stops (stop.Wide l r) e = joined_is (Wide l r) e
      join_stops (stop.Large u d) e = joined_is (Large u d) e
      join_stops stop.NoMemory e = tt

      pub join_gives : (f : Fact) → join n.fact post x ≡ Done f → within_units (put_fact T P Q f) ≡ effect_there
      join_gives f e = ap within_units (put_known f) ∙ sym (joined_is (Done f) e)

-- a change that is given where this is the effect
pub gives_change : (T : Table) (P Q : Point) (post : Post) (e d : MoveEffect) (t : Trial) → d ≡ e → GivesChange T d t → GivesTrial T P Q post e t
gives_change T P Q post e d tried.Refuted s g = absurd g
gives_change T P Q post e d (tried.Entailed k) s g = absurd g
gives_change T P Q post e d (tried.Changes c) s g = (sym s ∙ g.0, g.1)
gives_change T P Q post e d (tried.Exceeds b) s g = sym s ∙ g

pub tells_change : (T : Table) (P Q : Point) (post : Post) (e : MoveEffect) (r : Result Trial NfStop) → TellsChange T e r → TellsTrial T P Q post e r
tells_change T P Q post e (Ok t) h = gives_change T P Q post e e t refl h
tells_change T P Q post e (Err s) h = h

-- what is told of a post that is not refuted
pub open_tries : (ps : List Position) (T : Table) (P Q : Point) (post : Post) (r : Result Trial NfStop) → is_refuted post.conditions ≡ false
    → TellsTrial T P Q post (effect_there ps T P Q post) r → TellsTrial T P Q post (effect_of_arrival ps T P Q (Done post)) r
open_tries ps T P Q post r o h = subst (λ e. TellsTrial T P Q post e r) (sym (ap (λ b. cond b Keeps (effect_there ps T P Q post)) o)) h

-- ---- moves
module _ (m : MachinePair) (T : Table) (n : SearchNode) (x : PathPair) where
  effect_is : (c : Computed Post) → arrival m n x ≡ c → effect m T n x ≡ effect_of_arrival (positions_of m) T (end_of n.left x.left) (end_of n.right x.right) c
  effect_is c e = ap (effect_of_arrival (positions_of m) T (end_of n.left x.left) (end_of n.right x.right)) e

  pub arrive_stops : (s : NfStop) → Answers (Err s) (arrival m n x) → Tries m T n x (Err s)
  arrive_stops (stop.Wide l r) e = effect_is (Wide l r) e
  arrive_stops (stop.Large u d) e = effect_is (Large u d) e
  arrive_stops stop.NoMemory e = tt

  abbrev arrived : Point → Point → Post → MoveEffect
  arrived P Q post = effect_of_arrival (positions_of m) T P Q (Done post)

  pub arrival_tries : (P Q : Point) (post : Post) (r : Result Trial NfStop) → arrival m n x ≡ Done post → P ≡ end_of n.left x.left
      → Q ≡ end_of n.right x.right → TellsTrial T P Q post (arrived P Q post) r → Tries m T n x r
  arrival_tries P Q post r e p q h =
      by_answer r
      (subst (λ A. TellsTrial T A (end_of n.right x.right) post (arrived A (end_of n.right x.right) post) r) p
      (subst (λ B. TellsTrial T P B post (arrived P B post) r) q h))
    where
      same : arrived (end_of n.left x.left) (end_of n.right x.right) post ≡ effect m T n x
      same = sym (effect_is (Done post) e)

      by_answer : (r : Result Trial NfStop) → TellsTrial T (end_of n.left x.left)
          (end_of n.right x.right) post (arrived (end_of n.left x.left) (end_of n.right x.right) post) r → Tries m T n x r
      by_answer (Ok t) h = (post, e, subst (λ d. GivesTrial T (end_of n.left x.left) (end_of n.right x.right) post d t) same h)
      by_answer (Err s) h = subst (IsMet s) same h

-- what arrives by the paths that were looked up
pub arrives_by : (m : MachinePair) (n : SearchNode) (at : Move) (l r : Option Path) (c : Computed Post) → l ≡ path_in (paths_of m.left n.left) at.left
    → r ≡ path_in (paths_of m.right n.right) at.right → arrive m.left m.right n.fact.literals (vector_of n.fact.positions) l r ≡ c
    → arrival m n (paths_at m n at) ≡ c
arrives_by m n at l r c e d h = sym (ap₂ (arrive m.left m.right n.fact.literals (vector_of n.fact.positions)) e d) ∙ h

-- ---- steps
-- a move that comes first, with what was told of it
pub record IsFirst (m : MachinePair) (ls : List NodeRecord) (at : Move) (r : Result Trial NfStop) : Type 0 where
  pub node : SearchNode
  pub paths : PathPair
  pub comes : Comes m (table_of ls) (λ rest. next_by at (effect m (table_of ls) node paths) rest)
  pub tries : Tries m (table_of ls) node paths r

pub is_first : (m : MachinePair) (ls : List NodeRecord) (waits : Item → Bool) (y : Item) (at : Move) (r : Result Trial NfStop) → IsWaiting m ls waits
    → IsLeastWaiting waits y.node y.place → (t : IsMoveAt ls y at) → TriesAt m ls at r → IsFirst m ls at r
is_first m ls waits y at r w least t a =
    let low : IsLeastWaiting waits y.node (suc t.number) = subst (λ p. IsLeastWaiting waits y.node p) t.place least in
    let c = move_next m ls waits w y.node t.number t.node_record t.moves at low t.is_in t.known t.listed in
    let found = again m y.node t.node_record.node c.mode t.number c.paths c.listed in
    let paths : paths_at m t.node_record.node at ≡ c.paths = ap (paths_at m t.node_record.node) (sym c.is) ∙ found in
    record { node = t.node_record.node; paths = c.paths; comes = c.comes; tries = same_record m ls y at r t.node_record c.paths a t.is_in c.is paths }

module _ (m : MachinePair) (T : Table) (at : Move) (e : MoveEffect) (c : Comes m T (λ rest. next_by at e rest)) where
  comes_so : (d : MoveEffect) → e ≡ d → next_move m T ≡ or_next (next_by at d c.rest) c.after
  comes_so d h = c.is ∙ ap (λ z. or_next (next_by at z c.rest) c.after) h

  pub obstacle_next : difference_in m T ≡ None → (s : NfStop) (x : Obstacle) → IsObstacleAt at s x → IsMet s e → IsNext m T (step.Stops x)
  obstacle_next f (stop.Wide l r) x i h = subst (λ o. EndsSo m T (Some o)) (sym i) (f, l, r, comes_so (Meets (WideEvent l r)) h)
  obstacle_next f (stop.Large u d) x i h = subst (λ o. EndsSo m T (Some o)) (sym i) (f, u, d, comes_so (Meets (LargeEvent u d)) h)
  obstacle_next f stop.NoMemory x i h = absurd i

pub change_next : (m : MachinePair) (ls : List NodeRecord) (at : Move) (c : TableChange) → IsFirst m ls at (Ok (tried.Changes c))
    → IsNext m (table_of ls) (step.Changes at c)
change_next m ls at c f = (
  comes_so m (table_of ls) at (effect m (table_of ls) f.node f.paths) f.comes (Changes (change_table (table_of ls) c)) f.tries.2.0,
  f.tries.2.1,
)

pub excess_next : (m : MachinePair) (ls : List NodeRecord) (at : Move) (b : Budget) → difference_in m (table_of ls) ≡ None
    → IsFirst m ls at (Ok (tried.Exceeds b))
    → IsNext m (table_of ls) (step.Stops (obstacle.Exhausted at b))
excess_next m ls at b s f = (s, comes_so m (table_of ls) at (effect m (table_of ls) f.node f.paths) f.comes (Exceeds b) f.tries.2)

pub stop_next : (m : MachinePair) (ls : List NodeRecord) (at : Move) (s : NfStop) (x : Obstacle) → difference_in m (table_of ls) ≡ None
    → IsFirst m ls at (Err s)
    → IsObstacleAt at s x
    → IsNext m (table_of ls) (step.Stops x)
stop_next m ls at s x h f i = obstacle_next m (table_of ls) at (effect m (table_of ls) f.node f.paths) f.comes h s x i f.tries

-- the event of a mode is next
pub mode_stops : (m : MachinePair) (ls : List NodeRecord) (waits : Item → Bool) (i : ℕ) (l : NodeRecord) (s : NfStop) (d : Side) (k : ℕ) (x : Obstacle)
    → IsWaiting m ls waits
    → IsLeastWaiting waits i 0 → slice_get ls i ≡ Some l → difference_in m (table_of ls) ≡ None
    → IsStopAt s d k (mode_at m l.node) → IsObstacleAt (path_at i d k) s x → IsNext m (table_of ls) (step.Stops x)
mode_stops m ls waits i l (stop.Wide a b) d k x w least g f h e =
    let c = mode_next m ls waits w i l (WideAt d k a b) least g h in
    subst (λ o. EndsSo m (table_of ls) (Some o)) (sym e) (f, a, b, c.is)
mode_stops m ls waits i l (stop.Large a b) d k x w least g f h e =
    let c = mode_next m ls waits w i l (LargeAt d k a b) least g h in
    subst (λ o. EndsSo m (table_of ls) (Some o)) (sym e) (f, a, b, c.is)
mode_stops m ls waits i l stop.NoMemory d k x w least g f h e = absurd e
