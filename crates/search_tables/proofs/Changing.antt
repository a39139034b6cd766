-- What the move does that is next and changes a table.
use Rattle.std.proofs.Common.{◌≡◌, ℕ, suc, ◌+◌, ◌<◌, ◌≤◌, ◌⊎◌, inl, inr, refl, ap, subst, ◌∙◌, arith, Bool, true, false, cond, List, [], ◌∷◌, ◌++◌, length}
use Rattle.std.proofs.Common.{Some}
use Rattle.std.proofs.lemmas.Bool.Decides.{nat_tests}
use Rattle.std.specs.Prelude.{nat_lt, nat_le, slice_get}
use Rattle.fs_cut.specs.Paths.{Point}
use Rattle.fs_pair.specs.declared.positions.Position.{Position}
use Rattle.cert_bisimulation.specs.declared.mode.Mode.{Mode}
use Rattle.nf_terms.specs.Computed.{Computed, Done, Wide, Large}
use Rattle.nf_rel.specs.Literals.{is_refuted}
use Rattle.propagate.specs.Execution.{Post}
use Rattle.cert_model.specs.Facts.{Fact}
use Rattle.cert_model.specs.Entailment.{Missing, entails, is_nothing}
use Rattle.propagate.specs.Joins.{join}
use Rattle.propagate.specs.Rebases.{rebase}
use Rattle.propagate.specs.Modes.{Traced, Found, WideAt, LargeAt}
use Rattle.cert_model.specs.Lawful.{most_nodes}
use Rattle.search_tables.specs.declared.moves.Move.{Move}
use Rattle.search_tables.specs.declared.outcome.Budget.TheVariants.{Nodes, Units}
use Rattle.search_tables.specs.SearchTables.{MachinePair, SearchNode, Table, units, most_units, Target, Unknown, Known, node_target, with_fact, MoveEffect}
use Rattle.search_tables.specs.SearchTables.{Keeps, Changes, Meets, Exceeds, within_units, add_node, weaken_node, keep_or_join, look_up_target}
use Rattle.search_tables.specs.SearchTables.{effect_of_arrival, PathPair}
use Rattle.search_tables.specs.SearchTables.{effect}
use Rattle.search_tables.specs.Next.{mode_at, paths_in, move_by, Next, Nothing, Change, Stop, Excess, next_by, first_change_of, next_in, next_at, or_next}
use Rattle.search_tables.specs.Next.{next_from, next_move}

-- ---- which node and paths it is
pub record Does (m : MachinePair) (T U : Table) (ns : List SearchNode) : Type 0 where
  pub place : ℕ
  pub node : SearchNode
  pub is_in : slice_get ns place ≡ Some node
  pub mode : Mode
  pub number : ℕ
  pub paths : PathPair
  pub listed : slice_get (paths_in m node mode) number ≡ Some paths
  pub does : effect m T node paths ≡ Changes U

abbrev FirstDoes : MachinePair → Table → Table → SearchNode → List PathPair → Type 0
FirstDoes m T U n xs = (k : ℕ) × (x : PathPair) × (slice_get xs k ≡ Some x) × (effect m T n x ≡ Changes U)

module _ (m : MachinePair) (T U : Table) (y : Move) where
  first_does : (i : ℕ) (n : SearchNode) (xs : List PathPair) → first_change_of m T i n xs ≡ Change y U → FirstDoes m T U n xs
  first_does i n [] h = absurd (cc h)
  first_does i n (x ∷ xs) h = by_effect (effect m T n x) refl h (λ g. first_does i n xs g)
    where
      by_effect :
          (e : MoveEffect) → effect m T n x ≡ e → next_by (move_by i x) e (first_change_of m T i n xs) ≡ Change y U
          → (first_change_of m T i n xs ≡ Change y U → FirstDoes m T U n xs) → FirstDoes m T U n (x ∷ xs)
      by_effect Keeps q g again = let r = again g in (suc r.0, r.1, r.2, r.3)
      by_effect (Changes V) q g again = let v : V ≡ U = cc g in (0, x, refl, q ∙ ap Changes v)
      by_effect (Meets z) q g again = absurd (cc g)
      by_effect (Exceeds b) q g again = absurd (cc g)

  mode_does : (i : ℕ) (n : SearchNode) (ns : List SearchNode) (r : Traced Mode) → next_in m T i n r ≡ Change y U → Does m T U (n ∷ ns)
  mode_does i n ns (Found x) h =
      let r = first_does i n (paths_in m n x) h in
      record { place = 0; node = n; is_in = refl; mode = x; number = r.0; paths = r.1; listed = r.2; does = r.3 }
  mode_does i n ns (WideAt d k left right) h = absurd (cc h)
  mode_does i n ns (LargeAt d k units depth) h = absurd (cc h)

  from_does : (i : ℕ) (ns : List SearchNode) → next_from m T i ns ≡ Change y U → Does m T U ns
  from_does i [] h = absurd (cc h)
  from_does i (n ∷ ns) h = by_next (next_at m T i n) refl h (λ g. from_does (i + 1) ns g)
    where
      by_next : (a : Next) → next_at m T i n ≡ a → or_next a (next_from m T (i + 1) ns) ≡ Change y U → (next_from m T (i + 1) ns ≡ Change y U → Does m T U ns)
          → Does m T U (n ∷ ns)
      by_next Nothing q g again = let r = again g in record {
        place = suc r.place;
        node = r.node;
        is_in = r.is_in;
        mode = r.mode;
        number = r.number;
        paths = r.paths;
        listed = r.listed;
        does = r.does;
      }
      by_next (Change z V) q g again = mode_does i n ns (mode_at m n) (q ∙ g)
      by_next (Stop z e) q g again = absurd (cc g)
      by_next (Excess z b) q g again = absurd (cc g)

pub next_does : (m : MachinePair) (T U : Table) (y : Move) → next_move m T ≡ Change y U → Does m T U T
next_does m T U y h = from_does m T U y 0 T h

-- ---- what arriving there does
-- a new node goes last
pub record Adds (ps : List Position) (T U : Table) (P Q : Point) (post : Post) : Type 0 where
  pub target : node_target T P Q ≡ Unknown
  pub place_left : length T < most_nodes
  pub fact : Fact
  pub rebased : rebase post ps ≡ Done fact
  pub is : T ++ record { left = P; right = Q; fact = fact } ∷ [] ≡ U

-- a known node gets the joined fact
pub record Weakens (T U : Table) (P Q : Point) (post : Post) : Type 0 where
  pub number : ℕ
  pub node : SearchNode
  pub target : node_target T P Q ≡ Known number node
  pub missing : Missing
  pub compared_to : entails post node.fact ≡ Done missing
  pub something : is_nothing missing ≡ false
  pub fact : Fact
  pub joined : join node.fact post missing ≡ Done fact
  pub is : with_fact T number node fact ≡ U

pub record Arrives (ps : List Position) (T U : Table) (P Q : Point) (c : Computed Post) : Type 0 where
  pub post : Post
  pub arrives : c ≡ Done post
  pub is_open : is_refuted post.conditions ≡ false
  pub small : units U ≤ most_units
  pub changes : Adds ps T U P Q post ⊎ Weakens T U P Q post

-- a table within the budget
pub within : (T U : Table) → within_units T ≡ Changes U → (T ≡ U) × (units U ≤ most_units)
within T U h = by_test (nat_le (units T) most_units) refl h
  where
    by_test : (b : Bool) → nat_le (units T) most_units ≡ b → cond b (Changes T) (Exceeds Units) ≡ Changes U → (T ≡ U) × (units U ≤ most_units)
    by_test true e g =
        let s : T ≡ U = cc g in
        let le : units T ≤ most_units = grind (arith, nat_tests) in
        (s, subst (λ V. units V ≤ most_units) s le)
    by_test false e g = absurd (cc g)

module _ (ps : List Position) (T U : Table) (P Q : Point) where
  abbrev Changed : Post → Type 0
  Changed post = (units U ≤ most_units) × (Adds ps T U P Q post ⊎ Weakens T U P Q post)

  adds : (post : Post) (c : Computed Fact) → node_target T P Q ≡ Unknown → length T < most_nodes → rebase post ps ≡ c
      → add_node T P Q c ≡ Changes U → Changed post
  adds post (Done f) t lt q h =
      let w = within (T ++ record { left = P; right = Q; fact = f } ∷ []) U h in
      (w.1, inl (record { target = t; place_left = lt; fact = f; rebased = q; is = w.0 }))
  adds post (Wide l r) t lt q h = absurd (cc h)
  adds post (Large u d) t lt q h = absurd (cc h)

  weakens : (post : Post) (k : ℕ) (n : SearchNode) (x : Missing) (c : Computed Fact) → node_target T P Q ≡ Known k n → entails post n.fact ≡ Done x
      → is_nothing x ≡ false → join n.fact post x ≡ c → weaken_node T k n c ≡ Changes U → Changed post
  weakens post k n x (Done f) t e s q h =
      let w = within (with_fact T k n f) U h in
      (w.1, inr (record { number = k; node = n; target = t; missing = x; compared_to = e; something = s; fact = f; joined = q; is = w.0 }))
  weakens post k n x (Wide l r) t e s q h = absurd (cc h)
  weakens post k n x (Large u d) t e s q h = absurd (cc h)

  compares : (post : Post) (k : ℕ) (n : SearchNode) (c : Computed Missing) → node_target T P Q ≡ Known k n → entails post n.fact ≡ c
      → keep_or_join T k n post c ≡ Changes U → Changed post
  compares post k n (Done x) t e h = by_test (is_nothing x) refl h
    where
      by_test : (b : Bool) → is_nothing x ≡ b → cond b Keeps (weaken_node T k n (join n.fact post x)) ≡ Changes U → Changed post
      by_test true s g = absurd (cc g)
      by_test false s g = weakens post k n x (join n.fact post x) t e s refl g
  compares post k n (Wide l r) t e h = absurd (cc h)
  compares post k n (Large u d) t e h = absurd (cc h)

  looks : (post : Post) (g : Target) → node_target T P Q ≡ g → look_up_target ps T P Q post g ≡ Changes U → Changed post
  looks post Unknown t h = by_test (nat_lt (length T) most_nodes) refl h
    where
      by_test : (b : Bool) → nat_lt (length T) most_nodes ≡ b → cond b (add_node T P Q (rebase post ps)) (Exceeds Nodes) ≡ Changes U → Changed post
      by_test true e g = let lt : length T < most_nodes = grind (arith, nat_tests) in adds post (rebase post ps) t lt refl g
      by_test false e g = absurd (cc g)
  looks post (Known k n) t h = compares post k n (entails post n.fact) t refl h

  pub arrives_so : (c : Computed Post) → effect_of_arrival ps T P Q c ≡ Changes U → Arrives ps T U P Q c
  arrives_so (Done post) h = by_test (is_refuted post.conditions) refl h
    where
      by_test : (b : Bool) → is_refuted post.conditions ≡ b → cond b Keeps (look_up_target ps T P Q post (node_target T P Q)) ≡ Changes U
          → Arrives ps T U P Q (Done post)
      by_test true e g = absurd (cc g)
      by_test false e g = let r = looks post (node_target T P Q) refl g in record { post = post; arrives = refl; is_open = e; small = r.0; changes = r.1 }
  arrives_so (Wide l r) h = absurd (cc h)
  arrives_so (Large u d) h = absurd (cc h)
