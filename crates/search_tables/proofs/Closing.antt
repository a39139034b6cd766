-- Where nothing is next, each move is refuted or arrives at a node whose fact is entailed.
use Rattle.std.proofs.Common.{◌≡◌, ℕ, zero, suc, ◌+◌, ◌⊎◌, inl, inr, refl, subst, arith, Bool, true, false, cond, List, [], ◌∷◌, ◌++◌, Some}
use Rattle.std.specs.Prelude.{slice_get}
use Rattle.std.specs.List.{AllByRecursion}
use Rattle.fs_cut.specs.Paths.{Point}
use Rattle.fs_pair.specs.declared.positions.Position.{Position}
use Rattle.cert_bisimulation.specs.declared.mode.Mode.{Mode}
use Rattle.nf_terms.specs.Computed.{Computed, Done, Wide, Large}
use Rattle.nf_rel.specs.Literals.{is_refuted}
use Rattle.propagate.specs.Execution.{Post}
use Rattle.cert_model.specs.Facts.{Fact}
use Rattle.cert_model.specs.Entailment.{Missing, entails, is_nothing}
use Rattle.propagate.specs.Joins.{join}
use Rattle.propagate.specs.Rebases.{rebase}
use Rattle.propagate.specs.Modes.{Traced, Found, WideAt, LargeAt}
use Rattle.search_tables.specs.declared.moves.Move.{Move}
use Rattle.search_tables.specs.declared.outcome.Budget.TheVariants.{Nodes, Units}
use Rattle.search_tables.specs.SearchTables.{MachinePair, SearchNode, Table, Target, Unknown, Known, node_target, with_fact, MoveEffect, Keeps, Changes, Meets}
use Rattle.search_tables.specs.SearchTables.{Exceeds, within_units, add_node, weaken_node, keep_or_join, look_up_target, effect_of_arrival, PathPair, effect}
use Rattle.search_tables.specs.Next.{mode_at, paths_in, move_by, Next, Nothing, Change, Stop, Excess, next_by, first_change_of, next_in, next_at, or_next}
use Rattle.search_tables.specs.Next.{next_from, next_move}

both_nothing : (a b : Next) → or_next a b ≡ Nothing → (a ≡ Nothing) × (b ≡ Nothing)
both_nothing Nothing b e = (refl, e)
both_nothing (Change x U) b e = absurd (cc e)
both_nothing (Stop x s) b e = absurd (cc e)
both_nothing (Excess x g) b e = absurd (cc e)

nothing_at : (m : MachinePair) (T : Table) (ns : List SearchNode) (i k : ℕ) (n : SearchNode) → next_from m T i ns ≡ Nothing → slice_get ns k ≡ Some n
    → next_at m T (i + k) n ≡ Nothing
nothing_at m T [] i k n e g = absurd (cc g)
nothing_at m T (a ∷ ns) i zero n e g =
    let same : a ≡ n = cc g in
    let here = (both_nothing (next_at m T i a) (next_from m T (i + 1) ns) e).0 in
    let at : i ≡ i + 0 = omega arith in
    subst (λ j. next_at m T j n ≡ Nothing) at (subst (λ b. next_at m T i b ≡ Nothing) same here)
nothing_at m T (a ∷ ns) i (suc k) n e g =
    let at : (i + 1) + k ≡ i + suc k = omega arith in
    subst (λ j. next_at m T j n ≡ Nothing) at (nothing_at m T ns (i + 1) k n (both_nothing (next_at m T i a) (next_from m T (i + 1) ns) e).1 g)

-- a node's mode is found, and its moves keep the table
pub record IsQuiet (m : MachinePair) (T : Table) (n : SearchNode) : Type 0 where
  pub mode : Mode
  pub found : mode_at m n ≡ Found mode
  pub keep : AllByRecursion (λ x. effect m T n x ≡ Keeps) (paths_in m n mode)

keep_both : (x : Move) (e : MoveEffect) (later : Next) → next_by x e later ≡ Nothing → (e ≡ Keeps) × (later ≡ Nothing)
keep_both x Keeps later h = (refl, h)
keep_both x (Changes U) later h = absurd (cc h)
keep_both x (Meets s) later h = absurd (cc h)
keep_both x (Exceeds b) later h = absurd (cc h)

all_keep : (m : MachinePair) (T : Table) (i : ℕ) (n : SearchNode) (xs : List PathPair) → first_change_of m T i n xs ≡ Nothing
    → AllByRecursion (λ x. effect m T n x ≡ Keeps) xs
all_keep m T i n [] h = tt
all_keep m T i n (x ∷ xs) h = let b = keep_both (move_by i x) (effect m T n x) (first_change_of m T i n xs) h in (b.0, all_keep m T i n xs b.1)

quiet_by : (m : MachinePair) (T : Table) (i : ℕ) (n : SearchNode) (r : Traced Mode) → mode_at m n ≡ r → next_in m T i n r ≡ Nothing → IsQuiet m T n
quiet_by m T i n (Found x) q h = record { mode = x; found = q; keep = all_keep m T i n (paths_in m n x) h }
quiet_by m T i n (WideAt d k left right) q h = absurd (cc h)
quiet_by m T i n (LargeAt d k units depth) q h = absurd (cc h)

pub quiet : (m : MachinePair) (T : Table) (k : ℕ) (n : SearchNode) → next_move m T ≡ Nothing → slice_get T k ≡ Some n → IsQuiet m T n
quiet m T k n e g = quiet_by m T (0 + k) n (mode_at m n) refl (nothing_at m T T 0 k n e g)

-- a node at these points, whose fact is entailed
pub record Into (T : Table) (P Q : Point) (post : Post) : Type 0 where
  pub is_open : is_refuted post.conditions ≡ false
  pub number : ℕ
  pub node : SearchNode
  pub target : node_target T P Q ≡ Known number node
  pub missing : Missing
  pub compared_to : entails post node.fact ≡ Done missing
  pub entailed : is_nothing missing ≡ true

pub record Arrival (T : Table) (P Q : Point) (c : Computed Post) : Type 0 where
  pub post : Post
  pub arrives : c ≡ Done post
  pub holds : (is_refuted post.conditions ≡ true) ⊎ Into T P Q post

not_within : (T : Table) → within_units T ≡ Keeps → ⊥
not_within T h = by_test _ h
  where
    by_test : (b : Bool) → cond b (Changes T) (Exceeds Units) ≡ Keeps → ⊥
    by_test true h = cc h
    by_test false h = cc h

not_added : (T : Table) (P Q : Point) (c : Computed Fact) → add_node T P Q c ≡ Keeps → ⊥
not_added T P Q (Done f) h = not_within (T ++ record { left = P; right = Q; fact = f } ∷ []) h
not_added T P Q (Wide l r) h = cc h
not_added T P Q (Large u d) h = cc h

not_weakened : (T : Table) (k : ℕ) (n : SearchNode) (c : Computed Fact) → weaken_node T k n c ≡ Keeps → ⊥
not_weakened T k n (Done f) h = not_within (with_fact T k n f) h
not_weakened T k n (Wide l r) h = cc h
not_weakened T k n (Large u d) h = cc h

not_new : (T : Table) (P Q : Point) (c : Computed Fact) (b : Bool) → cond b (add_node T P Q c) (Exceeds Nodes) ≡ Keeps → ⊥
not_new T P Q c true h = not_added T P Q c h
not_new T P Q c false h = cc h

is_entailed : (T : Table) (k : ℕ) (n : SearchNode) (c : Computed Fact) (b : Bool) → cond b Keeps (weaken_node T k n c) ≡ Keeps → b ≡ true
is_entailed T k n c true h = refl
is_entailed T k n c false h = absurd (not_weakened T k n c h)

kept_compared : (T : Table) (P Q : Point) (k : ℕ) (n : SearchNode) (post : Post) (c : Computed Missing) → is_refuted post.conditions ≡ false
    → node_target T P Q ≡ Known k n → entails post n.fact ≡ c → keep_or_join T k n post c ≡ Keeps → Into T P Q post
kept_compared T P Q k n post (Done x) o t c h = record {
  is_open = o;
  number = k;
  node = n;
  target = t;
  missing = x;
  compared_to = c;
  entailed = is_entailed T k n (join n.fact post x) (is_nothing x) h;
}
kept_compared T P Q k n post (Wide l r) o t c h = absurd (cc h)
kept_compared T P Q k n post (Large u d) o t c h = absurd (cc h)

kept_target : (ps : List Position) (T : Table) (P Q : Point) (post : Post) (g : Target) → is_refuted post.conditions ≡ false → node_target T P Q ≡ g
    → look_up_target ps T P Q post g ≡ Keeps → Into T P Q post
kept_target ps T P Q post Unknown o t h = absurd (not_new T P Q (rebase post ps) _ h)
kept_target ps T P Q post (Known k n) o t h = kept_compared T P Q k n post (entails post n.fact) o t refl h

kept_post : (ps : List Position) (T : Table) (P Q : Point) (post : Post) (b : Bool) → is_refuted post.conditions ≡ b
    → cond b Keeps (look_up_target ps T P Q post (node_target T P Q)) ≡ Keeps → (is_refuted post.conditions ≡ true) ⊎ Into T P Q post
kept_post ps T P Q post true q h = inl q
kept_post ps T P Q post false q h = inr (kept_target ps T P Q post (node_target T P Q) q refl h)

-- what arrives and keeps the table is refuted, or arrives at a node whose fact is entailed
pub kept : (ps : List Position) (T : Table) (P Q : Point) (c : Computed Post) → effect_of_arrival ps T P Q c ≡ Keeps → Arrival T P Q c
kept ps T P Q (Done post) h = record { post = post; arrives = refl; holds = kept_post ps T P Q post (is_refuted post.conditions) refl h }
kept ps T P Q (Wide l r) h = absurd (cc h)
kept ps T P Q (Large u d) h = absurd (cc h)
