-- Moves of one machine alone lead to nodes of the table, from which that machine moves alone too.
use Rattle.std.proofs.Common.{◌≡◌, ℕ, zero, suc, ◌+◌, ◌<◌, ◌≤◌, refl, sym, ◌∙◌, ap, subst, arith, Bool, true, false, cond, List, [], ◌∷◌, ◌++◌, append_assoc}
use Rattle.std.proofs.Common.{length, length-append, map, drop, Option, None, Some, Vec, Global}
use Rattle.std.specs.Prelude.{slice_get, Result, Ok, Err, IfOk}
use Rattle.std.specs.List.{AllByRecursion, slice_index_or}
use Rattle.std.proofs.lemmas.List.{map-append}
use Rattle.std.proofs.lemmas.Option.{slice_get_within}
use Rattle.fs_model.proofs.Quantifiers.{each_append, each_at}
use Rattle.fs_model.proofs.Lists.{drop_next}
use Rattle.fs_model.specs.Limits.{most_branches}
use Rattle.fs_cut.specs.Paths.{Point}
use Rattle.cert_bisimulation.specs.declared.mode.Mode.{Mode}
use Rattle.cert_bisimulation.specs.declared.mode.Mode.TheVariants.{Both, Left, Right, End}
use Rattle.nf_trees.specs.declared.stop.NoMemory.{NoMemory}
use Rattle.nf_terms.specs.Computed.{Computed, Done, Wide, Large}
use Rattle.nf_rel.specs.Literals.{is_refuted}
use Rattle.sym_paths.specs.Execution.{Post, end_of}
use Rattle.search_tables.specs.Modes.{Traced, Found, WideAt, LargeAt}
use Rattle.cert_model.specs.Obligations.{same_alone}
use Rattle.search_tables.specs.Walks.{InRange, lists_in}
use Rattle.search_tables.specs.declared.nodes.SearchNode.{SearchNode as CodeNode}
use Rattle.search_tables.specs.View.{table_in, search_node_in}
use Rattle.search_tables.specs.SearchTables.{MachinePair, SearchNode, Table, Target, Unknown, Known, node_target, Keeps, PathPair, effect, arrival}
use Rattle.search_tables.specs.Next.{mode_at, paths_in}
use Rattle.search_tables.specs.LoneMoves.{moves_alone, if_alone, lone_target, lone_targets, lone_in, lone_from, lone_moves}
use Rattle.search_tables.proofs.Forming.{known_in}
use Rattle.search_closing.specs.LoneSideMoves.{Keep, AreShort, lone_move_target}
use Rattle.search_closing.specs.View.{as_list}

-- node j is there, and moves in a mode in which one machine moves alone
pub record IsLone (m : MachinePair) (T : Table) (x : Mode) (j : ℕ) : Type 0 where
  pub node : SearchNode
  pub is_in : slice_get T j ≡ Some node
  pub mode : mode_at m node ≡ Found x
  pub alone : same_alone x x ≡ true

same_mode : (x y : Mode) → same_alone x y ≡ true → (y ≡ x) × (same_alone x x ≡ true)
same_mode Left Left h = (refl, refl)
same_mode Right Right h = (refl, refl)
same_mode Left Both h = absurd (cc h)
same_mode Left Right h = absurd (cc h)
same_mode Left End h = absurd (cc h)
same_mode Right Both h = absurd (cc h)
same_mode Right Left h = absurd (cc h)
same_mode Right End h = absurd (cc h)
same_mode Both y h = absurd (cc h)
same_mode End y h = absurd (cc h)

module _ (m : MachinePair) (T : Table) (x : Mode) where
  abbrev AreLone : List ℕ → Type 0
  AreLone js = AllByRecursion (IsLone m T x) js

  by_test : (k : ℕ) (n : SearchNode) (y : Mode) (b : Bool) → slice_get T k ≡ Some n → mode_at m n ≡ Found y → same_alone x y ≡ b → AreLone (cond b (k ∷ []) [])
  by_test k n y true g e h = let s = same_mode x y h in (record { node = n; is_in = g; mode = subst (λ z. mode_at m n ≡ Found z) s.0 e; alone = s.1 }, tt)
  by_test k n y false g e h = tt

  by_mode : (k : ℕ) (n : SearchNode) (r : Traced Mode) → slice_get T k ≡ Some n → mode_at m n ≡ r → AreLone (cond (moves_alone x r) (k ∷ []) [])
  by_mode k n (Found y) g e = by_test k n y (same_alone x y) g e refl
  by_mode k n (WideAt d b l r) g e = tt
  by_mode k n (LargeAt d b u h) g e = tt

  by_target : (P Q : Point) (t : Target) → node_target T P Q ≡ t → AreLone (if_alone m x t)
  by_target P Q Unknown e = tt
  by_target P Q (Known k n) e =
      let s = known_in P Q 0 T k n e in
      let at : s.0 ≡ k = omega (arith, s.1) in
      by_mode k n (mode_at m n) (subst (λ j. slice_get T j ≡ Some n) at s.2) refl

  if_open : (b : Bool) (js : List ℕ) → AreLone js → AreLone (cond b [] js)
  if_open true js h = tt
  if_open false js h = h

  by_post : (P Q : Point) (c : Computed Post) → AreLone (lone_target m T x P Q c)
  by_post P Q (Done post) = if_open (is_refuted post.conditions) (if_alone m x (node_target T P Q)) (by_target P Q (node_target T P Q) refl)
  by_post P Q (Wide l r) = tt
  by_post P Q (Large u d) = tt

  all_lone : (n : SearchNode) (ys : List PathPair) → AreLone (lone_targets m T n x ys)
  all_lone n [] = tt
  all_lone n (y ∷ ys) = each_append (IsLone m T x) _ _ (by_post (end_of n.left y.left) (end_of n.right y.right) (arrival m n y)) (all_lone n ys)

-- an edge joins two nodes from which the same machine moves alone
pub record OneMode (m : MachinePair) (T : Table) (i j : ℕ) : Type 0 where
  pub mode : Mode
  pub from : IsLone m T mode i
  pub to : IsLone m T mode j

lone_of : (m : MachinePair) (T : Table) (ns : List SearchNode) (k : ℕ) (js : List ℕ) → slice_get (lone_from m T ns) k ≡ Some js
    → (n : SearchNode) × (slice_get ns k ≡ Some n) × (lone_in m T n (mode_at m n) ≡ js)
lone_of m T [] k js g = absurd (cc g)
lone_of m T (n ∷ ns) zero js g = (n, refl, cc g)
lone_of m T (n ∷ ns) (suc k) js g = lone_of m T ns k js g

edge_by : (m : MachinePair) (T : Table) (k p j : ℕ) (n : SearchNode) (r : Traced Mode) → slice_get T k ≡ Some n → mode_at m n ≡ r
    → slice_get (lone_in m T n r) p ≡ Some j → OneMode m T k j
edge_by m T k p j n (Found x) g e h =
    let to = each_at (IsLone m T x) (lone_targets m T n x (paths_in m n x)) p j (all_lone m T x n (paths_in m n x)) h in
    record { mode = x; from = record { node = n; is_in = g; mode = e; alone = to.alone }; to = to }
edge_by m T k p j n (WideAt d b l r) g e h = absurd (cc h)
edge_by m T k p j n (LargeAt d b u w) g e h = absurd (cc h)

pub edge_mode : (m : MachinePair) (T : Table) (i p j : ℕ) (js : List ℕ) → slice_get (lone_moves m T) i ≡ Some js → slice_get js p ≡ Some j → OneMode m T i j
edge_mode m T i p j js g h =
    let b = lone_of m T T i js g in
    edge_by m T i p j b.0 (mode_at m b.0) b.1 refl (subst (λ l. slice_get l p ≡ Some j) (sym b.2) h)

count_from : (m : MachinePair) (T : Table) (ns : List SearchNode) → length (lone_from m T ns) ≡ length ns
count_from m T [] = refl
count_from m T (n ∷ ns) = ap suc (count_from m T ns)

pub edge_count : (m : MachinePair) (T : Table) → length (lone_moves m T) ≡ length T
edge_count m T = count_from m T T

in_range : (m : MachinePair) (T : Table) (E : List (List ℕ)) → length T ≤ 4096 → E ≡ lone_moves m T → AreShort E → InRange E
in_range m T E few e short =
    let n : length E ≡ length T = ap length e ∙ edge_count m T in
    record {
      few = omega (arith, n);
      short = λ i js g. let s = each_at (λ ks. length ks ≤ most_branches) E i js short g in omega (arith, s);
      targets = λ i p j js g h.
          let o = edge_mode m T i p j js (subst (λ F. slice_get F i ≡ Some js) e g) h in
          omega (arith, slice_get_within T j o.to.node o.to.is_in, n);
    }

pub all_in_range : (m : MachinePair) (T : Table) (r : Result (Vec (Vec ℕ Global) Global) NoMemory) → length T ≤ 4096
    → IfOk r (λ v. lists_in v.items ≡ lone_moves m T) → IfOk r (λ v. AreShort (lists_in v.items)) → IfOk r (λ v. InRange (lists_in v.items))
all_in_range m T (Ok v) few e short = in_range m T (lists_in v.items) few e short
all_in_range m T (Err z) few e short = tt

-- ---- along a loop over nodes
abbrev items : Vec ℕ Global → List ℕ
items v = v.items

pub edges_more : (m : MachinePair) (T : Table) (ns : List CodeNode) (old new : List (Vec ℕ Global)) (v : Vec ℕ Global) (i : ℕ) (n : CodeNode)
    (whole : List (List ℕ)) → i < length ns → n ≡ slice_index_or ns i n
    → v.items ≡ lone_in m T (search_node_in n) (mode_at m (search_node_in n)) → new ≡ old ++ v ∷ []
    → lists_in old ++ lone_from m T (table_in (drop i ns)) ≡ whole → lists_in new ++ lone_from m T (table_in (drop (i + 1) ns)) ≡ whole
edges_more m T ns old new v i n whole lt e g h w =
    let rest = lone_from m T (table_in (drop (i + 1) ns)) in
    ap (λ l. lists_in l ++ rest) h ∙ ap (λ l. l ++ rest) (map-append items old (v ∷ [])) ∙ append_assoc (lists_in old) (v.items ∷ []) rest
    ∙ ap (λ y. lists_in old ++ y ∷ rest) g ∙ ap (λ l. lists_in old ++ lone_from m T (table_in l)) (sym (drop_next ns i n lt e)) ∙ w

pub short_more : (old new : List (Vec ℕ Global)) (v : Vec ℕ Global) → new ≡ old ++ v ∷ [] → length v.items ≤ most_branches → AreShort (lists_in old)
    → AreShort (lists_in new)
short_more old new v h le s =
    subst (λ l. AreShort (lists_in l)) (sym h)
    (subst AreShort (sym (map-append items old (v ∷ []))) (each_append (λ js. length js ≤ most_branches) (lists_in old) (v.items ∷ []) s (le, tt)))

-- ---- along a loop over paths
module _ {A B : Type 0} (m : MachinePair) (T : Table) (n : SearchNode) (f : B → PathPair) (g : A → B) (ps : List A) (i : ℕ) (p : A) (lt : i < length ps)
    (at : p ≡ slice_index_or ps i p) where
  pub keep_next : Keep m T n (map f (map g (drop i ps))) → (effect m T n (f (g p)) ≡ Keeps) × Keep m T n (map f (map g (drop (i + 1) ps)))
  keep_next k = subst (λ l. Keep m T n (map f (map g l))) (drop_next ps i p lt at) k

  pub targets_more : (x : Mode) (old new targets whole : List ℕ) → targets ≡ lone_move_target m T n x (f (g p)) → new ≡ old ++ targets
      → old ++ lone_targets m T n x (map f (map g (drop i ps))) ≡ whole → new ++ lone_targets m T n x (map f (map g (drop (i + 1) ps))) ≡ whole
  targets_more x old new targets whole e a w =
      let rest = lone_targets m T n x (map f (map g (drop (i + 1) ps))) in
      ap (λ l. l ++ rest) a ∙ append_assoc old targets rest ∙ ap (λ l. old ++ (l ++ rest)) e
      ∙ ap (λ l. old ++ lone_targets m T n x (map f (map g l))) (sym (drop_next ps i p lt at)) ∙ w

pub few_more : (old new : List ℕ) (o : Option ℕ) (i : ℕ) → new ≡ old ++ as_list o → length old ≤ i → length new ≤ i + 1
few_more old new None i e h = omega (arith, ap length e, length-append old [], h)
few_more old new (Some k) i e h = omega (arith, ap length e, length-append old (k ∷ []), h)
