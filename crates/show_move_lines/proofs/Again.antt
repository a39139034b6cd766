-- Moves that are made again make the table of the search.
use Rattle.std.proofs.Common.{◌≡◌, inl, inr, ℕ, suc, ◌+◌, refl, sym, ◌∙◌, ap, ap₂, subst, arith, Bool, true, List, [], ◌∷◌, ◌++◌, Option, Some, None}
use Rattle.std.proofs.lemmas.Option.{slice_get_within, get_or_from_slice_get}
use Rattle.std.specs.Prelude.{◌&&◌, slice_get, map}
use Rattle.std.specs.List.{list_all, AllByRecursion}
use Rattle.std.specs.Option.{option_map}
use Rattle.fs_model.proofs.Booleans.{and_first, and_second}
use Rattle.fs_model.proofs.Quantifiers.{each_weaker}
use Rattle.fs_model.specs.SoundMachines.{IsSound}
use Rattle.fs_model.specs.Machines.{Fsmd}
use Rattle.fs_cut.specs.Paths.{Point, Path, is_point, state_of}
use Rattle.fs_cut.specs.Paths as cut
use Rattle.fs_cut.specs.Covers.{paths_of, paths_from, cover_of, path_by}
use Rattle.fs_cut.proofs.Listed.{paths_count, paths_in_order, paths_listed}
use Rattle.fs_pair.specs.declared.positions.Position.{Position}
use Rattle.cert_bisimulation.specs.declared.mode.Mode.{Mode}
use Rattle.cert_bisimulation.specs.declared.mode.Mode.TheVariants.{Both, Left, Right, End}
use Rattle.nf_terms.specs.Computed.{Computed, Done, after}
use Rattle.sym_paths.specs.Execution.{Post, arrive, end_of}
use Rattle.sym_facts.specs.Facts.{Fact, vector_of}
use Rattle.sym_facts.specs.Entailment.{Missing}
use Rattle.propagate.specs.Joins.{join}
use Rattle.propagate.specs.Modes.{Traced, Found, WideAt, LargeAt}
use Rattle.search_tables.specs.declared.moves.Move.{Move}
use Rattle.search_tables.specs.SearchTables.{MachinePair, SearchNode, Table, PathPair, Target, node_target, MoveEffect, Keeps, Changes, Meets, Exceeds, effect}
use Rattle.search_tables.specs.SearchTables.{first_table, positions_of}
use Rattle.search_tables.specs.Next.{mode_at, paths_in, move_by, Next, Nothing, Change, Stop, Excess, next_by, first_change_of, next_in, next_at, or_next}
use Rattle.search_tables.specs.Next.{next_from, next_move}
use Rattle.search_tables.specs.Legal.{difference_in, MovesLead, Makes}
use Rattle.search_tables.proofs.Lists.{all_in, all_from, all_flat}
use Rattle.search_tables.proofs.Changing.{Adds, Weakens, arrives_so}
use Rattle.search_tables.proofs.Forming.{well_formed}
use Rattle.show_move_lines.specs.MoveReplays as turns
use Rattle.show_move_lines.specs.MoveReplays.{branch_path, turn_at, turn_by_paths, turn_by, turn_or_idle, turn_of_move, with_turn, with_turns}

-- ---- branches of a point

-- a path of a point is the one of its branch
listed : (m : Fsmd) (P : Point) → is_point m P ≡ true → (k : ℕ) (p : Path) → slice_get (paths_of m P) k ≡ Some p → branch_path m P (Some p.branch) ≡ Some p
listed m P h k p e =
    let within = slice_get_within (paths_of m P) k p e in
    let is = get_or_from_slice_get (paths_of m P) k p p e in
    let go : P ≡ cut.Done → ⊥ = λ g. (let n : slice_get (paths_of m cut.Done) k ≡ Some p = subst (λ Q. slice_get (paths_of m Q) k ≡ Some p) g e in cc n) in
    let same : p ≡ path_by m P (state_of m P) k = sym is ∙ paths_in_order m P k p go (omega (arith, paths_count m P go)) in
    let number : p.branch ≡ k = ap (λ (x : Path). x.branch) same in
    ap (slice_get (paths_from (cover_of m) P)) number ∙ ap (λ (ps : List Path). slice_get ps k) (paths_listed m P h) ∙ e

abbrev IsListed : Fsmd → Point → Path → Type 0
IsListed m P p = branch_path m P (Some p.branch) ≡ Some p

all_listed : (m : Fsmd) (P : Point) → is_point m P ≡ true → AllByRecursion (IsListed m P) (paths_of m P)
all_listed m P h = all_in (IsListed m P) (paths_of m P) (listed m P h)

-- paths of a node are those of their branches
record AreOfBranches (m : MachinePair) (n : SearchNode) (x : PathPair) : Type 0 where
  left : branch_path m.left n.left (option_map (λ p. p.branch) x.left) ≡ x.left
  right : branch_path m.right n.right (option_map (λ p. p.branch) x.right) ≡ x.right

are_of_branches : (m : MachinePair) (n : SearchNode) (x : Mode) → is_point m.left n.left ≡ true → is_point m.right n.right ≡ true
    → AllByRecursion (AreOfBranches m n) (paths_in m n x)
are_of_branches m n x l r = by_mode x (all_listed m.left n.left l) (all_listed m.right n.right r)
  where
    by_mode : (x : Mode) → AllByRecursion (IsListed m.left n.left) (paths_of m.left n.left)
        → AllByRecursion (IsListed m.right n.right) (paths_of m.right n.right) → AllByRecursion (AreOfBranches m n) (paths_in m n x)
    by_mode Both l r =
        all_flat (AreOfBranches m n) (λ p. map (λ q. record { left = Some p; right = Some q }) (paths_of m.right n.right)) (paths_of m.left n.left)
        (each_weaker (IsListed m.left n.left)
        (λ p. AllByRecursion (AreOfBranches m n) (map (λ q. record { left = Some p; right = Some q }) (paths_of m.right n.right))) (paths_of m.left n.left)
        (λ p g. all_from (IsListed m.right n.right) (AreOfBranches m n) (λ q. record { left = Some p; right = Some q }) (paths_of m.right n.right)
        (λ q k. record { left = g; right = k }) r)
        l)
    by_mode Left l r = all_from (IsListed m.left n.left) (AreOfBranches m n) (λ p. record { left = Some p; right = None }) (paths_of m.left n.left)
        (λ p g. record { left = g; right = refl }) l
    by_mode Right l r = all_from (IsListed m.right n.right) (AreOfBranches m n) (λ q. record { left = None; right = Some q }) (paths_of m.right n.right)
        (λ q g. record { left = refl; right = g }) r
    by_mode End l r = tt

-- ---- the move that is next
-- a node of a list of which the first has number i, and the paths by which a move from it changes the table
record Does (m : MachinePair) (T U : Table) (ns : List SearchNode) (i : ℕ) (y : Move) : Type 0 where
  place : ℕ
  node : SearchNode
  is_in : slice_get ns place ≡ Some node
  number : y.node ≡ i + place
  paths : PathPair
  left : y.left ≡ option_map (λ p. p.branch) paths.left
  right : y.right ≡ option_map (λ p. p.branch) paths.right
  branches : AreOfBranches m node paths
  does : effect m T node paths ≡ Changes U

-- the same of the first node
record DoesHere (m : MachinePair) (T U : Table) (i : ℕ) (n : SearchNode) (y : Move) : Type 0 where
  paths : PathPair
  is : y ≡ move_by i paths
  branches : AreOfBranches m n paths
  does : effect m T n paths ≡ Changes U

module _ (m : MachinePair) (T U : Table) (y : Move) where
  first_does : (i : ℕ) (n : SearchNode) (xs : List PathPair) → AllByRecursion (AreOfBranches m n) xs → first_change_of m T i n xs ≡ Change y U
      → DoesHere m T U i n y
  first_does i n [] all h = absurd (cc h)
  first_does i n (x ∷ xs) all h = by_effect (effect m T n x) refl h (λ g. first_does i n xs all.1 g)
    where
      by_effect : (e : MoveEffect) → effect m T n x ≡ e → next_by (move_by i x) e (first_change_of m T i n xs) ≡ Change y U
          → (first_change_of m T i n xs ≡ Change y U → DoesHere m T U i n y) → DoesHere m T U i n y
      by_effect Keeps q g again = again g
      by_effect (Changes V) q g again =
          let v : V ≡ U = cc g in
          let s : move_by i x ≡ y = cc g in
          record { paths = x; is = sym s; branches = all.0; does = q ∙ ap Changes v }
      by_effect (Meets z) q g again = absurd (cc g)
      by_effect (Exceeds b) q g again = absurd (cc g)

  abbrev stands : SearchNode → Bool
  stands n = is_point m.left n.left && is_point m.right n.right

  mode_does : (i : ℕ) (n : SearchNode) (r : Traced Mode) → stands n ≡ true → next_in m T i n r ≡ Change y U → DoesHere m T U i n y
  mode_does i n (Found x) h e = first_does i n (paths_in m n x)
      (are_of_branches m n x (and_first (is_point m.left n.left) (is_point m.right n.right) h)
      (and_second (is_point m.left n.left) (is_point m.right n.right) h)) e
  mode_does i n (WideAt d k left right) h e = absurd (cc e)
  mode_does i n (LargeAt d k units depth) h e = absurd (cc e)

  from_does : (i : ℕ) (ns : List SearchNode) → list_all stands ns ≡ true → next_from m T i ns ≡ Change y U → Does m T U ns i y
  from_does i [] all h = absurd (cc h)
  from_does i (n ∷ ns) all h = by_next (next_at m T i n) refl h (λ g. from_does (i + 1) ns (and_second (stands n) (list_all stands ns) all) g)
    where
      here : DoesHere m T U i n y → Does m T U (n ∷ ns) i y
      here d = record {
        place = 0;
        node = n;
        is_in = refl;
        number = let e : y.node ≡ i = ap (λ (x : Move). x.node) d.is in omega (arith, e);
        paths = d.paths;
        left = ap (λ (x : Move). x.left) d.is;
        right = ap (λ (x : Move). x.right) d.is;
        branches = d.branches;
        does = d.does;
      }

      by_next : (a : Next) → next_at m T i n ≡ a → or_next a (next_from m T (i + 1) ns) ≡ Change y U
          → (next_from m T (i + 1) ns ≡ Change y U → Does m T U ns (i + 1) y) → Does m T U (n ∷ ns) i y
      by_next Nothing q g again =
          let r = again g in
          record {
            place = suc r.place;
            node = r.node;
            is_in = r.is_in;
            number = omega (arith, r.number);
            paths = r.paths;
            left = r.left;
            right = r.right;
            branches = r.branches;
            does = r.does;
          }
      by_next (Change z V) q g again = here (mode_does i n (mode_at m n) (and_first (stands n) (list_all stands ns) all) (q ∙ g))
      by_next (Stop z e) q g again = absurd (cc g)
      by_next (Excess z b) q g again = absurd (cc g)

-- ---- its turn
module _ (ps : List Position) (T U : Table) (P Q : Point) where
  adds_again : (post : Post) → Adds ps T U P Q post → with_turn T (turn_or_idle (turn_at ps P Q post (node_target T P Q))) ≡ U
  adds_again post a =
      ap (λ (t : Target). with_turn T (turn_or_idle (turn_at ps P Q post t))) a.target
      ∙ ap (λ (c : Computed Fact). with_turn T (turn_or_idle (after c (λ f. Done (turns.Makes P Q f))))) a.rebased
      ∙ a.is

  weakens_again : (post : Post) → Weakens T U P Q post → with_turn T (turn_or_idle (turn_at ps P Q post (node_target T P Q))) ≡ U
  weakens_again post w =
      ap (λ (t : Target). with_turn T (turn_or_idle (turn_at ps P Q post t))) w.target
      ∙ ap
      (λ (c : Computed Missing). with_turn T
      (turn_or_idle (after c (λ x. after (join w.node.fact post x) (λ f. Done (turns.Weakens w.number w.node.left w.node.right post x f)))))) w.compared_to
      ∙ ap (λ (c : Computed Fact). with_turn T (turn_or_idle (after c (λ f. Done (turns.Weakens w.number w.node.left w.node.right post w.missing f))))) w.joined
      ∙ w.is

module _ (m : MachinePair) where
  by_paths_again : (T U : Table) (n : SearchNode) (x : PathPair) → effect m T n x ≡ Changes U
      → with_turn T (turn_or_idle (turn_by_paths (positions_of m) m T n x.left x.right)) ≡ U
  by_paths_again T U n x e =
      let ps = positions_of m in
      let P = end_of n.left x.left in
      let Q = end_of n.right x.right in
      let a = arrives_so ps T U P Q (arrive m.left m.right n.fact.literals (vector_of n.fact.positions) x.left x.right) e in
      ap (λ (c : Computed Post). with_turn T (turn_or_idle (after c (λ post. turn_at ps P Q post (node_target T P Q))))) a.arrives
      ∙ elim a.changes as (λ _. with_turn T (turn_or_idle (turn_at ps P Q a.post (node_target T P Q))) ≡ U) [
        | inl b ↦ adds_again ps T U P Q a.post b
        | inr b ↦ weakens_again ps T U P Q a.post b
      ]

  turn_again : (T U : Table) (y : Move) → list_all (λ n. is_point m.left n.left && is_point m.right n.right) T ≡ true → next_move m T ≡ Change y U
      → with_turn T (turn_of_move (positions_of m) m T y) ≡ U
  turn_again T U y all e =
      let ps = positions_of m in
      let d = from_does m T U y 0 T all e in
      let place : y.node ≡ d.place = omega (arith, d.number) in
      let there : slice_get T y.node ≡ Some d.node = ap (slice_get T) place ∙ d.is_in in
      let left : branch_path m.left d.node.left y.left ≡ d.paths.left = ap (branch_path m.left d.node.left) d.left ∙ d.branches.left in
      let right : branch_path m.right d.node.right y.right ≡ d.paths.right = ap (branch_path m.right d.node.right) d.right ∙ d.branches.right in
      ap (λ (o : Option SearchNode). with_turn T (turn_or_idle (turn_by ps m T y o))) there
      ∙ ap₂ (λ (l r : Option Path). with_turn T (turn_or_idle (turn_by_paths ps m T d.node l r))) left right
      ∙ by_paths_again T U d.node d.paths d.does

  lead_more : (xs : List Move) (S T U : Table) (x : Move) → MovesLead m S xs T → difference_in m T ≡ None → next_move m T ≡ Change x U
      → MovesLead m S (xs ++ x ∷ []) U
  lead_more [] S T U x h s n = (U, subst (λ V. difference_in m V ≡ None) (sym h) s, subst (λ V. next_move m V ≡ Change x U) (sym h) n, refl)
  lead_more (y ∷ ys) S T U x h s n = (h.0, h.1, h.2, lead_more ys h.0 T U x h.3 s n)

  lead_again : IsSound m.left → IsSound m.right → (done xs : List Move) (S T : Table) → Makes m done S → MovesLead m S xs T
      → with_turns (positions_of m) m S xs ≡ T
  lead_again l r done [] S T h e = e
  lead_again l r done (x ∷ xs) S T h e =
      let one = turn_again S e.0 x (well_formed m l r done S h).points e.2 in
      ap (λ (V : Table). with_turns (positions_of m) m V xs) one
      ∙ lead_again l r (done ++ x ∷ []) xs e.0 T (record { lead = lead_more done (first_table m) S e.0 x h.lead e.1 e.2 }) e.3

pub made_again : (m : MachinePair) → IsSound m.left → IsSound m.right → (moves : List Move) (T : Table) → Makes m moves T
    → with_turns (positions_of m) m (first_table m) moves ≡ T
made_again m l r moves T h = lead_again m l r [] moves (first_table m) T (record { lead = refl }) h.lead
