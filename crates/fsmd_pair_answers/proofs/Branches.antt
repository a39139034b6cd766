-- Each move that is next goes by branches of its node's points.
use Rattle.std.proofs.Common.{◌≡◌, ◌⊎◌, inl, inr, ℕ, suc, ◌+◌, refl, sym, ◌∙◌, ap, subst, arith, Bool, true, false, List, [], ◌∷◌, map, Option, Some, None}
use Rattle.std.proofs.lemmas.Option.{slice_get_within, get_or_from_slice_get}
use Rattle.std.specs.Prelude.{◌&&◌, slice_get}
use Rattle.std.specs.List.{list_all, AllByRecursion}
use Rattle.std.specs.Option.{option_map}
use Rattle.fs_model.proofs.Booleans.{and_first, and_second}
use Rattle.fs_model.proofs.Quantifiers.{each_weaker}
use Rattle.fs_model.specs.SoundMachines.{IsSound}
use Rattle.fs_model.specs.Machines.{Fsmd}
use Rattle.fs_cut.specs.Paths.{Point, Start, At, Path, is_point, state_of}
use Rattle.fs_cut.specs.Paths as cut
use Rattle.fs_cut.specs.Covers.{paths_of, paths_from, cover_of, path_by, same_point}
use Rattle.fs_cut.proofs.Listed.{paths_count, paths_in_order, listed_is_path, listed_from, paths_listed}
use Rattle.cert_bisimulation.specs.declared.mode.Mode.{Mode}
use Rattle.cert_bisimulation.specs.declared.mode.Mode.TheVariants.{Both, Left, Right, End}
use Rattle.nf_terms.specs.Computed.{Computed, Done, Wide, Large}
use Rattle.fs_model.specs.declared.sides.Side.{Side}
use Rattle.fs_model.specs.declared.sides.Side.TheVariants as side
use Rattle.sym_facts.specs.Facts.{Fact}
use Rattle.search_tables.specs.Modes.{Traced, Found, WideAt, LargeAt, traced_then, on_path, is_open_path, count_open, count_from, mode_of_counts, mode_by}
use Rattle.search_tables.specs.declared.moves.Move.{Move}
use Rattle.search_tables.specs.SearchTables.{MachinePair, SearchNode, Table, PathPair, MoveEffect, Keeps, Changes, Meets, Exceeds, effect}
use Rattle.search_tables.specs.Next.{mode_at, paths_in, move_by, path_at, Next, Nothing, Change, Stop, Excess, next_by, first_change_of, next_in, next_at}
use Rattle.search_tables.specs.Next.{or_next, next_from, next_move}
use Rattle.search_tables.proofs.Lists.{all_in, all_from, all_flat}
use Rattle.fsmd_pair_answers.specs.PairAnswerLaws.{IsBranch, HasPath}

-- ---- branches of a point
pub not_done : (m : Fsmd) (P : Point) (k : ℕ) (p : Path) → slice_get (paths_of m P) k ≡ Some p → P ≡ cut.Done → ⊥
not_done m Start k p e g = cc g
not_done m (At q) k p e g = cc g
not_done m cut.Done k p e g = cc e

module _ (m : Fsmd) (sound : IsSound m) where
  is_branch : (P : Point) → is_point m P ≡ true → (k : ℕ) (p : Path) → slice_get (paths_of m P) k ≡ Some p → IsBranch m P p.branch
  is_branch P h k p e =
      let within = slice_get_within (paths_of m P) k p e in
      let is = get_or_from_slice_get (paths_of m P) k p p e in
      let go = not_done m P k p e in
      let same : p ≡ path_by m P (state_of m P) k = sym is ∙ paths_in_order m P k p go (omega (arith, paths_count m P go)) in
      let number : p.branch ≡ k = ap (λ (x : Path). x.branch) same in
      let listed : slice_get (paths_from (cover_of m) P) k ≡ Some p = ap (λ (ps : List Path). slice_get ps k) (paths_listed m P h) ∙ e in
      record {
        path = p;
        is_in = ap (slice_get (paths_from (cover_of m) P)) number ∙ listed;
        is_path = listed_is_path m P p sound h (k, within, is);
        from = listed_from m P p (k, within, is);
        numbered = refl;
      }

  branches : (P : Point) → is_point m P ≡ true → AllByRecursion (λ p. IsBranch m P p.branch) (paths_of m P)
  branches P h = all_in (λ p. IsBranch m P p.branch) (paths_of m P) (is_branch P h)

-- ---- where a mode meets an event
abbrev met : {T : Type 0} → Traced T → Option (Side × ℕ)
met (Found x) = None
met (WideAt d k left right) = Some (d, k)
met (LargeAt d k units depth) = Some (d, k)

-- the event was met before, or after that was found
record MetThen {S T : Type 0} (t : Traced S) (next : S → Traced T) (z : Side × ℕ) : Type 0 where
  pub value : S
  pub found : t ≡ Found value
  pub later : met (next value) ≡ Some z

met_in : {S T : Type 0} (t : Traced S) (next : S → Traced T) (z : Side × ℕ) → met (traced_then t next) ≡ Some z → (met t ≡ Some z) ⊎ MetThen t next z
met_in (Found x) next z e = inr (record { value = x; found = refl; later = e })
met_in (WideAt d k left right) next z e = inl e
met_in (LargeAt d k units depth) next z e = inl e

on_path_met : {T : Type 0} (d : Side) (k : ℕ) (c : Computed T) (z : Side × ℕ) → met (on_path d k c) ≡ Some z → (d, k) ≡ z
on_path_met d k (Done x) z e = absurd (cc e)
on_path_met d k (Wide left right) z e = cc e
on_path_met d k (Large units depth) z e = cc e

counting_met : (P : Side → ℕ → Type 0) (m : Fsmd) (d : Side) (f : Fact) (ps : List Path) (n : ℕ) (z : Side × ℕ) → AllByRecursion (λ p. P d p.branch) ps
    → met (count_from m d f ps n) ≡ Some z → P z.0 z.1
counting_met P m d f [] n z all e = absurd (cc e)
counting_met P m d f (p ∷ ps) n z all e =
    elim (met_in (on_path d p.branch (is_open_path m d f p)) (λ more. count_from m d f ps (count_open n more)) z e) as (λ _. P z.0 z.1) [
      | inl here ↦ subst (λ (x : Side × ℕ). P x.0 x.1) (on_path_met d p.branch (is_open_path m d f p) z here) all.0
      | inr then ↦ counting_met P m d f ps (count_open n then.value) z all.1 then.later
    ]

-- ---- moves
-- the move that is next, if one is
abbrev pub moved : Next → Option Move
moved Nothing = None
moved (Change x U) = Some x
moved (Stop x e) = Some x
moved (Excess x b) = Some x

abbrev pub HasPaths : MachinePair → SearchNode → Option ℕ → Option ℕ → Type 0
HasPaths m n l r = HasPath m.left n.left l × HasPath m.right n.right r

-- a node of a list of which the first has number i, with a move from it
pub record Goes (m : MachinePair) (ns : List SearchNode) (i : ℕ) (y : Move) : Type 0 where
  pub place : ℕ
  pub node : SearchNode
  pub is_in : slice_get ns place ≡ Some node
  pub number : y.node ≡ i + place
  pub paths : HasPaths m node y.left y.right

module _ (m : MachinePair) (sound_left : IsSound m.left) (sound_right : IsSound m.right) where
  abbrev AtPoints : SearchNode → Type 0
  AtPoints n = is_point m.left n.left && is_point m.right n.right ≡ true

  abbrev OnSide : SearchNode → Side → ℕ → Type 0
  OnSide n side.Left k = IsBranch m.left n.left k
  OnSide n side.Right k = IsBranch m.right n.right k

  abbrev lefts : SearchNode → Traced ℕ
  lefts n = count_from m.left side.Left n.fact (paths_of m.left n.left) 0

  abbrev rights : SearchNode → Traced ℕ
  rights n = count_from m.right side.Right n.fact (paths_of m.right n.right) 0

  abbrev by_counts : SearchNode → Traced Mode
  by_counts n = traced_then (lefts n) (λ i. traced_then (rights n) (λ j. Found (mode_of_counts i j)))

  counts_met : (n : SearchNode) (z : Side × ℕ) → AtPoints n → met (by_counts n) ≡ Some z → OnSide n z.0 z.1
  counts_met n z h e =
      elim (met_in (lefts n) (λ i. traced_then (rights n) (λ j. Found (mode_of_counts i j))) z e) as (λ _. OnSide n z.0 z.1) [
        | inl here ↦ counting_met (OnSide n) m.left side.Left n.fact (paths_of m.left n.left) 0 z
            (branches m.left sound_left n.left (and_first (is_point m.left n.left) (is_point m.right n.right) h)) here
        | inr then ↦ elim (met_in (rights n) (λ j. Found (mode_of_counts then.value j)) z then.later) as (λ _. OnSide n z.0 z.1) [
          | inl here ↦ counting_met (OnSide n) m.right side.Right n.fact (paths_of m.right n.right) 0 z
              (branches m.right sound_right n.right (and_second (is_point m.left n.left) (is_point m.right n.right) h)) here
          | inr last ↦ absurd (cc last.later)
        ]
      ]

  done_met : (x y : Bool) (t : Traced Mode) (z : Side × ℕ) → met (mode_by x y t) ≡ Some z → met t ≡ Some z
  done_met true true t z e = absurd (cc e)
  done_met true false t z e = absurd (cc e)
  done_met false true t z e = absurd (cc e)
  done_met false false t z e = e

  mode_met : (n : SearchNode) (z : Side × ℕ) → AtPoints n → met (mode_at m n) ≡ Some z → OnSide n z.0 z.1
  mode_met n z h e = counts_met n z h (done_met (same_point n.left cut.Done) (same_point n.right cut.Done) (by_counts n) z e)

  abbrev GoesBy : SearchNode → PathPair → Type 0
  GoesBy n x = HasPaths m n (option_map (λ p. p.branch) x.left) (option_map (λ p. p.branch) x.right)

  moves_go : (n : SearchNode) (x : Mode) → AtPoints n → AllByRecursion (GoesBy n) (paths_in m n x)
  moves_go n x h = by_mode x (branches m.left sound_left n.left (and_first (is_point m.left n.left) (is_point m.right n.right) h))
      (branches m.right sound_right n.right (and_second (is_point m.left n.left) (is_point m.right n.right) h))
    where
      by_mode : (x : Mode) → AllByRecursion (λ p. IsBranch m.left n.left p.branch) (paths_of m.left n.left)
          → AllByRecursion (λ p. IsBranch m.right n.right p.branch) (paths_of m.right n.right) → AllByRecursion (GoesBy n) (paths_in m n x)
      by_mode Both l r =
          all_flat (GoesBy n) (λ p. map (λ q. record { left = Some p; right = Some q }) (paths_of m.right n.right)) (paths_of m.left n.left)
          (each_weaker (λ p. IsBranch m.left n.left p.branch)
          (λ p. AllByRecursion (GoesBy n) (map (λ q. record { left = Some p; right = Some q }) (paths_of m.right n.right))) (paths_of m.left n.left)
          (λ p g. all_from (λ q. IsBranch m.right n.right q.branch) (GoesBy n) (λ q. record { left = Some p; right = Some q }) (paths_of m.right n.right)
          (λ q k. (g, k)) r)
          l)
      by_mode Left l r = all_from (λ p. IsBranch m.left n.left p.branch) (GoesBy n) (λ p. record { left = Some p; right = None }) (paths_of m.left n.left)
          (λ p g. (g, tt)) l
      by_mode Right l r = all_from (λ q. IsBranch m.right n.right q.branch) (GoesBy n) (λ q. record { left = None; right = Some q }) (paths_of m.right n.right)
          (λ q g. (tt, g)) r
      by_mode End l r = tt

  abbrev GoesSo : ℕ → SearchNode → Move → Type 0
  GoesSo i n x = (x.node ≡ i) × HasPaths m n x.left x.right

  same_move : (P : Move → Type 0) (x y : Move) → P x → Some x ≡ Some y → P y
  same_move P x y h e = let s : x ≡ y = cc e in subst P s h

  first_goes : (T : Table) (i : ℕ) (n : SearchNode) (xs : List PathPair) (y : Move) → AllByRecursion (GoesBy n) xs
      → moved (first_change_of m T i n xs) ≡ Some y → GoesSo i n y
  first_goes T i n [] y all e = absurd (cc e)
  first_goes T i n (x ∷ xs) y all e = by_effect (effect m T n x) e (λ g. first_goes T i n xs y all.1 g)
    where
      here : GoesSo i n (move_by i x)
      here = (refl, all.0)

      by_effect : (a : MoveEffect) → moved (next_by (move_by i x) a (first_change_of m T i n xs)) ≡ Some y
          → (moved (first_change_of m T i n xs) ≡ Some y → GoesSo i n y) → GoesSo i n y
      by_effect Keeps g again = again g
      by_effect (Changes U) g again = same_move (GoesSo i n) (move_by i x) y here g
      by_effect (Meets z) g again = same_move (GoesSo i n) (move_by i x) y here g
      by_effect (Exceeds b) g again = same_move (GoesSo i n) (move_by i x) y here g

  path_goes : (i : ℕ) (n : SearchNode) (d : Side) (k : ℕ) → OnSide n d k → GoesSo i n (path_at i d k)
  path_goes i n side.Left k h = (refl, (h, tt))
  path_goes i n side.Right k h = (refl, (tt, h))

  mode_goes : (T : Table) (i : ℕ) (n : SearchNode) (y : Move) → AtPoints n → (t : Traced Mode) → mode_at m n ≡ t
      → moved (next_in m T i n t) ≡ Some y → GoesSo i n y
  mode_goes T i n y h (Found x) q e = first_goes T i n (paths_in m n x) y (moves_go n x h) e
  mode_goes T i n y h (WideAt d k left right) q e = same_move (GoesSo i n) (path_at i d k) y (path_goes i n d k (mode_met n (d, k) h (ap met q))) e
  mode_goes T i n y h (LargeAt d k units depth) q e = same_move (GoesSo i n) (path_at i d k) y (path_goes i n d k (mode_met n (d, k) h (ap met q))) e

  abbrev stands : SearchNode → Bool
  stands n = is_point m.left n.left && is_point m.right n.right

  from_goes : (T : Table) (i : ℕ) (ns : List SearchNode) (y : Move) → list_all stands ns ≡ true → moved (next_from m T i ns) ≡ Some y → Goes m ns i y
  from_goes T i [] y all e = absurd (cc e)
  from_goes T i (n ∷ ns) y all e = by_next (next_at m T i n) refl e (λ g. from_goes T (i + 1) ns y (and_second (stands n) (list_all stands ns) all) g)
    where
      at : AtPoints n
      at = and_first (stands n) (list_all stands ns) all

      here : GoesSo i n y → Goes m (n ∷ ns) i y
      here h = record { place = 0; node = n; is_in = refl; number = omega (arith, h.0); paths = h.1 }

      by_next : (a : Next) → next_at m T i n ≡ a → moved (or_next a (next_from m T (i + 1) ns)) ≡ Some y
          → (moved (next_from m T (i + 1) ns) ≡ Some y → Goes m ns (i + 1) y) → Goes m (n ∷ ns) i y
      by_next Nothing q g again = let r = again g in record {
        place = suc r.place;
        node = r.node;
        is_in = r.is_in;
        number = omega (arith, r.number);
        paths = r.paths;
      }
      by_next (Change x U) q g again = here (mode_goes T i n y at (mode_at m n) refl (ap moved q ∙ g))
      by_next (Stop x e) q g again = here (mode_goes T i n y at (mode_at m n) refl (ap moved q ∙ g))
      by_next (Excess x b) q g again = here (mode_goes T i n y at (mode_at m n) refl (ap moved q ∙ g))

  pub next_goes : (T : Table) (y : Move) → list_all stands T ≡ true → moved (next_move m T) ≡ Some y → Goes m T 0 y
  next_goes T y all e = from_goes T 0 T y all e
