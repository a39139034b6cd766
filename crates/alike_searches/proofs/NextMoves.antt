-- What each move of a table gives, the next one gives, and the moves of both machines go by a path of each.
use Rattle.std.proofs.Common.{◌≡◌, ℕ, ◌+◌, refl, ap, ◌∙◌, true, List, [], ◌∷◌, map, Some}
use Rattle.std.specs.Prelude.{Contains}
use Rattle.std.specs.List.{AllByRecursion}
use Rattle.std.proofs.lemmas.Option.{slice_get_within, get_or_from_slice_get}
use Rattle.fs_model.proofs.Quantifiers.{each_weaker}
use Rattle.fs_model.specs.SoundMachines.{IsSound}
use Rattle.fs_model.specs.Machines.{Fsmd}
use Rattle.fs_cut.specs.Paths.{Point, Path, IsPath, is_point}
use Rattle.fs_cut.specs.Covers.{paths_of}
use Rattle.fs_cut.proofs.Listed.{listed_is_path, listed_from}
use Rattle.cert_bisimulation.specs.declared.mode.Mode.{Mode}
use Rattle.cert_bisimulation.specs.declared.mode.Mode.TheVariants.{Both}
use Rattle.search_tables.specs.Modes.{Traced, Found, WideAt, LargeAt}
use Rattle.search_tables.specs.declared.moves.Move.{Move}
use Rattle.search_tables.specs.SearchTables.{MachinePair, SearchNode, Table, MoveEffect, Keeps, Changes, Meets, Exceeds, PathPair, effect}
use Rattle.search_tables.specs.Next.{mode_at, paths_in, move_by, Next, Nothing, Change, Stop, Excess, next_by}
use Rattle.search_tables.specs.Next.{first_change_of, next_in, next_at, or_next, next_from, next_move}
use Rattle.search_tables.proofs.Lists.{all_in, all_from, all_flat}

-- ---- the next move

module _ (m : MachinePair) (T U : Table) (y : Move) (R : Type 0) where
  -- where paths change the table to U, R holds
  abbrev pub Gives : SearchNode → PathPair → Type 0
  Gives n x = effect m T n x ≡ Changes U → R

  abbrev pub AllGive : SearchNode → Type 0
  AllGive n = (mode : Mode) → mode_at m n ≡ Found mode → AllByRecursion (Gives n) (paths_in m n mode)

  first_gives : (i : ℕ) (n : SearchNode) (xs : List PathPair) → AllByRecursion (Gives n) xs → first_change_of m T i n xs ≡ Change y U → R
  first_gives i n [] h e = absurd (cc e)
  first_gives i n (x ∷ xs) h e = by_effect (effect m T n x) refl e (λ g. first_gives i n xs h.1 g)
    where
      by_effect :
          (z : MoveEffect) → effect m T n x ≡ z → next_by (move_by i x) z (first_change_of m T i n xs) ≡ Change y U
          → (first_change_of m T i n xs ≡ Change y U → R) → R
      by_effect Keeps q g again = again g
      by_effect (Changes V) q g again = let v : V ≡ U = cc g in h.0 (q ∙ ap Changes v)
      by_effect (Meets z) q g again = absurd (cc g)
      by_effect (Exceeds b) q g again = absurd (cc g)

  mode_gives : (i : ℕ) (n : SearchNode) (r : Traced Mode) → mode_at m n ≡ r → AllGive n → next_in m T i n r ≡ Change y U → R
  mode_gives i n (Found x) q h e = first_gives i n (paths_in m n x) (h x q) e
  mode_gives i n (WideAt d k left right) q h e = absurd (cc e)
  mode_gives i n (LargeAt d k units depth) q h e = absurd (cc e)

  from_gives : (i : ℕ) (ns : List SearchNode) → AllByRecursion AllGive ns → next_from m T i ns ≡ Change y U → R
  from_gives i [] h e = absurd (cc e)
  from_gives i (n ∷ ns) h e = by_next (next_at m T i n) refl e (λ g. from_gives (i + 1) ns h.1 g)
    where
      by_next :
          (z : Next) → next_at m T i n ≡ z → or_next z (next_from m T (i + 1) ns) ≡ Change y U
          → (next_from m T (i + 1) ns ≡ Change y U → R) → R
      by_next Nothing q g again = again g
      by_next (Change x V) q g again = mode_gives i n (mode_at m n) refl h.0 (q ∙ g)
      by_next (Stop x z) q g again = absurd (cc g)
      by_next (Excess x b) q g again = absurd (cc g)

  pub next_gives : AllByRecursion AllGive T → next_move m T ≡ Change y U → R
  next_gives h e = from_gives 0 T h e

-- ---- the paths of a move of both machines

record IsPathFrom (m : Fsmd) (P : Point) (p : Path) : Type 0 where
  is : IsPath m p
  from : p.from ≡ P

pub record AreOfBoth (m : MachinePair) (n : SearchNode) (x : PathPair) : Type 0 where
  pub left : Path
  pub right : Path
  pub are : record { left = Some left; right = Some right } ≡ x
  pub left_is : IsPath m.left left
  pub right_is : IsPath m.right right
  pub left_from : left.from ≡ n.left
  pub right_from : right.from ≡ n.right

paths_from_point : (m : Fsmd) (P : Point) → IsSound m → is_point m P ≡ true → AllByRecursion (IsPathFrom m P) (paths_of m P)
paths_from_point m P sound h =
    all_in (IsPathFrom m P) (paths_of m P) (λ k p e.
    let c : Contains (paths_of m P) p = (k, slice_get_within (paths_of m P) k p e, get_or_from_slice_get (paths_of m P) k p p e) in
    record { is = listed_is_path m P p sound h c; from = listed_from m P p c })

module _ (m : MachinePair) (n : SearchNode) (sound_left : IsSound m.left) (sound_right : IsSound m.right) where
  abbrev with_right : Path → Path → PathPair
  with_right p q = record { left = Some p; right = Some q }

  rights_go : (p : Path) → IsPathFrom m.left n.left p → is_point m.right n.right ≡ true
      → AllByRecursion (AreOfBoth m n) (map (with_right p) (paths_of m.right n.right))
  rights_go p g r =
      all_from (IsPathFrom m.right n.right) (AreOfBoth m n) (with_right p) (paths_of m.right n.right)
      (λ q k. record { left = p; right = q; are = refl; left_is = g.is; right_is = k.is; left_from = g.from; right_from = k.from })
      (paths_from_point m.right n.right sound_right r)

  pub both_go : is_point m.left n.left ≡ true → is_point m.right n.right ≡ true → AllByRecursion (AreOfBoth m n) (paths_in m n Both)
  both_go l r =
      all_flat (AreOfBoth m n) (λ p. map (with_right p) (paths_of m.right n.right)) (paths_of m.left n.left)
      (each_weaker (IsPathFrom m.left n.left) (λ p. AllByRecursion (AreOfBoth m n) (map (with_right p) (paths_of m.right n.right))) (paths_of m.left n.left)
      (λ p g. rights_go p g r) (paths_from_point m.left n.left sound_left l))
