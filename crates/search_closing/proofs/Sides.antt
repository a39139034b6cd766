-- From the nodes of a cycle one side moves alone.
use Rattle.std.proofs.Common.{◌≡◌, ℕ, refl, sym, ◌∙◌, ap, subst, true, List, [], ◌∷◌, Some}
use Rattle.std.specs.Prelude.{slice_get}
use Rattle.std.specs.List.{AllByRecursion}
use Rattle.cert_bisimulation.specs.declared.mode.Mode.{Mode}
use Rattle.cert_bisimulation.specs.declared.mode.Mode.TheVariants.{Both, Left, Right, End}
use Rattle.fs_model.specs.declared.sides.Side.{Side}
use Rattle.search_tables.specs.Modes.{Found}
use Rattle.cert_model.specs.Obligations.{same_alone}
use Rattle.search_tables.specs.Graphs.{first_or, Follow, IsCycle, BeginsLeast}
use Rattle.search_tables.specs.SearchTables.{MachinePair, Table}
use Rattle.search_tables.specs.Next.{mode_at}
use Rattle.search_tables.specs.LoneMoves.{lone_moves, lone_mode, MovesAlone, Spins}
use Rattle.search_closing.specs.ClosedModes.{AreModes, side_of_mode, cycle_side}
use Rattle.search_closing.proofs.Found.{mode_place}
use Rattle.search_closing.proofs.Edges.{IsLone, edge_mode}

one_mode : (m : MachinePair) (T : Table) (k : ℕ) (x y : Mode) → IsLone m T x k → IsLone m T y k → x ≡ y
one_mode m T k x y a b =
    let same : a.node ≡ b.node = (let g = a.is_in in let h = b.is_in in cc) in
    let e : Found x ≡ Found y = sym a.mode ∙ ap (mode_at m) same ∙ b.mode in
    cc e

all_lone : (m : MachinePair) (T : Table) (x : ℕ) (xs : List ℕ) (z : ℕ) (y : Mode) → Follow (lone_moves m T) (x ∷ xs) z → IsLone m T y x
    → AllByRecursion (IsLone m T y) (x ∷ xs)
all_lone m T x [] z y h a = (a, tt)
all_lone m T x (w ∷ xs) z y h a =
    let edge = h.0 in
    let o = edge_mode m T x edge.place w edge.targets edge.from edge.is_in in
    (a, all_lone m T w xs z y h.1 (subst (λ v. IsLone m T v w) (one_mode m T x o.mode y o.from a) o.to))

lone_side : (x : Mode) → same_alone x x ≡ true → x ≡ lone_mode (side_of_mode (Some x))
lone_side Left h = refl
lone_side Right h = refl
lone_side Both h = absurd (cc h)
lone_side End h = absurd (cc h)

all_move : (m : MachinePair) (T : Table) (d : Side) (ks : List ℕ) → AllByRecursion (IsLone m T (lone_mode d)) ks → AllByRecursion (MovesAlone m T d) ks
all_move m T d [] h = tt
all_move m T d (k ∷ ks) h = (record { node = h.0.node; is_in = h.0.is_in; mode = h.0.mode }, all_move m T d ks h.1)

-- the side of the first node's mode is that of all
pub spins : (m : MachinePair) (T : Table) (modes : List Mode) (ks : List ℕ) → AreModes m T modes → IsCycle (lone_moves m T) ks → BeginsLeast (lone_moves m T) ks
    → Spins m T (cycle_side modes ks) ks
spins m T modes [] e h least = absurd h
spins m T modes (k ∷ ks) e h least =
    let edge = h.0 in
    let o = edge_mode m T k edge.place (first_or ks k) edge.targets edge.from edge.is_in in
    let read : slice_get modes k ≡ Some o.mode = mode_place m T modes k o.from.node o.mode e o.from.is_in o.from.mode in
    let side : o.mode ≡ lone_mode (cycle_side modes (k ∷ ks)) = lone_side o.mode o.from.alone ∙ ap (λ r. lone_mode (side_of_mode r)) (sym read) in
    record {
      follow = h;
      least = least;
      alone = all_move m T (cycle_side modes (k ∷ ks)) (k ∷ ks)
          (subst (λ y. AllByRecursion (IsLone m T y) (k ∷ ks)) side (all_lone m T k ks k o.mode h o.from));
    }
