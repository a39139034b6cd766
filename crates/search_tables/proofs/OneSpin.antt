-- All cycles that begin at the least node are of one side, and begin at one node.
use Rattle.std.proofs.Common.{◌≡◌, ℕ, refl, sym, ◌∙◌, ap, subst, arith, List, [], ◌∷◌, Some}
use Rattle.std.specs.Prelude.{◌≤◌, slice_get}
use Rattle.fs_model.specs.declared.sides.Side.{Side}
use Rattle.fs_model.specs.declared.sides.Side.TheVariants as side
use Rattle.propagate.specs.Modes.{Found}
use Rattle.search_tables.specs.SearchTables.{MachinePair, Table}
use Rattle.search_tables.specs.Next.{mode_at}
use Rattle.search_tables.specs.LoneMoves.{lone_mode, MovesAlone, Spins}

pub record OneSpin (d e : Side) (xs ys : List ℕ) : Type 0 where
  pub side : d ≡ e
  pub first : slice_get xs 0 ≡ slice_get ys 0

of_mode : (d e : Side) → lone_mode d ≡ lone_mode e → d ≡ e
of_mode side.Left side.Left h = refl
of_mode side.Left side.Right h = absurd (cc h)
of_mode side.Right side.Left h = absurd (cc h)
of_mode side.Right side.Right h = refl

one_side : (m : MachinePair) (T : Table) (d e : Side) (k : ℕ) → MovesAlone m T d k → MovesAlone m T e k → d ≡ e
one_side m T d e k p q =
    let same : p.node ≡ q.node = (let g = p.is_in in let h = q.is_in in cc) in
    let f : Found (lone_mode d) ≡ Found (lone_mode e) = sym p.mode ∙ ap (mode_at m) same ∙ q.mode in
    of_mode d e (cc f)

pub one_spin : (m : MachinePair) (T : Table) (d e : Side) (xs ys : List ℕ) → Spins m T d xs → Spins m T e ys → OneSpin d e xs ys
one_spin m T d e [] ys p q = absurd p.follow
one_spin m T d e (x ∷ xs) [] p q = absurd q.follow
one_spin m T d e (x ∷ xs) (y ∷ ys) p q =
    let low : x ≤ y = p.least (y ∷ ys) 0 y q.follow refl in
    let high : y ≤ x = q.least (x ∷ xs) 0 x p.follow refl in
    let same : y ≡ x = omega (arith, low, high) in
    record { side = one_side m T d e x p.alone.0 (subst (MovesAlone m T e) same q.alone.0); first = ap Some (sym same) }
