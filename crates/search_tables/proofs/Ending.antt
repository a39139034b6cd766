-- A legal list of moves that ends has no other beside it.
use Rattle.std.proofs.Common.{◌≡◌, ℕ, refl, ap₂, sym, subst, ◌∙◌, List, [], ◌∷◌, None}
use Rattle.search_tables.specs.Graphs.{AreRanks}
use Rattle.search_tables.proofs.Falls.{no_cycle}
use Rattle.search_tables.specs.declared.moves.Move.{Move}
use Rattle.search_tables.specs.SearchTables.{MachinePair, Table, first_table}
use Rattle.search_tables.specs.Next.{Change, next_move, IsClosed}
use Rattle.search_tables.specs.Legal.{difference_in, MovesLead}
use Rattle.search_tables.specs.LoneMoves.{lone_moves}
use Rattle.search_tables.specs.Obstacles.{Obstacle, Stuck, Spin, Wide, Large, Exhausted, StandsIn, IsObstacle}
use Rattle.search_tables.proofs.Prefixes.{same_change}

-- no legal list goes on from a table
abbrev pub Ends : MachinePair → Table → Type 0
Ends m T = (x : Move) (V : Table) → difference_in m T ≡ None → next_move m T ≡ Change x V → ⊥

pub stands_ends : (m : MachinePair) (T : Table) (o : Obstacle) → StandsIn m T o → Ends m T
stands_ends m T (Stuck k x) h y V s e = cc (h, s)
stands_ends m T (Spin d xs) h y V s e = cc (h.1, e)
stands_ends m T (Wide at) h y V s e = cc (h.3, e)
stands_ends m T (Large at) h y V s e = cc (h.3, e)
stands_ends m T (Exhausted at what) h y V s e = cc (h.1, e)

-- all legal lists of moves that end make one table
pub same_moves : (m : MachinePair) (xs ys : List Move) (S T U : Table) → Ends m T → Ends m U → MovesLead m S xs T → MovesLead m S ys U → (xs ≡ ys) × (T ≡ U)
same_moves m [] [] S T U t u h k = (refl, sym h ∙ k)
same_moves m [] (y ∷ ys) S T U t u h k = absurd (subst (Ends m) (sym h) t y k.0 k.1 k.2)
same_moves m (x ∷ xs) [] S T U t u h k = absurd (subst (Ends m) (sym k) u x h.0 h.1 h.2)
same_moves m (x ∷ xs) (y ∷ ys) S T U t u h k =
    let e = same_change (next_move m S) x y h.0 k.0 h.2 k.2 in
    let r = same_moves m xs ys h.0 T U t u h.3 (subst (λ V. MovesLead m V ys U) (sym e.1) k.3) in
    (ap₂ (λ z zs. z ∷ zs) e.0 r.0, r.1)

pub one_end : (m : MachinePair) (xs ys : List Move) (o p : Obstacle) (h : IsObstacle m xs o) (k : IsObstacle m ys p) → (xs ≡ ys) × (h.table ≡ k.table)
one_end m xs ys o p h k = same_moves m xs ys (first_table m) h.table k.table (stands_ends m h.table o h.stands)
    (stands_ends m k.table p k.stands) h.makes.lead k.makes.lead

pub no_certificate : (m : MachinePair) (T : Table) (o : Obstacle) (ranks : List ℕ) → StandsIn m T o → IsClosed m T → difference_in m T ≡ None
    → AreRanks (lone_moves m T) ranks → ⊥
no_certificate m T (Stuck k x) ranks h c s a = cc (h, s)
no_certificate m T (Spin d xs) ranks h c s a = no_cycle (lone_moves m T) ranks xs a h.2.follow
no_certificate m T (Wide at) ranks h c s a = cc (h.3, c)
no_certificate m T (Large at) ranks h c s a = cc (h.3, c)
no_certificate m T (Exhausted at what) ranks h c s a = cc (h.1, c)
