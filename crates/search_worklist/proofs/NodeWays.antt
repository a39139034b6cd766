-- What the ways of a node tell of its moves.
use Rattle.std.proofs.Common.{◌≡◌, ℕ, zero, suc, Bool, true, false, refl, ap, ap₂, sym, subst, ◌∙◌}
use Rattle.std.proofs.Common.{List, [], ◌∷◌, map, option_map, Option, Some, None, Ok, Err}
use Rattle.std.specs.Prelude.{slice_get}
use Rattle.fs_model.specs.Machines.{Fsmd}
use Rattle.fs_model.specs.declared.sides.Side.TheVariants.{Left, Right}
use Rattle.fs_model.specs.declared.sides.Pos.{Pos}
use Rattle.fs_cut.specs.Paths.{Path}
use Rattle.fs_cut.specs.Covers.{paths_of}
use Rattle.nf_terms.specs.declared.form.Nf.{Nf}
use Rattle.nf_terms.specs.declared.stop.NfStop.{NfStop}
use Rattle.nf_terms.specs.declared.stop.NfStop.TheVariants as stop
use Rattle.nf_terms.specs.Computed.{Computed, Done, Wide, Large, Answers, after}
use Rattle.nf_rel.specs.Literals.{NormalLiteral, is_refuted}
use Rattle.sym_paths.specs.Execution.{Post, execute, arrive}
use Rattle.sym_facts.specs.Facts.{vector_of}
use Rattle.sym_entailment.specs.Outcomes.{way_in, refuted_together}
use Rattle.search_tables.specs.declared.moves.Move.{Move}
use Rattle.search_tables.specs.SearchTables.{MachinePair, SearchNode, arrival}
use Rattle.search_places.specs.NodeRecords.{NodeRecord, table_of}
use Rattle.search_places.specs.Moves.{path_in, paths_at}
use Rattle.search_worklist.specs.declared.node_ways.NodeWays.{NodeWays}
use Rattle.search_worklist.specs.NodeWays.{way_over, way_by, refuted_by, AreWays, Tells}
use Rattle.search_worklist.specs.declared.trial.Trial.TheVariants.{Refuted}
use Rattle.search_worklist.specs.Trials.{TriesAt}
use Rattle.search_worklist.proofs.Judged.{arrive_stops}

-- what the law of arrivals says
abbrev pub Law : Type 0
Law = (a b : Fsmd) (ls : List NormalLiteral) (v : List (Pos × Nf)) (l r : Path)
    → after (arrive a b ls v (Some l) (Some r)) (λ post. Done (is_refuted post.conditions))
    ≡ refuted_together ls (execute a l Left v) (execute b r Right v)

at_place : {X Y : Type 0} (f : X → Y) (xs : List X) (k : ℕ) → slice_get (map f xs) k ≡ option_map f (slice_get xs k)
at_place f [] k = refl
at_place f (x ∷ xs) zero = refl
at_place f (x ∷ xs) (suc k) = at_place f xs k

by_branch : (f : Path → Path × Computed Post) (ps : List Path) (o : Option ℕ) → way_by (map f ps) o ≡ option_map f (path_in ps o)
by_branch f ps None = refl
by_branch f ps (Some k) = at_place f ps k

arrived : (o : Computed Post) → Tells o (after o (λ post. Done (is_refuted post.conditions)))
arrived (Done post) = by_test (is_refuted post.conditions) refl
  where
    by_test : (t : Bool) → is_refuted post.conditions ≡ t → Tells (Done post) (Done t)
    by_test true g = (post, refl, g)
    by_test false g = tt
arrived (Wide l r) = refl
arrived (Large u d) = refl

module _ (law : Law) (m : MachinePair) (n : SearchNode) where
  by_paths : (l r : Option Path)
      → Tells (arrive m.left m.right n.fact.literals (vector_of n.fact.positions) l r)
      (refuted_by n.fact.literals (option_map (λ p. way_over m.left Left n.fact p) l) (option_map (λ p. way_over m.right Right n.fact p) r))
  by_paths None r = tt
  by_paths (Some l) None = tt
  by_paths (Some l) (Some r) =
      subst (Tells (arrive m.left m.right n.fact.literals (vector_of n.fact.positions) (Some l) (Some r)))
      (law m.left m.right n.fact.literals (vector_of n.fact.positions) l r)
      (arrived (arrive m.left m.right n.fact.literals (vector_of n.fact.positions) (Some l) (Some r)))

  by_ways : (lefts rights : List (Path × Computed Post)) (at : Move) → lefts ≡ map (λ p. way_over m.left Left n.fact p) (paths_of m.left n.left)
      → rights ≡ map (λ p. way_over m.right Right n.fact p) (paths_of m.right n.right)
      → Tells (arrival m n (paths_at m n at)) (refuted_by n.fact.literals (way_by lefts at.left) (way_by rights at.right))
  by_ways lefts rights at e f =
      subst (Tells (arrival m n (paths_at m n at)))
      (sym (ap₂ (refuted_by n.fact.literals)
      (ap (λ ws. way_by ws at.left) e ∙ by_branch (λ p. way_over m.left Left n.fact p) (paths_of m.left n.left) at.left)
      (ap (λ ws. way_by ws at.right) f ∙ by_branch (λ p. way_over m.right Right n.fact p) (paths_of m.right n.right) at.right)))
      (by_paths (path_in (paths_of m.left n.left) at.left) (path_in (paths_of m.right n.right) at.right))

-- the ways of the node of a record
pub ways_tell : Law → (m : MachinePair) (ls : List NodeRecord) (w : NodeWays) (l : NodeRecord) (at : Move) → AreWays m (table_of ls) w
    → slice_get (table_of ls) at.node ≡ Some l.node → at.node ≡ w.node
    → Tells (arrival m l.node (paths_at m l.node at))
    (refuted_by l.node.fact.literals (way_by (map way_in w.lefts.items) at.left) (way_by (map way_in w.rights.items) at.right))
ways_tell law m ls w l at k g e =
    let same : k.node ≡ l.node = (let a = k.is_in in let b = ap (slice_get (table_of ls)) (sym e) ∙ g in cc) in
    by_ways law m l.node (map way_in w.lefts.items) (map way_in w.rights.items) at
    (k.lefts ∙ ap (λ (n : SearchNode). map (λ p. way_over m.left Left n.fact p) (paths_of m.left n.left)) same)
    (k.rights ∙ ap (λ (n : SearchNode). map (λ p. way_over m.right Right n.fact p) (paths_of m.right n.right)) same)

-- a move that is refuted by them
pub refuted_tries : (m : MachinePair) (ls : List NodeRecord) (at : Move) (l : NodeRecord) (c : Computed Bool) → slice_get ls at.node ≡ Some l
    → Tells (arrival m l.node (paths_at m l.node at)) c → c ≡ Done true → TriesAt m ls at (Ok Refuted)
refuted_tries m ls at l c g t e =
    record { node_record = l; is_in = g; tries = subst (Tells (arrival m l.node (paths_at m l.node at))) e t }

-- an event that they tell
pub stopped_tries : (m : MachinePair) (ls : List NodeRecord) (at : Move) (l : NodeRecord) (c : Computed Bool) (s : NfStop) → slice_get ls at.node ≡ Some l
    → Tells (arrival m l.node (paths_at m l.node at)) c → Answers (Err s) c → TriesAt m ls at (Err s)
stopped_tries m ls at l c s g t a =
    record { node_record = l; is_in = g; tries = arrive_stops m (table_of ls) l.node (paths_at m l.node at) s (by_stop s a) }
  where
    by_stop : (s : NfStop) → Answers (Err s) c → Answers (Err s) (arrival m l.node (paths_at m l.node at))
    by_stop (stop.Wide x y) h = subst (Tells (arrival m l.node (paths_at m l.node at))) h t
    by_stop (stop.Large x y) h = subst (Tells (arrival m l.node (paths_at m l.node at))) h t
    by_stop stop.NoMemory h = tt
