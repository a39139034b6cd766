-- Legal lists of moves make well-formed tables, and their certificates are lawful.
use Rattle.std.proofs.Common.{◌≡◌, inl, inr, ℕ, zero, suc, ◌+◌, refl, ap, ap₂, sym, subst, ◌∙◌, arith, Bool, true, false, cond, List, [], ◌∷◌, ◌++◌, map, Some}
use Rattle.std.proofs.Common.{None}
use Rattle.std.proofs.lemmas.List.{length-append, length-set}
use Rattle.std.proofs.lemmas.Option.{slice_get_within, get_or_from_slice_get}
use Rattle.std.specs.Prelude.{not, ◌&&◌, ◌||◌, slice_get, slice_set}
use Rattle.std.specs.List.{list_all, list_any, AllByRecursion}
use Rattle.std.proofs.lemmas.Bool.{or_parts, or_from, and_from, not-true}
use Rattle.base_laws.proofs.Booleans.{and_first, and_second}
use Rattle.base_laws.proofs.Quantifiers.{each_weaker, each_at}
use Rattle.fs_model.specs.SoundMachines.{IsSound}
use Rattle.fs_model.specs.Machines.{Fsmd}
use Rattle.fs_cut.specs.Paths.{Point, Path, is_point}
use Rattle.fs_cut.specs.Paths as cut
use Rattle.fs_cut.specs.Covers.{same_point, paths_of}
use Rattle.fs_cut.proofs.Listed.{passes_end, listed_is_path}
use Rattle.fs_pair.specs.declared.positions.Position.{Position}
use Rattle.cert_bisimulation.specs.declared.mode.Mode.{Mode}
use Rattle.cert_bisimulation.specs.declared.mode.Mode.TheVariants.{Both, Left, Right, End}
use Rattle.propagate.specs.Execution.{Post, end_of, arrive}
use Rattle.cert_model.specs.Facts.{Fact, vector_of}
use Rattle.search_tables.specs.declared.moves.Move.{Move}
use Rattle.search_tables.specs.SearchTables.{MachinePair, positions_of, SearchNode, Table, first_table, Unknown, Known, target_from, is_at, with_fact, PathPair}
use Rattle.search_tables.specs.Next.{paths_in, Change, next_move}
use Rattle.search_tables.specs.Legal.{MovesLead, Makes}
use Rattle.search_tables.specs.TableInvariants.{nodes_differ, IsWellFormed}
use Rattle.search_tables.proofs.Lists.{all_in, all_from, all_flat}
use Rattle.search_tables.proofs.Targets.{known_same}
use Rattle.search_tables.proofs.Changing.{next_does, Adds, Weakens, arrives_so}

-- ---- lists

all_snoc : (f : SearchNode → Bool) (ns : List SearchNode) (x : SearchNode) → list_all f ns ≡ true → f x ≡ true → list_all f (ns ++ x ∷ []) ≡ true
all_snoc f [] x h g = and_from (f x) true g refl
all_snoc f (n ∷ ns) x h g = and_from (f n) (list_all f (ns ++ x ∷ [])) (and_first (f n) (list_all f ns) h)
    (all_snoc f ns x (and_second (f n) (list_all f ns) h) g)

any_snoc : (f : SearchNode → Bool) (ns : List SearchNode) (x : SearchNode) → list_any f ns ≡ false → f x ≡ false → list_any f (ns ++ x ∷ []) ≡ false
any_snoc f [] x h g = or_from (f x) false g refl
any_snoc f (n ∷ ns) x h g =
    let s = or_parts (f n) (list_any f ns) h in
    or_from (f n) (list_any f (ns ++ x ∷ [])) s.0 (any_snoc f ns x s.1 g)

all_set : (f : SearchNode → Bool) (ns : List SearchNode) (k : ℕ) (n x : SearchNode) → slice_get ns k ≡ Some n → f x ≡ f n
    → list_all f (slice_set ns k x) ≡ list_all f ns
all_set f [] k n x e h = refl
all_set f (a ∷ ns) zero n x e h = let s : a ≡ n = cc e in ap (λ b. b && list_all f ns) (h ∙ ap f (sym s))
all_set f (a ∷ ns) (suc k) n x e h = ap (λ b. f a && b) (all_set f ns k n x e h)

any_set : (f : SearchNode → Bool) (ns : List SearchNode) (k : ℕ) (n x : SearchNode) → slice_get ns k ≡ Some n → f x ≡ f n
    → list_any f (slice_set ns k x) ≡ list_any f ns
any_set f [] k n x e h = refl
any_set f (a ∷ ns) zero n x e h = let s : a ≡ n = cc e in ap (λ b. b || list_any f ns) (h ∙ ap f (sym s))
any_set f (a ∷ ns) (suc k) n x e h = ap (λ b. f a || b) (any_set f ns k n x e h)

-- ---- nodes differ
pub known_in : (P Q : Point) (i : ℕ) (ns : List SearchNode) (k : ℕ) (n : SearchNode) → target_from P Q i ns ≡ Known k n
    → (j : ℕ) × (k ≡ i + j) × (slice_get ns j ≡ Some n)
known_in P Q i [] k n e = absurd (cc e)
known_in P Q i (a ∷ ns) k n e = by_test (is_at P Q a) e (λ g. known_in P Q (i + 1) ns k n g)
  where
    by_test : (b : Bool) → cond b (Known i a) (target_from P Q (i + 1) ns) ≡ Known k n
        → (target_from P Q (i + 1) ns ≡ Known k n → (j : ℕ) × (k ≡ (i + 1) + j) × (slice_get ns j ≡ Some n))
        → (j : ℕ) × (k ≡ i + j) × (slice_get (a ∷ ns) j ≡ Some n)
    by_test true g again = let s = known_same i k a n g in (0, omega (arith, s.0), ap Some s.1)
    by_test false g again = let r = again g in (suc r.0, omega (arith, r.1), r.2)

unknown_step : (P Q : Point) (i : ℕ) (a : SearchNode) (ns : List SearchNode) → target_from P Q i (a ∷ ns) ≡ Unknown
    → (is_at P Q a ≡ false) × (target_from P Q (i + 1) ns ≡ Unknown)
unknown_step P Q i a ns e = by_test (is_at P Q a) refl e
  where
    by_test : (b : Bool) → is_at P Q a ≡ b → cond b (Known i a) (target_from P Q (i + 1) ns) ≡ Unknown
        → (is_at P Q a ≡ false) × (target_from P Q (i + 1) ns ≡ Unknown)
    by_test true q g = absurd (cc g)
    by_test false q g = (q, g)

differ_snoc : (ns : List SearchNode) (x : SearchNode) (i : ℕ) → target_from x.left x.right i ns ≡ Unknown → nodes_differ ns ≡ true
    → nodes_differ (ns ++ x ∷ []) ≡ true
differ_snoc [] x i t h = refl
differ_snoc (n ∷ ns) x i t h =
    let f = λ (k : SearchNode). same_point n.left k.left && same_point n.right k.right in
    let s = unknown_step x.left x.right i n ns t in
    let none : list_any f ns ≡ false = not-true (list_any f ns) (and_first (not (list_any f ns)) (nodes_differ ns) h) in
    and_from (not (list_any f (ns ++ x ∷ []))) (nodes_differ (ns ++ x ∷ [])) (ap not (any_snoc f ns x none s.0))
    (differ_snoc ns x (i + 1) s.1 (and_second (not (list_any f ns)) (nodes_differ ns) h))

differ_set : (ns : List SearchNode) (k : ℕ) (n : SearchNode) (f : Fact) → slice_get ns k ≡ Some n → nodes_differ (with_fact ns k n f) ≡ nodes_differ ns
differ_set [] k n f e = refl
differ_set (a ∷ ns) zero n f e = let s : a ≡ n = cc e in
    ap (λ (z : SearchNode). not (list_any (λ k. same_point z.left k.left && same_point z.right k.right) ns) && nodes_differ ns) (sym s)
differ_set (a ∷ ns) (suc k) n f e =
    ap₂ (λ b c. not b && c)
    (any_set (λ j. same_point a.left j.left && same_point a.right j.right) ns k n (record { left = n.left; right = n.right; fact = f }) e refl)
    (differ_set ns k n f e)

-- ---- moves lead to points
module _ (m : Fsmd) (sound : IsSound m) where
  abbrev EndsWell : Path → Type 0
  EndsWell p = is_point m p.to ≡ true

  paths_end_well : (P : Point) → is_point m P ≡ true → AllByRecursion EndsWell (paths_of m P)
  paths_end_well P h = all_in EndsWell (paths_of m P) (λ k p e.
      let is = listed_is_path m P p sound h (k, slice_get_within (paths_of m P) k p e, get_or_from_slice_get (paths_of m P) k p p e) in
      passes_end m is.rest (cut.target_of m (cut.state_of m p.from) p.branch) p.to is.passes)

module _ (m : MachinePair) (sound_left : IsSound m.left) (sound_right : IsSound m.right) where
  abbrev AtPoints : SearchNode → Type 0
  AtPoints n = is_point m.left n.left && is_point m.right n.right ≡ true

  abbrev LeadsToPoints : SearchNode → PathPair → Type 0
  LeadsToPoints n x = is_point m.left (end_of n.left x.left) && is_point m.right (end_of n.right x.right) ≡ true

  moves_lead : (n : SearchNode) (x : Mode) → AtPoints n → AllByRecursion (LeadsToPoints n) (paths_in m n x)
  moves_lead n Both h =
      let l = and_first (is_point m.left n.left) (is_point m.right n.right) h in
      let r = and_second (is_point m.left n.left) (is_point m.right n.right) h in
      all_flat (LeadsToPoints n) (λ p. map (λ q. record { left = Some p; right = Some q }) (paths_of m.right n.right)) (paths_of m.left n.left)
      (each_weaker (EndsWell m.left sound_left)
      (λ p. AllByRecursion (LeadsToPoints n) (map (λ q. record { left = Some p; right = Some q }) (paths_of m.right n.right))) (paths_of m.left n.left)
      (λ p g. all_from (EndsWell m.right sound_right) (LeadsToPoints n) (λ q. record { left = Some p; right = Some q }) (paths_of m.right n.right)
      (λ q k. and_from (is_point m.left p.to) (is_point m.right q.to) g k) (paths_end_well m.right sound_right n.right r))
      (paths_end_well m.left sound_left n.left l))
  moves_lead n Left h =
      all_from (EndsWell m.left sound_left) (LeadsToPoints n) (λ p. record { left = Some p; right = None }) (paths_of m.left n.left)
      (λ p g. and_from (is_point m.left p.to) (is_point m.right n.right) g (and_second (is_point m.left n.left) (is_point m.right n.right) h))
      (paths_end_well m.left sound_left n.left (and_first (is_point m.left n.left) (is_point m.right n.right) h))
  moves_lead n Right h =
      all_from (EndsWell m.right sound_right) (LeadsToPoints n) (λ q. record { left = None; right = Some q }) (paths_of m.right n.right)
      (λ q g. and_from (is_point m.left n.left) (is_point m.right q.to) (and_first (is_point m.left n.left) (is_point m.right n.right) h) g)
      (paths_end_well m.right sound_right n.right (and_second (is_point m.left n.left) (is_point m.right n.right) h))
  moves_lead n End h = tt

  abbrev stands : SearchNode → Bool
  stands n = is_point m.left n.left && is_point m.right n.right

  all_at : (ns : List SearchNode) (k : ℕ) (n : SearchNode) → list_all stands ns ≡ true → slice_get ns k ≡ Some n → AtPoints n
  all_at [] k n h e = absurd (cc e)
  all_at (a ∷ ns) zero n h e = let s : a ≡ n = cc e in ap stands (sym s) ∙ and_first (stands a) (list_all stands ns) h
  all_at (a ∷ ns) (suc k) n h e = all_at ns k n (and_second (stands a) (list_all stands ns) h) e

  -- ---- tables
  added_forms : (ps : List Position) (T U : Table) (P Q : Point) (post : Post) → IsWellFormed m T → is_point m.left P && is_point m.right Q ≡ true
      → Adds ps T U P Q post → IsWellFormed m U
  added_forms ps T U P Q post w to a =
      let x : SearchNode = record { left = P; right = Q; fact = a.fact } in
      subst (IsWellFormed m) a.is (record {
        few = omega (arith, length-append T (x ∷ []), a.place_left);
        points = all_snoc stands T x w.points to;
        differ = differ_snoc T x 0 a.target w.differ;
      })

  weakened_forms : (T U : Table) (P Q : Point) (post : Post) → IsWellFormed m T → Weakens T U P Q post → IsWellFormed m U
  weakened_forms T U P Q post w a =
      let j = known_in P Q 0 T a.number a.node a.target in
      let at : a.number ≡ j.0 = omega (arith, j.1) in
      let is_in : slice_get T a.number ≡ Some a.node = ap (slice_get T) at ∙ j.2 in
      let x : SearchNode = record { left = a.node.left; right = a.node.right; fact = a.fact } in
      subst (IsWellFormed m) a.is (record {
        few = omega (arith, length-set T a.number x, w.few);
        points = all_set stands T a.number a.node x is_in refl ∙ w.points;
        differ = differ_set T a.number a.node a.fact is_in ∙ w.differ;
      })

  next_forms : (T U : Table) (y : Move) → IsWellFormed m T → next_move m T ≡ Change y U → IsWellFormed m U
  next_forms T U y w h =
      let d = next_does m T U y h in
      let at = all_at T d.place d.node w.points d.is_in in
      let to = each_at (LeadsToPoints d.node) (paths_in m d.node d.mode) d.number d.paths (moves_lead d.node d.mode at) d.listed in
      let P = end_of d.node.left d.paths.left in
      let Q = end_of d.node.right d.paths.right in
      let a = arrives_so (positions_of m) T U P Q
      (arrive m.left m.right d.node.fact.literals (vector_of d.node.fact.positions) d.paths.left d.paths.right) d.does in
      elim a.changes [ inl x ↦ added_forms (positions_of m) T U P Q a.post w to x | inr x ↦ weakened_forms T U P Q a.post w x ]

  lead_forms : (moves : List Move) (S T : Table) → IsWellFormed m S → MovesLead m S moves T → IsWellFormed m T
  lead_forms [] S T w h = subst (IsWellFormed m) h w
  lead_forms (x ∷ xs) S T w h = lead_forms xs h.0 T (next_forms S h.0 x w h.2) h.3

  pub well_formed : (moves : List Move) (T : Table) → Makes m moves T → IsWellFormed m T
  well_formed moves T h = lead_forms moves (first_table m) T (record { few = omega arith; points = refl; differ = refl }) h.lead
